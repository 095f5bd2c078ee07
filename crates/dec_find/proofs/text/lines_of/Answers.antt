use Rattle.std.proofs.Common.{◌≤◌, ℕ, List, take, length, arith, sym, ◌∙◌, ap, subst, Option, Some}
use Rattle.std.specs.List.{zip}
use Rattle.dec_write.specs.Text.{AreLines}
use Rattle.dec_write.proofs.TextLemmas.{lines_next, zip_all}
use Rattle.dec_find.proofs.text.lines_of.Goals as goal

pub loop-row-preserved : goal.loop-row-preserved
loop-row-preserved c =
    let names = c.args.m.now.row_names in
    let places = c.args.dec.now.places in
    let added = c.in_ok-add.ensures c.args.dec.now.blocks (take c.loop-row.row (zip names places)) c.loop-row.invariant in
    lines_next c.args.dec.now.blocks c.loop-row.row names places c.as_bytes.result.now c.block_of.result c.add.new.self
    (c.row_name.ensures ∙ ap Some (sym c.as_bytes.ensures.value)) c.block_of.ensures added

pub returns : goal.returns
returns c =
    let names = c.args.m.now.row_names in
    let places = c.args.dec.now.places in
    let all : length names ≤ c.loop-row.row = omega (arith, c.rows-row-end.ensures.kept.row_named, c.rows-row-end.ensures.rows) in
    subst (λ (rows : List (List ℕ × Option ℕ)). AreLines c.args.dec.now.blocks rows c.loop-row.lines) (zip_all names places c.loop-row.row all) c.loop-row.invariant
