use Rattle.std.proofs.Common.{◌∙◌, List, Option, ℕ, ap, arith}
use Rattle.bp_theory.specs.declared.Row.{Row}
use Rattle.block_build.specs.Gather.{all_sides}
use Rattle.block_build.proofs.BlockingLemmas.{made}
use Rattle.block_build.proofs.CopyLemmas.{links_counted}
use Rattle.block_build.proofs.parts.made_parts.Goals as goal

pub returns : goal.returns
returns c =
    let s = c.args.source.now in
    made s c.in_ok-blocks.blocks.items c.push_lone_blocks.new.all.items c.from_vec.result c.in_ok-named.named.items c.from_vec-2.result c.saturating_sub-links.result c.requires
    (omega (arith, c.saturating_sub-links.ensures, c.rows.ensures.rows, c.requires.end, links_counted s.model.now.program s.dec.now s.homes.items c.requires.homes))
    c.in_ok-blocks.ensures.blocks c.in_ok-push_lone_blocks.ensures.blocks c.in_ok-push_lone_blocks.ensures.spans c.from_vec.ensures
    (c.in_ok-named.ensures
    ∙ ap (λ (rs : List Row). all_sides rs c.places.result.now c.saturating_sub-links.result s.cuts.now) c.all_rows-rows.ensures.rows
    ∙ ap (λ (ps : List (Option ℕ)). all_sides s.model.now.program.rows ps c.saturating_sub-links.result s.cuts.now) c.places.ensures)
    c.from_vec-2.ensures
