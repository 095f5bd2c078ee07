use Rattle.std.proofs.Common.{◌≡◌, ◌∙◌, ap, sym, subst, List, ℕ, length}
use Rattle.std.specs.Prelude.{OnOk}
use Rattle.bp_model.specs.Named.{NamedProgram}
use Rattle.report_lines.proofs.Pieces.{pushed_if_ok}
use Rattle.report_lines.proofs.BlockRows.{rows_known, line_of_parts}
use Rattle.report_lines.proofs.blocks.push_block.Goals as goal

pub push_row_names-requires : goal.push_row_names-requires
push_row_names-requires c =
    rows_known c.args.b.now.dec.places c.args.rows.now c.args.block (length c.model.result.now.program.rows)
    (c.model.ensures.formed.places.each ∙ ap (λ (m : NamedProgram). length m.program.rows) (sym c.model.ensures.model)) c.requires.rows

pub returns : goal.returns
returns c =
    subst (λ (text : List ℕ). OnOk c.extend_from_slice.result (c.extend_from_slice.new.self.items ≡ text))
    (line_of_parts c.args.b.now c.args.block c.model.result.now c.model-2.result.now c.args.rows.now c.vars_of-vars.result.now c.args.text.now.items _ _ _
    c.model.ensures.model c.model-2.ensures.model c.requires.rows c.vars_of-vars.ensures.vars
    c.in_ok-push_named.ensures c.in_ok-push_row_names.ensures c.in_ok-push_var_names.ensures)
    (pushed_if_ok c.extend_from_slice.result _ _ _ c.extend_from_slice.ensures.items)
