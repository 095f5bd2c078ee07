use Rattle.std.proofs.Common.{length, List, ap, arith}
use Rattle.bp_theory.specs.declared.Cut.{Cut}
use Rattle.bp_model.specs.Named.{NamedProgram}
use Rattle.report_lines.proofs.LinkRows.{rows_counted}
use Rattle.report_lines.proofs.sizes.link_rows.Goals as goal

pub overflow_sub-links : goal.overflow_sub-links
overflow_sub-links c =
    omega (arith, rows_counted c.args.b.now c.named_rows.ensures.formed, c.named_rows.ensures.rows, c.rows.ensures.rows, ap (λ (m : NamedProgram). length m.program.rows) c.model.ensures.model, ap (λ (cs : List Cut). length cs) c.cuts.ensures.cuts)

pub returns : goal.returns
returns c =
    omega (arith, rows_counted c.args.b.now c.named_rows.ensures.formed, c.named_rows.ensures.rows, c.rows.ensures.rows, ap (λ (m : NamedProgram). length m.program.rows) c.model.ensures.model, ap (λ (cs : List Cut). length cs) c.cuts.ensures.cuts)
