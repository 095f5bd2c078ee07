use Rattle.std.proofs.Common.{List, length, ap, arith}
use Rattle.bp_theory.specs.declared.Cut.{Cut}
use Rattle.bp_model.specs.Named.{NamedProgram}
use Rattle.cert_text.proofs.NamedRows.{rows_within}
use Rattle.cert_text.proofs.program.link_rows.Goals as goal

pub overflow_sub-behind : goal.overflow_sub-behind
overflow_sub-behind c =
    let rows = ap (λ (m : NamedProgram). length m.program.rows) c.model.ensures.model in
    omega (arith, rows_within c.args.b.now c.named_rows.ensures.formed, c.named_rows.ensures.rows, c.rows.ensures.rows, rows)

pub overflow_sub-result : goal.overflow_sub-result
overflow_sub-result c =
    let rows = ap (λ (m : NamedProgram). length m.program.rows) c.model.ensures.model in
    let cuts = ap (λ (cs : List Cut). length cs) c.cuts.ensures.cuts in
    omega (arith, rows_within c.args.b.now c.named_rows.ensures.formed, c.named_rows.ensures.formed.cuts_kept.few, c.named_rows.ensures.rows, c.rows.ensures.rows, rows, cuts)
