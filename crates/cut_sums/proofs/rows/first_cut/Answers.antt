use Rattle.std.proofs.Common.{length, ap, arith}
use Rattle.std.specs.Prelude.{List}
use Rattle.bp_theory.specs.declared.Cut.{Cut}
use Rattle.cut_sums.proofs.RowLemmas.{first_behind}
use Rattle.cut_sums.proofs.rows.first_cut.Goals as goal

pub overflow_sub-result : goal.overflow_sub-result
overflow_sub-result c =
    let behind = first_behind c.args.b.now c.named_rows-behind.ensures.formed in
    omega (arith, behind, c.named_rows-behind.ensures.rows, ap (λ (cuts : List Cut). length cuts) c.cuts.ensures.cuts)

pub returns-clause-number : goal.returns-clause-number
returns-clause-number c =
    let behind = first_behind c.args.b.now c.named_rows-behind.ensures.formed in
    omega (arith, behind, c.named_rows-behind.ensures.rows, ap (λ (cuts : List Cut). length cuts) c.cuts.ensures.cuts)
