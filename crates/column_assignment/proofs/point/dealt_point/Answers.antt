-- One variable more has its number.
use Rattle.std.proofs.Common.{◌≡◌, sym, ap, subst, ◌∙◌, ℕ, ◌+◌, ◌++◌, ◌∷◌, [], length, arith, ⊎_elim, rules}
use Rattle.std.specs.Prelude.{ℤ}
use Rattle.std.proofs.lemmas.Bool.{cases_lt}
use Rattle.std.proofs.lemmas.List.{length-append}
use Rattle.bp_theory.specs.Program.{value_at}
use Rattle.block_program.specs.Blocked.{HasCopyAt}
use Rattle.column_assignment.specs.Deals.{point_at}
use Rattle.column_assignment.proofs.DealLemmas.{number_last, number_before}
use Rattle.column_assignment.proofs.point.dealt_point.Goals as goal

pub loop-var-preserved : goal.loop-var-preserved
loop-var-preserved c =
    let old = c.loop-var.point.items in
    let number : ℤ = c.number_of.result in
    let at : ℕ × ℕ = c.var_place-block.result in
    let pushed : c.push.new.self.items ≡ old ++ number ∷ [] = search rules in
    record {
      each = ap length pushed ∙ length-append old (number ∷ []) ∙ ap (λ n. n + 1) c.loop-var.invariant.each;
      numbers = λ v m. ⊎_elim
          (λ less.
          let had = c.loop-var.invariant.numbers v less in
          (had.0, had.1, ap (λ ns. value_at ns v) pushed ∙ number_before old number v (omega (arith, less, c.loop-var.invariant.each)) ∙ had.2))
          (λ more.
          let same : v ≡ c.loop-var.var = omega (arith, more, m) in (
            at,
            subst (λ w. HasCopyAt c.args.b.now.blocking.blocks w at) (sym same) c.var_place-block.ensures.copy,
            ap (λ ns. value_at ns v) pushed ∙ number_last old number v (c.loop-var.invariant.each ∙ sym same)
                ∙ c.number_of.ensures ∙ ap (λ (n : ℕ). value_at (point_at c.args.used.now n) at.1) c.column_of-column.ensures,
          ))
          (cases_lt v c.loop-var.var);
    }
