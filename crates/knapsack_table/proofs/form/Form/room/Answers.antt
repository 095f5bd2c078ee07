use Rattle.std.proofs.Common.{◌∙◌, ap, sym, subst, ◌^◌, ◌≤◌, length, List}
use Rattle.bp_theory.specs.declared.Span.{Span}
use Rattle.pricing_problem.specs.Form.{cost_size}
use Rattle.knapsack_table.proofs.FormLaws.{root_small, root_coefs_many}
use Rattle.knapsack_table.proofs.form.Form.room.Goals as goal

pub least_sum-base-requires-clause-each : goal.least_sum-base-requires-clause-each
least_sum-base-requires-clause-each c =
    ap length c.deref-2.ensures.value ∙ root_coefs_many c.args.self.now ∙ sym (ap length c.deref-3.ensures.value)

pub least_sum-base-requires-clause-small : goal.least_sum-base-requires-clause-small
least_sum-base-requires-clause-small c =
    subst (λ (ss : List Span). cost_size ss c.deref-2.result.now ≤ 2 ^ 123) (sym c.deref-3.ensures.value)
    (subst (λ as'. cost_size c.args.self.now.spans.items as' ≤ 2 ^ 123) (sym c.deref-2.ensures.value) (root_small c.args.self.now))
