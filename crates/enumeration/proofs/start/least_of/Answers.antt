use Rattle.std.proofs.Common.{◌∙◌, ap, subst, sym, ◌^◌, ◌<◌, arith}
use Rattle.std.specs.Prelude.{unsigned_abs}
use Rattle.bp_theory.specs.Program.{span_at}
use Rattle.bp_theory.specs.Bound.{end_cost}
use Rattle.pricing_problem.proofs.EndLaws.{end_cost-within}
use Rattle.pricing_problem.proofs.Passed.{passed}
use Rattle.enumeration.proofs.start.least_of.Goals as goal

pub returns-clause-small : goal.returns-clause-small
returns-clause-small c =
    subst (λ z. unsigned_abs z < 2 ^ 62)
    (sym (passed c.least_end.result c.least_end.type_inv
    ∙ c.least_end.ensures
    ∙ ap (end_cost (span_at c.args.zone.now c.args.term.now.var)) (passed c.widened-factor.result c.widened-factor.type_inv ∙ c.widened-factor.ensures)))
    (omega (arith, end_cost-within (span_at c.args.zone.now c.args.term.now.var) c.args.term.now.coef, c.requires.short))
