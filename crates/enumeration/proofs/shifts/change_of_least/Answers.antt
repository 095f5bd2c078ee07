use Rattle.std.proofs.Common.{arith, ◌∙◌}
use Rattle.pricing_problem.proofs.EndLaws.{end_cost-within}
use Rattle.pricing_problem.proofs.Passed.{passed}
use Rattle.enumeration.proofs.ShiftLaws.{passed_difference_fits, difference_is_small}
use Rattle.enumeration.proofs.shifts.change_of_least.Goals as goal

pub minus-requires : goal.minus-requires
minus-requires c = passed_difference_fits _ _ _ _
    (passed c.least_end-new.result c.least_end-new.type_inv ∙ c.least_end-new.ensures)
    (passed c.least_end-old.result c.least_end-old.type_inv ∙ c.least_end-old.ensures)
    (omega (arith, end_cost-within c.args.to.now c.args.entry.now.coef, c.requires.to))
    (omega (arith, end_cost-within c.args.from.now c.args.entry.now.coef, c.requires.from))

pub returns-clause-small : goal.returns-clause-small
returns-clause-small c = difference_is_small _ _ _ _ _
    (passed c.minus.result c.minus.type_inv ∙ c.minus.ensures)
    (passed c.least_end-new.result c.least_end-new.type_inv ∙ c.least_end-new.ensures)
    (passed c.least_end-old.result c.least_end-old.type_inv ∙ c.least_end-old.ensures)
    (omega (arith, end_cost-within c.args.to.now c.args.entry.now.coef, c.requires.to))
    (omega (arith, end_cost-within c.args.from.now c.args.entry.now.coef, c.requires.from))
