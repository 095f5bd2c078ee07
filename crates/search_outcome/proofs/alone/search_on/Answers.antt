use Rattle.std.proofs.Common.{refl, subst, ◌-◌, List}
use Rattle.search_laws.specs.declared.Side.{Side}
use Rattle.bp_search.specs.Below.{EndsBelow}
use Rattle.search_outcome.proofs.Below.{ends_on_below}
use Rattle.search_outcome.proofs.alone.search_on.Goals as goal

pub returns-in_ok-outcome-in-Some-clause-ends : goal.returns-in_ok-outcome-in-Some-clause-ends
returns-in_ok-outcome-in-Some-clause-ends c =
    ends_on_below c.args.b.now c.args.from.grove.tree c.args.below c.in-Some.path c.args.steps c.in_ok-outcome-in-Some.outcome c.count-before.result c.steps_in.result
    (c.steps_in.result - c.count-before.result) c.in-Some.is
    (subst (λ (path : List Side). EndsBelow c.args.b.now c.args.from.grove.tree path c.args.steps c.in_ok-outcome-in-Some.outcome) c.as_slice.ensures
    c.in_ok-outcome-in-Some.ensures.ends)
    c.count-before.ensures.count c.steps_in.ensures refl
