use Rattle.std.proofs.Common.{◌≡◌, ◌+◌, inl, inr, ⊎_elim, arith}
use Rattle.bp_theory.specs.Trees.{steps}
use Rattle.search_laws.specs.Grove.{certificate_tree}
use Rattle.bp_search.specs.Ends.{given_steps}
use Rattle.bp_search.proofs.Final.{most_is}
use Rattle.bp_search.proofs.Running.{running_of}
use Rattle.bp_search.proofs.Beside.{ends_below}
use Rattle.bp_search.proofs.Resuming.{goes_on_from}
use Rattle.bp_search.proofs.below.resume_below.Goals as goal

pub take_steps_below-requires-clause-running : goal.take_steps_below-requires-clause-running
take_steps_below-requires-clause-running c =
    running_of c.args.b.now c.args.from.grove c.kept_from-best.result c.args.from.best c.requires.loaded c.kept_from-best.ensures

pub returns-clause-ends : goal.returns-clause-ends
returns-clause-ends c =
    let last : c.count.result + c.unwrap_or.result ≡ steps (certificate_tree c.args.from.grove.tree) + given_steps c.args.steps =
    omega (arith, c.count.ensures.count, c.unwrap_or.ensures, most_is c.args.steps) in
    ends_below c.args.b.now c.args.from.grove.tree c.args.below.now c.args.steps c.take_steps_below.new.grove c.conclude.result c.conclude.ensures.ends
    c.conclude.ensures.grove c.in_ok-take_steps_below.ensures.more (omega (arith, last, c.in_ok-take_steps_below.ensures.few))
    (⊎_elim (λ none. inl none) (λ spent. inr (omega (arith, last, spent))) c.in_ok-take_steps_below.ensures.done) c.in_ok-take_steps_below.ensures.beside

pub returns-clause-goes_on : goal.returns-clause-goes_on
returns-clause-goes_on c =
    goes_on_from c.args.b.now c.args.from.grove c.args.from.best c.kept_from-best.result c.take_steps_below.new.best c.take_steps_below.new.grove c.conclude.result
    c.blocks-2.ensures.formed c.requires.loaded c.kept_from-best.ensures c.in_ok-take_steps_below.ensures.running.costs
    c.in_ok-take_steps_below.ensures.extends c.in_ok-take_steps_below.ensures.cheaper c.conclude.ensures.grove c.conclude.ensures.point c.conclude.ensures.ends
