use Rattle.std.proofs.Common.{◌+◌, ◌-◌, arith}
use Rattle.bp_theory.specs.Trees.{steps}
use Rattle.search_laws.specs.Grove.{certificate_tree}
use Rattle.bp_search.proofs.Final.{most_is}
use Rattle.bp_search.proofs.Running.{running_of}
use Rattle.bp_search.proofs.Resuming.{goes_on_from}
use Rattle.bp_search.proofs.watch.resume_watched.Goals as goal

pub take_steps_watched-requires-clause-running : goal.take_steps_watched-requires-clause-running
take_steps_watched-requires-clause-running g c =
    running_of c.args.b.now c.args.from.grove c.kept_from-best.result c.args.from.best c.requires.loaded c.kept_from-best.ensures

pub returns-clause-ends : goal.returns-clause-ends
returns-clause-ends g c =
    c.conclude-outcome.ensures.ends (steps (certificate_tree c.args.from.grove.tree) + (c.count.result - c.count-before.result)) (record {
      few = omega (arith, c.in_ok-take_steps_watched.ensures.more, c.count.ensures.count, c.count-before.ensures.count);
      spent = λ some. omega (arith, c.in_ok-take_steps_watched.ensures.more, c.count.ensures.count, c.count-before.ensures.count);
    })

pub returns-clause-few : goal.returns-clause-few
returns-clause-few g c =
    omega (arith, c.in_ok-take_steps_watched.ensures.few, c.count.ensures.count, c.count-before.ensures.count, c.unwrap_or.ensures, most_is c.args.steps)

pub returns-clause-goes_on : goal.returns-clause-goes_on
returns-clause-goes_on g c =
    goes_on_from c.args.b.now c.args.from.grove c.args.from.best c.kept_from-best.result c.take_steps_watched.new.best c.take_steps_watched.new.grove c.conclude-outcome.result
    c.blocks-2.ensures.formed c.requires.loaded c.kept_from-best.ensures c.in_ok-take_steps_watched.ensures.running.costs
    c.in_ok-take_steps_watched.ensures.extends c.in_ok-take_steps_watched.ensures.cheaper c.conclude-outcome.ensures.grove c.conclude-outcome.ensures.point
    c.conclude-outcome.ensures.ends
