use Rattle.std.proofs.Common.{arith}
use Rattle.bp_search.specs.Ends.{last_step}
use Rattle.bp_search.proofs.Final.{most_is}
use Rattle.bp_search.proofs.Running.{running_of}
use Rattle.bp_search.proofs.Resuming.{goes_on_from}
use Rattle.bp_search.proofs.resume.Goals as goal

pub take_steps-requires-clause-running : goal.take_steps-requires-clause-running
take_steps-requires-clause-running c =
    running_of c.args.b.now c.args.from.grove c.kept_from-best.result c.args.from.best c.requires.loaded c.kept_from-best.ensures

pub returns-clause-ends : goal.returns-clause-ends
returns-clause-ends c =
    c.conclude.ensures.ends (last_step c.args.from.grove c.args.steps) (record {
      few = omega (arith, c.in_ok-take_steps.ensures.few, c.count.ensures.count, c.unwrap_or.ensures, most_is c.args.steps);
      spent = λ some. omega (arith, c.in_ok-take_steps.ensures.spent some, c.count.ensures.count, c.unwrap_or.ensures, most_is c.args.steps);
    })

pub returns-clause-goes_on : goal.returns-clause-goes_on
returns-clause-goes_on c =
    goes_on_from c.args.b.now c.args.from.grove c.args.from.best c.kept_from-best.result c.take_steps.new.best c.take_steps.new.grove c.conclude.result
    c.blocks-2.ensures.formed c.requires.loaded c.kept_from-best.ensures c.in_ok-take_steps.ensures.running.costs
    c.in_ok-take_steps.ensures.extends c.in_ok-take_steps.ensures.cheaper c.conclude.ensures.grove c.conclude.ensures.point c.conclude.ensures.ends
