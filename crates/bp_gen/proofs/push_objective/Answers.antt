use Rattle.std.proofs.Common.{refl}
use Rattle.bp_gen.specs.Generator.{cost_terms}
use Rattle.bp_gen.proofs.Pushed.{pushed}
use Rattle.bp_gen.proofs.push_objective.Goals as goal

pub loop-agent-preserved : goal.loop-agent-preserved
loop-agent-preserved c =
    pushed (cost_terms c.args.costs.now c.args.size) c.loop-agent.agent c.args.text.now.items c.loop-agent.text.items c.push_costs.new.text.items _ c.loop-agent.invariant c.in_ok-push_costs.ensures refl
