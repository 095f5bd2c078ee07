use Rattle.std.proofs.Common.{refl}
use Rattle.bp_gen.specs.Generator.{choice}
use Rattle.bp_gen.proofs.Pushed.{pushed_two}
use Rattle.bp_gen.proofs.push_choices.Goals as goal

pub loop-agent-preserved : goal.loop-agent-preserved
loop-agent-preserved c =
    pushed_two (choice c.args.job) c.loop-agent.agent c.args.text.now.items c.loop-agent.text.items c.push_plus.new.text.items c.push_variable.new.text.items _ _ c.loop-agent.invariant c.in_ok-push_plus.ensures c.in_ok-push_variable.ensures refl
