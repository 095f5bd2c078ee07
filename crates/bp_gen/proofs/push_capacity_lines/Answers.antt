use Rattle.std.proofs.Common.{refl, arith}
use Rattle.bp_gen.specs.Generator.{capacity_line}
use Rattle.bp_gen.proofs.Pushed.{pushed, all_pushed}
use Rattle.bp_gen.proofs.push_capacity_lines.Goals as goal

pub loop-agent-preserved : goal.loop-agent-preserved
loop-agent-preserved c =
    pushed (capacity_line c.args.weights.now c.args.size) c.loop-agent.agent c.args.text.now.items c.loop-agent.text.items c.push_capacity_line.new.text.items _ c.loop-agent.invariant c.in_ok-push_capacity_line.ensures refl

pub returns : goal.returns
returns c = all_pushed (capacity_line c.args.weights.now c.args.size) c.loop-agent.agent 4 c.args.text.now.items c.loop-agent.text.items (omega arith) c.loop-agent.invariant
