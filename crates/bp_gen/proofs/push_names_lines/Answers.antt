use Rattle.std.proofs.Common.{refl}
use Rattle.bp_gen.specs.Generator.{names_line}
use Rattle.bp_gen.proofs.Pushed.{pushed}
use Rattle.bp_gen.proofs.push_names_lines.Goals as goal

pub loop-agent-preserved : goal.loop-agent-preserved
loop-agent-preserved c =
    pushed (names_line c.args.size) c.loop-agent.agent c.args.text.now.items c.loop-agent.text.items c.push_names_line.new.text.items _ c.loop-agent.invariant c.in_ok-push_names_line.ensures refl
