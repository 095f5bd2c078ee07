use Rattle.std.proofs.Common.{refl}
use Rattle.bp_gen.specs.Generator.{block_lines}
use Rattle.bp_gen.proofs.Pushed.{pushed}
use Rattle.bp_gen.proofs.push_blocks.Goals as goal

pub loop-agent-preserved : goal.loop-agent-preserved
loop-agent-preserved c =
    pushed (block_lines) c.loop-agent.agent c.args.text.now.items c.loop-agent.text.items c.push_block.new.text.items _ c.loop-agent.invariant c.in_ok-push_block.ensures refl
