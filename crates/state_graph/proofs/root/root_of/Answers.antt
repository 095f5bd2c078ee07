use Rattle.std.proofs.Common.{arith}
use Rattle.state_graph.proofs.BlockLaws.{windows_more}
use Rattle.state_graph.proofs.root.root_of.Goals as goal

pub loop-k-preserved : goal.loop-k-preserved
loop-k-preserved c = record {
  each = omega (arith, c.in_ok-push.ensures.len, c.loop-k.invariant.each);
  windows_are = windows_more c.args.rows.now c.args.hulls.now c.loop-k.windows.items c.push.new.self.items c.loop-k.k c.index-rows-k.result c.window_of.result
      c.loop-k-test.true c.index-rows-k.is (omega (arith, c.loop-k.invariant.each, c.loop-k.windows.ok.0)) c.in_ok-push.ensures.items c.window_of.ensures c.loop-k.invariant.windows_are;
}
