use Rattle.std.proofs.Common.{arith}
use Rattle.state_graph.proofs.TwinLaws.{joined_on}
use Rattle.state_graph.proofs.twins.join_all.Goals as goal

pub loop-row-preserved : goal.loop-row-preserved
loop-row-preserved c = record {
  room = omega (arith, c.if-not-join_twin.ensures.room, c.loop-row.invariant.room);
  joined = joined_on c.args.twins.now c.args.windows.now.items c.loop-row.windows.items c.join_twin.new.windows.items
      c.loop-row.invariant.joined c.if-not-join_twin.ensures.joined;
}
