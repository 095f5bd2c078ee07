use Rattle.std.proofs.Common.{drop}
use Rattle.shortest_path.specs.Best.{AreLeast}
use Rattle.shortest_path.specs.Rooms.{HasRoom}
use Rattle.shortest_path.proofs.pass.pass.Given as goal

abbrev pub invariant-loop-k : goal.invariant-loop-k
invariant-loop-k l = record {
  room : HasRoom l.graph l.work;
  least : AreLeast (drop l.k l.graph.steps.items) (drop l.k l.work.picks.items) (drop l.k l.zone) (drop l.k l.costs) l.graph.wide l.work.next.items;
}
