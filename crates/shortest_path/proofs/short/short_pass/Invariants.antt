use Rattle.std.proofs.Common.{drop}
use Rattle.shortest_path.specs.Best.{AreLeast}
use Rattle.shortest_path.specs.Short.{widened}
use Rattle.shortest_path.specs.Pairs.{steps_with, cells_of, pairs_at}
use Rattle.shortest_path.specs.Rooms.{HasRoom}
use Rattle.shortest_path.proofs.short.short_pass.Given as goal

abbrev pub invariant-loop-k : goal.invariant-loop-k
invariant-loop-k l = record {
  room : HasRoom l.graph l.work;
  least : AreLeast (drop l.k (steps_with l.graph.wide l.graph.steps.items l.lists)) (drop l.k l.work.picks.items) (drop l.k l.zone) (drop l.k l.costs)
      (cells_of l.graph.wide (pairs_at l.lists l.k)) (widened l.work.short_next.items);
}
