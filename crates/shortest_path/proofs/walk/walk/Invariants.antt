use Rattle.std.proofs.Common.{◌≡◌, ◌<◌, ℕ, drop, length, vec_len, get_or, pos}
use Rattle.shortest_path.specs.Best.{LeadsOn, way_of}
use Rattle.shortest_path.specs.Pairs.{steps_with}
use Rattle.shortest_path.proofs.walk.walk.Given as goal

abbrev pub invariant-loop-k : goal.invariant-loop-k
invariant-loop-k l = record {
  many : vec_len l.point ≡ length l.zone;
  node : l.node < l.graph.wide;
  leads : LeadsOn (drop l.k (steps_with l.graph.wide l.graph.steps.items l.lists)) (drop l.k l.picks.items) (drop l.k l.zone) l.node;
  rest : drop l.k (way_of (steps_with l.graph.wide l.graph.steps.items l.lists) l.picks.items l.zone l.costs 0)
      ≡ way_of (drop l.k (steps_with l.graph.wide l.graph.steps.items l.lists)) (drop l.k l.picks.items) (drop l.k l.zone) (drop l.k l.costs) l.node;
  point : (i : ℕ) → i < l.k → get_or l.point.items i (pos 0) ≡ get_or (way_of (steps_with l.graph.wide l.graph.steps.items l.lists) l.picks.items l.zone l.costs 0) i (pos 0);
}
