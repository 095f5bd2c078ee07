use Rattle.std.proofs.Common.{◌≡◌, vec_len}
use Rattle.shortest_path.specs.Pairs.{ArePairs}
use Rattle.shortest_path.proofs.pairs.pairs_of.Given as goal

abbrev pub invariant-loop-place : goal.invariant-loop-place
invariant-loop-place l = record {
  nodes : vec_len l.pairs ≡ l.nodes;
  pairs : ArePairs l.dead l.arcs l.place l.pairs.items;
}
