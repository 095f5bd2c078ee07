use Rattle.std.proofs.Common.{◌≡◌, ◌≤◌, [], reverse, vec_len}
use Rattle.search_start.specs.Leaves.{paths_above, nodes_above}
use Rattle.search_start.proofs.leaf.next_high.Given as goal

abbrev pub invariant-loop-fork : goal.invariant-loop-fork
invariant-loop-fork l = record {
  paths : paths_above (reverse l.above.items) [] ≡ paths_above (reverse l.fn.above.items) [];
  fewer : nodes_above (reverse l.above.items) ≤ nodes_above (reverse l.fn.above.items);
}

abbrev pub decreases-loop-fork : goal.decreases-loop-fork
decreases-loop-fork l = vec_len l.above
