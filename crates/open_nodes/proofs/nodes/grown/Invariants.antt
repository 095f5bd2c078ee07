use Rattle.std.proofs.Common.{◌≡◌, ◌∷◌, [], reverse, vec_len}
use Rattle.search_laws.specs.Grove.{GrowingTree}
use Rattle.open_nodes.specs.Nodes.{growing_nodes, built, last_first}
use Rattle.open_nodes.proofs.nodes.grown.Given as goal

abbrev pub invariant-loop-node : goal.invariant-loop-node
invariant-loop-node l = (t : GrowingTree) → l.initial.left.items ≡ growing_nodes t → built (reverse l.left.items) (last_first l.made.items) ≡ t ∷ []

abbrev pub decreases-loop-node : goal.decreases-loop-node
decreases-loop-node l = vec_len l.left
