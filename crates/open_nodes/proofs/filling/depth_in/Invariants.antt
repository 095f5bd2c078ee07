use Rattle.std.proofs.Common.{◌≡◌, max, reverse}
use Rattle.bp_theory.specs.Trees.{depth}
use Rattle.search_laws.specs.Grove.{certificate_tree}
use Rattle.open_nodes.specs.Trees.{tree_of}
use Rattle.open_nodes.proofs.Ahead.{deepest_ahead, deep_ahead}
use Rattle.open_nodes.proofs.filling.depth_in.Given as goal

abbrev pub invariant-loop-here : goal.invariant-loop-here
invariant-loop-here l = max l.deepest (deepest_ahead (reverse l.ahead.items)) ≡ depth (certificate_tree (tree_of l.tree))

abbrev pub decreases-loop-here : goal.decreases-loop-here
decreases-loop-here l = deep_ahead (reverse l.ahead.items)
