use Rattle.std.proofs.Common.{◌≡◌, map, take}
use Rattle.search_start.specs.Leaves.{side_of}
use Rattle.search_start.proofs.leaf.sides_of.Given as goal

abbrev pub invariant-loop-fork : goal.invariant-loop-fork
invariant-loop-fork l = l.path ≡ map side_of (take l.fork-index l.above)
