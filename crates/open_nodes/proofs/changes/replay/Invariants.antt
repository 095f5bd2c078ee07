use Rattle.std.proofs.Common.{◌≡◌, ◌++◌, drop}
use Rattle.open_nodes.specs.Changes.{replay}
use Rattle.open_nodes.proofs.changes.replay.Given as goal

abbrev pub invariant-loop-change : goal.invariant-loop-change
invariant-loop-change l = replay l.old l.changes ≡ l.made.items ++ replay l.left (drop l.change-index l.changes)
