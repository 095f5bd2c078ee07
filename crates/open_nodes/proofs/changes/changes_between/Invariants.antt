use Rattle.std.proofs.Common.{◌+◌, length}
use Rattle.open_nodes.proofs.Script.{IsScript}
use Rattle.open_nodes.proofs.changes.changes_between.Given as goal

abbrev pub invariant-loop-old : goal.invariant-loop-old
invariant-loop-old l = IsScript l.had l.now l.changes l.keep l.old l.new

abbrev pub decreases-loop-old : goal.decreases-loop-old
decreases-loop-old l = length l.old + length l.new
