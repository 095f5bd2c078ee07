use Rattle.std.proofs.Common.{◌≡◌, ◌+◌, ◌++◌, length}
use Rattle.cert_write.specs.Differences.{difference}
use Rattle.cert_write.proofs.differences.differences.Given as goal

abbrev pub invariant-loop-old : goal.invariant-loop-old
invariant-loop-old l = l.changes ++ difference l.old l.new ≡ difference l.had l.now

abbrev pub decreases-loop-old : goal.decreases-loop-old
decreases-loop-old l = length l.old + length l.new
