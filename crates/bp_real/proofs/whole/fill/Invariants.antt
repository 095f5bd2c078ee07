use Rattle.std.proofs.Common.{◌-◌, ◌≤◌, length, take}
use Rattle.std.specs.Io.KnownBytes.{Consumes}
use Rattle.bp_real.proofs.whole.fill.Given as goal

-- what was read lies at the front of the buffer
abbrev pub invariant-reads : goal.invariant-reads
invariant-reads g l = (l.count ≤ length l.into) × Consumes (g.F.Read.remaining l.fn.file) (g.F.Read.remaining l.file) (take l.count l.into)

abbrev pub decreases-reads : goal.decreases-reads
decreases-reads g l = length l.into - l.count
