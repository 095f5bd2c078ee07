use Rattle.std.proofs.Common.{◌≡◌, length}
use Rattle.col_pool.specs.Inside.{numbers_inside}
use Rattle.col_pool.proofs.within.WithinIterator.next.Given as goal

abbrev pub invariant-loop-column : goal.invariant-loop-column
invariant-loop-column l =
    numbers_inside l.self.zone.now l.self.left.now l.self.place ≡ numbers_inside l.initial.self.zone.now l.initial.self.left.now l.initial.self.place

abbrev pub decreases-loop-column : goal.decreases-loop-column
decreases-loop-column l = length l.self.left.now
