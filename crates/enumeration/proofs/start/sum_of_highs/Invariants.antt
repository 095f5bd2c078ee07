use Rattle.std.proofs.Common.{◌≡◌, take}
use Rattle.enumeration.specs.Reach.{high_reach}
use Rattle.enumeration.proofs.start.sum_of_highs.Given as goal

abbrev pub invariant-loop-term : goal.invariant-loop-term
invariant-loop-term l = l.sum ≡ high_reach l.zone (take l.term-index l.terms)
