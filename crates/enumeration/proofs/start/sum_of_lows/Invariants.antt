use Rattle.std.proofs.Common.{◌≡◌, take}
use Rattle.enumeration.specs.Reach.{low_reach}
use Rattle.enumeration.proofs.start.sum_of_lows.Given as goal

abbrev pub invariant-loop-term : goal.invariant-loop-term
invariant-loop-term l = l.sum ≡ low_reach l.zone (take l.term-index l.terms)
