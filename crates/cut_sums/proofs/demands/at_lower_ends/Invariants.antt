use Rattle.std.proofs.Common.{◌≡◌, take}
use Rattle.cut_sums.specs.Rows.{low_activity}
use Rattle.cut_sums.proofs.demands.at_lower_ends.Given as goal

abbrev pub invariant-loop-term : goal.invariant-loop-term
invariant-loop-term l = l.sum ≡ low_activity l.spans (take l.term-index l.terms)
