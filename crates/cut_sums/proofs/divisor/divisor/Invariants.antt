use Rattle.std.proofs.Common.{take}
use Rattle.cut_sums.specs.Plain.{IsDivisor}
use Rattle.cut_sums.proofs.divisor.divisor.Given as goal

abbrev pub invariant-loop-term : goal.invariant-loop-term
invariant-loop-term l = IsDivisor (take l.term-index l.terms) l.q
