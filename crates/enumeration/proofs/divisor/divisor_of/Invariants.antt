use Rattle.enumeration.proofs.DivisorLaws.{IsDivisorOfFirst}
use Rattle.enumeration.proofs.divisor.divisor_of.Given as goal

abbrev pub invariant-loop-term : goal.invariant-loop-term
invariant-loop-term l = IsDivisorOfFirst l.terms l.term-index l.divisor
