use Rattle.pricing_problem.proofs.ZoneLaws.{ArePartsBelow}
use Rattle.pricing_problem.proofs.checks.is_zone.Given as goal

abbrev pub invariant-loop-k : goal.invariant-loop-k
invariant-loop-k l = ArePartsBelow l.spans l.zone l.k
