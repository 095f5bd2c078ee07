use Rattle.std.proofs.Common.{◌≡◌, ◌-◌, ◌^◌, take}
use Rattle.std.specs.Prelude.{min, sum_by}
use Rattle.pricing_problem.specs.Form.{term_size}
use Rattle.pricing_problem.proofs.checks.size_of_terms.Given as goal

abbrev pub invariant-loop-term : goal.invariant-loop-term
invariant-loop-term l = l.sum ≡ min (sum_by (term_size l.spans) (take l.term-index l.terms)) (2 ^ 128 - 1)
