use Rattle.std.proofs.Common.{◌≡◌, take, map}
use Rattle.bp_model.specs.Tidy.{as_term}
use Rattle.bp_model.proofs.tidy.terms_of.Given as goal

abbrev pub invariant-loop-sum : goal.invariant-loop-sum
invariant-loop-sum l = l.terms.items ≡ map as_term (take l.sum-index l.sums)
