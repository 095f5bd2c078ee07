use Rattle.std.proofs.Common.{◌≡◌, take, map}
use Rattle.bp_model.specs.Tidy.{as_term}
use Rattle.cut_sums.proofs.bounded.terms_of.Given as goal

abbrev pub invariant-loop-coef : goal.invariant-loop-coef
invariant-loop-coef l = l.terms.items ≡ map as_term (take l.coef-index l.coefs)
