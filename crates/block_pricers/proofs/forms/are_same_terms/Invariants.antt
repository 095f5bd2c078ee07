use Rattle.std.proofs.Common.{◌≡◌, ◌<◌, ℕ, get_or, pos}
use Rattle.block_pricers.proofs.forms.are_same_terms.Given as goal

abbrev pub invariant-loop-place : goal.invariant-loop-place
invariant-loop-place l = (k : ℕ) → k < l.place → get_or l.a k (record { var = 0; coef = pos 0 }) ≡ get_or l.b k (record { var = 0; coef = pos 0 })
