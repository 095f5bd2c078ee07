use Rattle.std.proofs.Common.{◌≡◌, ◌<◌, ℕ, [], get_or, pos}
use Rattle.bp_theory.specs.declared.Sense.TheVariants.{Le}
use Rattle.block_pricers.proofs.forms.are_same_rows.Given as goal

abbrev pub invariant-loop-number : goal.invariant-loop-number
invariant-loop-number l = (k : ℕ) → k < l.number → get_or l.a k (record { sense = Le; low = pos 0; rhs = pos 0; terms = [] }) ≡ get_or l.b k (record { sense = Le; low = pos 0; rhs = pos 0; terms = [] })
