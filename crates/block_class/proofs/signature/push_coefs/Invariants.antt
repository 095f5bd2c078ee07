use Rattle.std.proofs.Common.{◌≡◌, ℕ, [], ◌∷◌, ◌++◌, take}
use Rattle.std.specs.Prelude.{ℤ, pos, flat_map}
use Rattle.block_class.proofs.signature.push_coefs.Given as goal

abbrev pub invariant-loop-entry : goal.invariant-loop-entry
invariant-loop-entry l = l.numbers.items ≡ l.initial.numbers.items ++ flat_map (λ (e : ℕ × ℤ). pos e.0 ∷ e.1 ∷ []) (take l.entry-index l.coefs)
