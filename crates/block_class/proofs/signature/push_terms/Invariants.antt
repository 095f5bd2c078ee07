use Rattle.std.proofs.Common.{◌≡◌, [], ◌∷◌, ◌++◌, take}
use Rattle.std.specs.Prelude.{pos, flat_map}
use Rattle.bp_theory.specs.declared.Term.{Term}
use Rattle.block_class.proofs.signature.push_terms.Given as goal

abbrev pub invariant-loop-term : goal.invariant-loop-term
invariant-loop-term l = l.numbers.items ≡ l.initial.numbers.items ++ flat_map (λ (t : Term). pos t.var ∷ t.coef ∷ []) (take l.term-index l.terms)
