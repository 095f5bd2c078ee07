-- That a fact on the places of two lists has one proof at most, so that a struct may keep it.
use Rattle.std.specs.Prelude.{List, [], ◌∷◌}
use Rattle.std.specs.List.{AllZip}
use Rattle.std.specs.Coded.{×_prop, Unit-prop}

pub AllZip-prop : {A B : Type 0} {R : A → B → Type 0} → ((x : A) (y : B) → IsProp (R x y)) → (xs : List A) (ys : List B) → IsProp (AllZip R xs ys)
AllZip-prop each [] [] = Unit-prop
AllZip-prop each [] (y ∷ ys) = λ p q. absurd p
AllZip-prop each (x ∷ xs) [] = λ p q. absurd p
AllZip-prop each (x ∷ xs) (y ∷ ys) = ×_prop (each x y) (AllZip-prop each xs ys)
