-- Facts for one value of a test.
use Rattle.std.proofs.Common.{Bool, true, false, refl}
use Rattle.std.specs.Prelude.{IsTrue}
use Rattle.std.specs.Bool.{OnTrue, OnFalse}

pub on_true : (b : Bool) (P : Type 0) → (IsTrue b → P) → OnTrue b P
on_true true P h = h refl
on_true false P h = tt

pub on_false : (b : Bool) (P : Type 0) → ((IsTrue b → ⊥) → P) → OnFalse b P
on_false true P h = tt
on_false false P h = h (λ e. absurd (apart e))
  where
    apart : IsTrue false → ⊥
    apart e = cc

pub map_true : (b : Bool) (P Q : Type 0) → (P → Q) → OnTrue b P → OnTrue b Q
map_true true P Q f h = f h
map_true false P Q f h = tt
