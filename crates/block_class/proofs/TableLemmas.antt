-- Signatures: the vectors of a table and the lists of their numbers.
use Rattle.std.proofs.Common.{◌≡◌, ℕ, true, false, List, [], ◌∷◌, map, slice_get, Some, refl, sym, ap, ◌∙◌, Vec, Global, option_map}
use Rattle.std.specs.Prelude.{ℤ}
use Rattle.std.specs.List.{IsDistinct, AllByRecursion}
use Rattle.std.specs.Ordering.{int_eq}
use Rattle.std.specs.Cmp.Lexicographic.{pointwise}
use Rattle.std.proofs.lemmas.Option.{slice_get-map}
use Rattle.std.proofs.lemmas.Slice.Eq.{slice_eq-Decides}
use Rattle.std.proofs.lemmas.Bool.Decides.{Decides-int_eq}

-- the numbers of vectors
abbrev pub lists : List (Vec ℤ Global) → List (List ℤ)
lists ks = map (λ (k : Vec ℤ Global). k.items) ks

apart : (k : Vec ℤ Global) (ks : List (Vec ℤ Global)) → AllByRecursion (λ (y : Vec ℤ Global). pointwise int_eq k.items y.items ≡ false) ks
    → AllByRecursion (λ y. pointwise int_eq k.items y ≡ false) (lists ks)
apart k [] h = tt
apart k (x ∷ xs) h = (h.0, apart k xs h.1)

-- vectors that are apart have lists that are apart
pub distinct_lists : (ks : List (Vec ℤ Global)) → IsDistinct (λ (x y : Vec ℤ Global). pointwise int_eq x.items y.items) ks → IsDistinct (pointwise int_eq) (lists ks)
unfolding IsDistinct
distinct_lists [] h = tt
distinct_lists (k ∷ ks) h = (apart k ks h.0, distinct_lists ks h.1)

-- a vector that is stored is seen as its list
pub list_stored : (ks : List (Vec ℤ Global)) (i : ℕ) (k new : Vec ℤ Global) → slice_get ks i ≡ Some k → pointwise int_eq new.items k.items ≡ true → slice_get (lists ks) i ≡ Some new.items
list_stored ks i k new at same =
    slice_get-map (λ (v : Vec ℤ Global). v.items) ks i ∙ ap (option_map (λ (v : Vec ℤ Global). v.items)) at
    ∙ ap Some (sym ((slice_eq-Decides (λ a b. Decides-int_eq a b) new.items k.items (pointwise int_eq new.items k.items) refl).0 same))
