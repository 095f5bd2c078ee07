-- Names found among names, and tables by name.
use Rattle.std.proofs.Common.{◌≡◌, ℕ, ◌<◌, ◌≤◌, suc, zero, Bool, true, false, cond, not, ◌||◌, List, [], ◌∷◌, length, get_or, map, refl, sym, ◌∙◌, ap, subst, inl, inr, arith, Option, None, Some}
use Rattle.std.proofs.Math.ListN.{set, replicate}
use Rattle.std.proofs.lemmas.Bool.{or_left, or_right, or_cases, or_parts, false_from_ne_true, both_ways, ltb-false}
use Rattle.std.proofs.lemmas.Slice.Eq.{bytes_eq-Decides}
use Rattle.std.proofs.lemmas.Str.{IsUtf8-from_ascii}
use Rattle.std.proofs.lemmas.Str.Ascii.{IsAscii-nil, IsAscii-cons}
use Rattle.std.specs.Prelude.{slice_get, Contains, nat_lt}
use Rattle.std.specs.List.{list_any, IsDistinct, AllByRecursion}
use Rattle.std.specs.Str.{bytes_eq, IsUtf8, IsAscii}
use Rattle.dec_syntax.specs.Words.{has_bad_byte, is_bad}
use Rattle.dec_syntax.specs.Parts.{is_among, is_listed, place_in, number_among}
use Rattle.dec_syntax.specs.Faults.{lacks_row}

-- the bytes of a token without bad bytes are a text
plain_is_ascii : (word : List ℕ) → has_bad_byte word ≡ false → IsAscii word
plain_is_ascii [] h = IsAscii-nil
plain_is_ascii (b ∷ word) h =
    let parts : (is_bad b ≡ false) × (has_bad_byte word ≡ false) = or_parts (is_bad b) (has_bad_byte word) h in
    let high : nat_lt 126 b ≡ false = (or_parts (nat_lt b 33) (nat_lt 126 b) parts.0).1 in
    let low : b ≤ 126 = ltb-false 126 b high in
    IsAscii-cons b word (omega arith) (plain_is_ascii word parts.1)

pub plain_is_text : (word : List ℕ) → has_bad_byte word ≡ false → IsUtf8 word
plain_is_text word h = IsUtf8-from_ascii word (plain_is_ascii word h)

same_bytes : (a b : List ℕ) → a ≡ b → bytes_eq a b ≡ true
same_bytes a b e = (bytes_eq-Decides a b).1 e

some_same : {A : Type 0} (a b : A) → Some a ≡ Some b → a ≡ b
some_same a b e = cc

-- a name that has a number is there
pub among_found : (names : List (List ℕ)) (k : ℕ) (name : List ℕ) → slice_get names k ≡ Some name → is_among names name ≡ true
among_found [] k name e = absurd (let odd : ◌≡◌ {A = Option (List ℕ)} None (Some name) = e in cc)
among_found (n ∷ names) zero name e = or_left (bytes_eq n name) (is_among names name) (same_bytes n name (some_same n name e))
among_found (n ∷ names) (suc k) name e = or_right (bytes_eq n name) (is_among names name) (among_found names k name e)

among_contains : (names : List (List ℕ)) (name : List ℕ) → is_among names name ≡ true → Contains names name
among_contains [] name h = absurd (both_ways false refl h)
among_contains (n ∷ names) name h = elim (or_cases (bytes_eq n name) (is_among names name) h) [
  | inl e ↦ (0, omega arith, (bytes_eq-Decides n name).0 e)
  | inr e ↦ let there = among_contains names name e in (suc there.0, omega (arith, there.1), there.2)
]

pub among_absent : (names : List (List ℕ)) (name : List ℕ) → (Contains names name → ⊥) → is_among names name ≡ false
among_absent names name none = false_from_ne_true (is_among names name) (λ h. none (among_contains names name h))

at_each : (P : List ℕ → Type 0) (names : List (List ℕ)) (k : ℕ) (name : List ℕ) → AllByRecursion P names → slice_get names k ≡ Some name → P name
at_each P [] k name h e = absurd (let odd : ◌≡◌ {A = Option (List ℕ)} None (Some name) = e in cc)
at_each P (n ∷ names) zero name h e = subst P (some_same n name e) h.0
at_each P (n ∷ names) (suc k) name h e = at_each P names k name h.1 e

-- the number of a name, where names are distinct
pub number_found : (names : List (List ℕ)) (k : ℕ) (name : List ℕ) → IsDistinct bytes_eq names → slice_get names k ≡ Some name → number_among names name ≡ k
unfolding IsDistinct
number_found [] k name d e = absurd (let odd : ◌≡◌ {A = Option (List ℕ)} None (Some name) = e in cc)
number_found (n ∷ names) zero name d e = ap (λ (t : Bool). cond t 0 (suc (number_among names name))) (same_bytes n name (some_same n name e))
number_found (n ∷ names) (suc k) name d e =
    ap (λ (t : Bool). cond t 0 (suc (number_among names name))) (at_each (λ y. bytes_eq n y ≡ false) names k name d.0 e)
    ∙ ap suc (number_found names k name d.1 e)

map_others : {A : Type 0} (f : List ℕ → A) (v : A) (name : List ℕ) (names : List (List ℕ)) → AllByRecursion (λ y. bytes_eq name y ≡ false) names
    → map (λ n. cond (bytes_eq name n) v (f n)) names ≡ map f names
map_others f v name [] h = refl
map_others f v name (n ∷ names) h =
    ap (λ (t : Bool). cond t v (f n) ∷ map (λ n. cond (bytes_eq name n) v (f n)) names) h.0
    ∙ ap (λ xs. f n ∷ xs) (map_others f v name names h.1)

apart : (a b : List ℕ) → bytes_eq a b ≡ false → bytes_eq b a ≡ false
apart a b h = false_from_ne_true (bytes_eq b a) (λ e. both_ways (bytes_eq a b) h (same_bytes a b (sym ((bytes_eq-Decides b a).0 e))))

-- a table by name with another value at one name
pub map_update : {A : Type 0} (f : List ℕ → A) (v : A) (names : List (List ℕ)) (k : ℕ) (name : List ℕ) → IsDistinct bytes_eq names → slice_get names k ≡ Some name
    → map (λ n. cond (bytes_eq name n) v (f n)) names ≡ set (map f names) k v
unfolding IsDistinct
map_update f v [] k name d e = absurd (let odd : ◌≡◌ {A = Option (List ℕ)} None (Some name) = e in cc)
map_update f v (n ∷ names) zero name d e =
    let same : n ≡ name = some_same n name e in
    let others : AllByRecursion (λ y. bytes_eq name y ≡ false) names = subst (λ (m : List ℕ). AllByRecursion (λ y. bytes_eq m y ≡ false) names) same d.0 in
    ap (λ (t : Bool). cond t v (f n) ∷ map (λ n. cond (bytes_eq name n) v (f n)) names) (same_bytes name n (sym same))
    ∙ ap (λ xs. v ∷ xs) (map_others f v name names others)
map_update f v (n ∷ names) (suc k) name d e =
    ap (λ (t : Bool). cond t v (f n) ∷ map (λ n. cond (bytes_eq name n) v (f n)) names) (apart n name (at_each (λ y. bytes_eq n y ≡ false) names k name d.0 e))
    ∙ ap (λ xs. f n ∷ xs) (map_update f v names k name d.1 e)

-- what a table by name has at a name's number
pub map_at : {A : Type 0} (f : List ℕ → A) (names : List (List ℕ)) (k : ℕ) (name : List ℕ) (d : A) → slice_get names k ≡ Some name → get_or (map f names) k d ≡ f name
map_at f [] k name d e = absurd (let odd : ◌≡◌ {A = Option (List ℕ)} None (Some name) = e in cc)
map_at f (n ∷ names) zero name d e = ap f (some_same n name e)
map_at f (n ∷ names) (suc k) name d e = map_at f names k name d e

-- a number of a name is below the count of names
pub number_inside : (names : List (List ℕ)) (k : ℕ) (name : List ℕ) → slice_get names k ≡ Some name → k < length names
number_inside [] k name e = absurd (let odd : ◌≡◌ {A = Option (List ℕ)} None (Some name) = e in cc)
number_inside (n ∷ names) zero name e = omega arith
number_inside (n ∷ names) (suc k) name e = let below : k < length names = number_inside names k name e in omega arith

-- with nothing listed each row is under the master
pub places_none : (names : List (List ℕ)) → replicate (length names) None ≡ map (place_in []) names
places_none [] = refl
places_none (n ∷ names) = ap (λ (xs : List (Option ℕ)). None ∷ xs) (places_none names)

pub listed_none : (names : List (List ℕ)) → replicate (length names) false ≡ map (is_listed []) names
listed_none [] = refl
listed_none (n ∷ names) = ap (λ (xs : List Bool). false ∷ xs) (listed_none names)

-- a row isn't listed
pub lacks_row_is : (listing : List (List ℕ × Option ℕ)) (names : List (List ℕ)) → list_any not (map (is_listed listing) names) ≡ lacks_row listing names
lacks_row_is listing [] = refl
lacks_row_is listing (n ∷ names) = ap (λ (t : Bool). not (is_listed listing n) || t) (lacks_row_is listing names)
