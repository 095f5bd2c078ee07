-- Names: the strings of a table and the list of their bytes.
use Rattle.std.proofs.Common.{◌≡◌, ℕ, zero, suc, ◌+◌, ◌<◌, ◌≤◌, Bool, true, false, ◌||◌, List, [], ◌∷◌, ◌++◌, map, length, slice_get, get_or, take, position, None, Some, Contains, refl, sym, ap, subst, ◌∙◌, true≢false, if◌then◌else◌, arith, string_bytes, String, Global, option_map, inl, inr, ◌⊎◌}
use Rattle.std.specs.Prelude.{◌↔◌, IsTrue, MatchBool}
use Rattle.std.specs.List.{IsDistinct, AllByRecursion, list_any}
use Rattle.std.specs.String.{string_eq}
use Rattle.std.specs.Str.{bytes_eq}
use Rattle.std.proofs.lemmas.Cmp.{nat_list_eq_equiv}
use Rattle.std.proofs.lemmas.Slice.Eq.{bytes_eq-Decides}
use Rattle.std.proofs.lemmas.List.Quantifiers.{position-Some}
use Rattle.std.proofs.lemmas.Option.{slice_get-map, slice_get_cases}
use Rattle.std.proofs.lemmas.Map.Views.{Contains-from_any, list_any-from_Contains}
use Rattle.std.proofs.lemmas.List.{map-append, length-map}
use Rattle.indexmap.specs.IndexSet.{insert_key}

-- the bytes of strings
abbrev pub texts : List (String Global) → List (List ℕ)
texts ks = map string_bytes ks

-- a string that is apart from others has bytes apart from theirs
apart : (k : String Global) (ks : List (String Global)) → AllByRecursion (λ y. string_eq k y ≡ false) ks
    → AllByRecursion (λ y. bytes_eq (string_bytes k) y ≡ false) (texts ks)
apart k [] h = tt
apart k (x ∷ xs) h = (h.0, apart k xs h.1)

-- strings that are apart have bytes that are apart
pub distinct_texts : (ks : List (String Global)) → IsDistinct string_eq ks → IsDistinct bytes_eq (texts ks)
unfolding IsDistinct
distinct_texts [] h = tt
distinct_texts (k ∷ ks) h = (apart k ks h.0, distinct_texts ks h.1)

-- a test of bytes finds among strings what it finds among their bytes
any_text : (q : List ℕ) (ks : List (String Global)) → list_any (λ k. bytes_eq q (string_bytes k)) ks ≡ list_any (bytes_eq q) (texts ks)
any_text q [] = refl
any_text q (k ∷ ks) = ap (λ b. bytes_eq q (string_bytes k) || b) (any_text q ks)

-- where bytes are first found, they are
pub text_found : (q : List ℕ) (ks : List (String Global)) (i : ℕ) → i < length ks → position (λ k. bytes_eq q (string_bytes k)) ks ≡ Some i
    → slice_get (texts ks) i ≡ Some q
text_found q ks i inside e = by (slice_get_cases ks i).1
  where
    by : ((x : String Global) × (i < length ks) × (slice_get ks i ≡ Some x) × (get_or ks i x ≡ x)) ⊎ ((length ks ≤ i) × (slice_get ks i ≡ None)) → slice_get (texts ks) i ≡ Some q
    by (inl h) =
        let passes = (position-Some (λ k. bytes_eq q (string_bytes k)) ks i h.0 e).1 in
        let same : bytes_eq q (string_bytes h.0) ≡ true = subst (λ k. bytes_eq q (string_bytes k) ≡ true) h.3 passes in
        slice_get-map string_bytes ks i ∙ ap (option_map string_bytes) h.2 ∙ ap Some (sym ((bytes_eq-Decides q (string_bytes h.0)).0 same))
    by (inr h) = let none : ⊥ = omega (arith, h.0) in absurd none

-- where a test of bytes finds none, the bytes aren't there
pub text_absent : (q : List ℕ) (ks : List (String Global)) → list_any (λ k. bytes_eq q (string_bytes k)) ks ≡ false → Contains (texts ks) q → ⊥
text_absent q ks none there =
    true≢false (sym (list_any-from_Contains nat_list_eq_equiv q (texts ks) there) ∙ sym (any_text q ks) ∙ none)

-- a string whose bytes aren't there goes last
pub insert_text : (q : List ℕ) (ks : List (String Global)) (s : String Global) → string_bytes s ≡ q → (Contains (texts ks) q → ⊥)
    → texts (insert_key string_eq ks s) ≡ texts ks ++ q ∷ []
insert_text q ks s same absent = by (list_any (string_eq s) ks) refl
  where
    by : (b : Bool) → list_any (string_eq s) ks ≡ b → texts (insert_key string_eq ks s) ≡ texts ks ++ q ∷ []
    by true e =
        absurd (absent (Contains-from_any (λ x y. (bytes_eq-Decides x y).0) q (texts ks)
        (sym (any_text q ks) ∙ ap (λ p. list_any (λ k. bytes_eq p (string_bytes k)) ks) (sym same) ∙ e)))
    by false e =
        ap (λ b. texts (if b then ks else ks ++ s ∷ [])) e ∙ map-append string_bytes ks (s ∷ []) ∙ ap (λ p. texts ks ++ p ∷ []) same

-- a list with one element more has it behind the others
pub pushed_at : {X : Type 0} (xs : List X) (x : X) (n : ℕ) → n ≡ length xs → slice_get (xs ++ x ∷ []) n ≡ Some x
pushed_at {X} xs x n e = ap (slice_get (xs ++ x ∷ [])) e ∙ last xs
  where
    last : (ys : List X) → slice_get (ys ++ x ∷ []) (length ys) ≡ Some x
    last [] = refl
    last (y ∷ ys) = last ys

-- as many strings as lists of bytes
pub length-texts : (ks : List (String Global)) → length (texts ks) ≡ length ks
length-texts ks = length-map ks string_bytes

-- what a name is apart from isn't it
apart_at : (m q : List ℕ) (names : List (List ℕ)) (k : ℕ) → AllByRecursion (λ y. bytes_eq m y ≡ false) names → slice_get names k ≡ Some q → m ≡ q → ⊥
apart_at m q [] k all e same = let none : ⊥ = cc in none
apart_at m q (x ∷ names) zero all e same =
    let here : m ≡ x = cc in true≢false (sym ((bytes_eq-Decides m x).1 here) ∙ all.0)
apart_at m q (x ∷ names) (suc k) all e same = apart_at m q names k all.1 e same

-- a name of a list that has each once isn't among the earlier ones
pub apart_earlier : (names : List (List ℕ)) (n : ℕ) (q : List ℕ) → IsDistinct bytes_eq names → slice_get names n ≡ Some q → Contains (take n names) q → ⊥
unfolding IsDistinct
apart_earlier [] n q distinct e there = let none : ⊥ = cc in none
apart_earlier (x ∷ names) zero q distinct e there = omega (arith, there.1)
apart_earlier (x ∷ names) (suc n) q distinct e there = by there.0 there.1 there.2 (apart_earlier names n q distinct.1 e)
  where
    by : (k : ℕ) → k < length (x ∷ take n names) → get_or (x ∷ take n names) k q ≡ q → (Contains (take n names) q → ⊥) → ⊥
    by zero inside same behind = apart_at x q names n distinct.0 e same
    by (suc k) inside same behind = behind (k, omega (arith, inside), same)

-- the earlier names and the next
take_next : (names : List (List ℕ)) (n : ℕ) (q : List ℕ) → slice_get names n ≡ Some q → take n names ++ q ∷ [] ≡ take (suc n) names
take_next [] n q e = let none : ⊥ = cc in absurd none
take_next (x ∷ names) zero q e = let same : q ≡ x = cc in ap (λ y. y ∷ []) same
take_next (x ∷ names) (suc n) q e = ap (λ ys. x ∷ ys) (take_next names n q e)

-- a name that is added to the earlier ones of its list goes last
pub next_added : (names old new : List (List ℕ)) (n : ℕ) (q : List ℕ) (is_new : Bool) → IsDistinct bytes_eq names → slice_get names n ≡ Some q → old ≡ take n names
    → (IsTrue is_new ↔ (Contains old q → ⊥)) → MatchBool is_new (new ≡ old ++ q ∷ []) (new ≡ old) → new ≡ take (n + 1) names
next_added names old new n q is_new distinct e so_far tells made =
    by is_new made (tells.1 (λ there. apart_earlier names n q distinct e (subst (λ ns. Contains ns q) so_far there)))
  where
    by : (b : Bool) → MatchBool b (new ≡ old ++ q ∷ []) (new ≡ old) → b ≡ true → new ≡ take (n + 1) names
    by true h t =
        let one : suc n ≡ n + 1 = omega arith in
        h ∙ ap (λ ns. ns ++ q ∷ []) so_far ∙ take_next names n q e ∙ ap (λ k. take k names) one
    by false h t = absurd (true≢false (sym t))

-- the first names of a list are all of them where they are as many
pub take_all : (names : List (List ℕ)) (n : ℕ) → length names ≤ n → take n names ≡ names
take_all [] zero l = refl
take_all [] (suc n) l = refl
take_all (x ∷ names) zero l = let none : ⊥ = omega (arith, l) in absurd none
take_all (x ∷ names) (suc n) l = ap (λ ys. x ∷ ys) (take_all names n (omega (arith, l)))
