-- Numbers among ascending ones.
use Rattle.std.proofs.Common.{◌≡◌, ◌≢◌, refl, sym, ap, subst, ◌∙◌, ℕ, zero, suc, ◌+◌, ◌<◌, ◌≤◌, true, false, ◌||◌, List, [], ◌∷◌, length, get_or, inl, inr, ⊎_elim, arith}
use Rattle.std.specs.Prelude.{◌==◌, ◌⊎◌}
use Rattle.std.specs.List.{list_any}
use Rattle.std.specs.List.Sorted.{IsStrictlyIncreasing}
use Rattle.std.proofs.lemmas.Bool.{cases_lt}
use Rattle.std.proofs.lemmas.Bool.Decides.{eqb_tells}
use Rattle.bp_theory.proofs.DecompositionProof.{or_true}

-- a number at a place is among them
pub is_among : (xs : List ℕ) (x i : ℕ) → i < length xs → get_or xs i 0 ≡ x → true ≡ list_any (λ j. j == x) xs
is_among [] x i l e = absurd (omega (arith, l))
is_among (y ∷ ys) x zero l e = sym (first (eqb_tells y x))
  where
    first : (((y == x) ≡ true) × (y ≡ x)) ⊎ (((y == x) ≡ false) × (y ≡ x → ⊥)) → ((y == x) || list_any (λ j. j == x) ys) ≡ true
    first (inl h) = ap (λ b. b || list_any (λ j. j == x) ys) h.0
    first (inr h) = absurd (h.1 e)
is_among (y ∷ ys) x (suc i) l e = sym (or_true (y == x) (list_any (λ j. j == x) ys) (sym (is_among ys x i (omega (arith, l)) e)))

-- where none is the number, it isn't among them
none_among : (xs : List ℕ) (x : ℕ) → ((k : ℕ) → k < length xs → get_or xs k 0 ≢ x) → list_any (λ j. j == x) xs ≡ false
none_among [] x h = refl
none_among (y ∷ ys) x h = ⊎_elim
    (λ same. absurd (h 0 (omega arith) same.1))
    (λ other. ap (λ b. b || list_any (λ j. j == x) ys) other.0 ∙ none_among ys x (λ k l. h (suc k) (omega (arith, l))))
    (eqb_tells y x)

pub is_apart : (xs : List ℕ) (x i : ℕ) → ((k : ℕ) → k < i → get_or xs k 0 < x)
    → ((k : ℕ) → i ≤ k → k < length xs → x < get_or xs k 0) → false ≡ list_any (λ j. j == x) xs
is_apart xs x i less more = sym (none_among xs x apart)
  where
    apart : (k : ℕ) → k < length xs → get_or xs k 0 ≢ x
    apart k l e = ⊎_elim (λ before. let h = less k before in omega (arith, h, e)) (λ behind. let h = more k behind l in omega (arith, h, e)) (cases_lt k i)

-- ascending numbers rise from place to place
rises : (xs : List ℕ) → IsStrictlyIncreasing xs → (k n : ℕ) → k + suc n < length xs → get_or xs k 0 < get_or xs (k + suc n) 0
rises xs h k zero l =
    let next : k + 1 ≡ k + suc 0 = omega arith in
    let step : get_or xs k 0 < get_or xs (k + 1) 0 = h k (omega (arith, l)) in
    omega (arith, step, ap (λ m. get_or xs m 0) next)
rises xs h k (suc n) l =
    let before : get_or xs k 0 < get_or xs (k + suc n) 0 = rises xs h k n (omega (arith, l)) in
    let next : (k + suc n) + 1 ≡ k + suc (suc n) = omega arith in
    let step : get_or xs (k + suc n) 0 < get_or xs ((k + suc n) + 1) 0 = h (k + suc n) (omega (arith, l)) in
    omega (arith, before, step, ap (λ m. get_or xs m 0) next)

pub later_above : (xs : List ℕ) → IsStrictlyIncreasing xs → (j k : ℕ) → j < k → k < length xs → get_or xs j 0 < get_or xs k 0
later_above xs h j k less l =
    let found = find j k less in
    let there : j + suc found.0 < length xs = omega (arith, l, found.1) in
    subst (λ m. get_or xs j 0 < get_or xs m 0) (sym found.1) (rises xs h j found.0 there)
  where
    find : (j k : ℕ) → j < k → (n : ℕ) × (k ≡ j + suc n)
    find zero zero less = absurd (omega (arith, less))
    find zero (suc k) less = (k, omega arith)
    find (suc j) zero less = absurd (omega (arith, less))
    find (suc j) (suc k) less = let found = find j k (omega (arith, less)) in (found.0, omega (arith, found.1))

-- those up to a lesser one are less, and those from a greater one on are greater
pub below_middle : (xs : List ℕ) (x i : ℕ) → IsStrictlyIncreasing xs → i < length xs → get_or xs i 0 < x → (k : ℕ) → k < i + 1 → get_or xs k 0 < x
below_middle xs x i h l less k m = ⊎_elim
    (λ before. let r = later_above xs h k i before l in omega (arith, r, less))
    (λ behind. let same : k ≡ i = omega (arith, m, behind) in omega (arith, ap (λ j. get_or xs j 0) same, less))
    (cases_lt k i)

pub above_middle : (xs : List ℕ) (x i : ℕ) → IsStrictlyIncreasing xs → i < length xs → get_or xs i 0 ≢ x → x ≤ get_or xs i 0
    → (k : ℕ) → i ≤ k → k < length xs → x < get_or xs k 0
above_middle xs x i h l other more k low there = ⊎_elim
    (λ behind. let r = later_above xs h i k behind there in omega (arith, r, more))
    (λ before. let same : k ≡ i = omega (arith, low, before) in omega (arith, ap (λ j. get_or xs j 0) same, more, strict))
    (cases_lt i k)
  where
    strict : x < get_or xs i 0
    strict = ⊎_elim (λ r. r) (λ r. absurd (other (omega (arith, r, more)))) (cases_lt x (get_or xs i 0))
