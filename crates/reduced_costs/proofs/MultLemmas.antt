-- Multipliers of rows that ascend, and what they take from a copy.
use Rattle.std.proofs.Common.{◌≡◌, ◌≢◌, ℕ, zero, suc, ◌+◌, ◌*◌, ◌^◌, ◌<◌, ◌≤◌, List, [], ◌∷◌, map, take, length, get_or, sum_by, All, refl, sym, ap, subst, ◌∙◌, ⊎_elim, arith}
use Rattle.std.proofs.Math.IntN.{ℤ, pos, ◌+ℤ◌, ◌*ℤ◌, zero-*ℤ, *ℤ-zero}
use Rattle.std.specs.Prelude.{unsigned_abs, ◌==◌, if◌then◌else◌}
use Rattle.std.specs.List.Sorted.{IsStrictlyIncreasing}
use Rattle.std.proofs.Math.Nat.{mul-le-mul_left}
use Rattle.std.proofs.lemmas.Bool.{cases_lt}
use Rattle.std.proofs.lemmas.Bool.Decides.{eqb_tells}
use Rattle.std.proofs.lemmas.Int.{ints, unsigned_abs-mul}
use Rattle.std.proofs.lemmas.List.{length-map, take_all}
use Rattle.std.proofs.lemmas.List.Sums.{sum_by-le}
use Rattle.bp_theory.specs.Sums.{sum_of, sum_at}
use Rattle.bp_theory.proofs.SumLaws.{sum_of-same, mul-sum_of, sum_of-mul, sum_of_swap, sum_of_more, sum_of_so_far_within}
use Rattle.bp_theory.proofs.KeyLaws.{if_same, if_other}
use Rattle.bp_theory.proofs.DecompositionProof.{get_or-map_past}

-- the row of a multiplier at a place
abbrev pub key : List (ℕ × ℤ) → ℕ → ℕ
key ms k = (get_or ms k (0, pos 0)).0

abbrev pub rows_of : List (ℕ × ℤ) → List ℕ
rows_of ms = map (λ (m : ℕ × ℤ). m.0) ms

key_at : (ms : List (ℕ × ℤ)) (k : ℕ) → get_or (rows_of ms) k 0 ≡ key ms k
key_at ms k = get_or-map_past (λ (m : ℕ × ℤ). m.0) ms k (0, pos 0)

rises : (ms : List (ℕ × ℤ)) → IsStrictlyIncreasing (rows_of ms) → (k n : ℕ) → k + suc n < length ms → key ms k < key ms (k + suc n)
rises ms h k zero l =
    let next : k + 1 ≡ k + suc 0 = omega arith in
    let step : get_or (rows_of ms) k 0 < get_or (rows_of ms) (k + 1) 0 = h k (omega (arith, l, length-map ms (λ (m : ℕ × ℤ). m.0))) in
    omega (arith, step, key_at ms k, key_at ms (k + 1), ap (key ms) next)
rises ms h k (suc n) l =
    let before : key ms k < key ms (k + suc n) = rises ms h k n (omega arith) in
    let next : (k + suc n) + 1 ≡ k + suc (suc n) = omega arith in
    let step : get_or (rows_of ms) (k + suc n) 0 < get_or (rows_of ms) ((k + suc n) + 1) 0 = h (k + suc n) (omega (arith, l, length-map ms (λ (m : ℕ × ℤ). m.0))) in
    omega (arith, before, step, key_at ms (k + suc n), key_at ms ((k + suc n) + 1), ap (key ms) next)

-- a later multiplier has a greater row
pub later_above : (ms : List (ℕ × ℤ)) → IsStrictlyIncreasing (rows_of ms) → (j k : ℕ) → j < k → k < length ms → key ms j < key ms k
later_above ms h j k less l = by k less l
  where
    find : (j k : ℕ) → j < k → (n : ℕ) × (k ≡ j + suc n)
    find zero zero less = absurd (omega arith)
    find zero (suc k) less = (k, omega arith)
    find (suc j) zero less = absurd (omega arith)
    find (suc j) (suc k) less = let found = find j k (omega arith) in (found.0, omega (arith, found.1))

    by : (k : ℕ) → j < k → k < length ms → key ms j < key ms k
    by k less l =
        let found = find j k less in
        let there : j + suc found.0 < length ms = omega (arith, l, found.1) in
        subst (λ m. key ms j < key ms m) (sym found.1) (rises ms h j found.0 there)

-- where no multiplier is the row's, its multiplier is 0
pub missing : (ms : List (ℕ × ℤ)) (row : ℕ) → ((k : ℕ) → k < length ms → key ms k ≢ row)
    → sum_at (λ (m : ℕ × ℤ). m.0) (λ m. m.1) ms row ≡ pos 0
missing [] row h = refl
missing (m ∷ ms) row h =
    omega (arith, ints, if_other m.0 row m.1 (pos 0) (h 0 (omega arith)), missing ms row (λ k l. h (suc k) (omega arith)))

-- the row's multiplier is the one at its place
pub found_at : (ms : List (ℕ × ℤ)) (row i : ℕ) → i < length ms → key ms i ≡ row
    → ((k : ℕ) → k < length ms → key ms k ≡ row → k ≡ i)
    → sum_at (λ (m : ℕ × ℤ). m.0) (λ m. m.1) ms row ≡ (get_or ms i (0, pos 0)).1
found_at [] row i l e only = absurd (omega arith)
found_at (m ∷ ms) row zero l e only =
    let rest = missing ms row (λ k below same. let wrong : suc k ≡ 0 = only (suc k) (omega arith) same in omega (arith, wrong)) in
    omega (arith, ints, if_same m.0 row m.1 (pos 0) e, rest)
found_at (m ∷ ms) row (suc i) l e only =
    let other : m.0 ≡ row → ⊥ = λ same. let wrong : 0 ≡ suc i = only 0 (omega arith) same in omega (arith, wrong) in
    let rest = found_at ms row i (omega arith) e (λ k below same. let equal : suc k ≡ suc i = only (suc k) (omega arith) same in omega (arith, equal)) in
    omega (arith, ints, if_other m.0 row m.1 (pos 0) other, rest)

-- the multiplier at a place where the rows ascend
pub multiplier_at : (ms : List (ℕ × ℤ)) (row i : ℕ) → IsStrictlyIncreasing (rows_of ms) → i < length ms → key ms i ≡ row
    → (get_or ms i (0, pos 0)).1 ≡ sum_at (λ (m : ℕ × ℤ). m.0) (λ m. m.1) ms row
multiplier_at ms row i h l e = sym (found_at ms row i l e only)
  where
    apart : (a b : ℕ) → a < b → a ≡ b → ⊥
    apart a b less same = omega arith

    only : (k : ℕ) → k < length ms → key ms k ≡ row → k ≡ i
    only k below same = ⊎_elim
        (λ less. absurd (apart (key ms k) (key ms i) (later_above ms h k i less l) (same ∙ sym e)))
        (λ more. ⊎_elim
        (λ less. absurd (apart (key ms i) (key ms k) (later_above ms h i k less below) (e ∙ sym same)))
        (λ most. omega (arith, more, most))
        (cases_lt i k))
        (cases_lt k i)

-- where the rows below a place are less and those from it on greater, the row has no multiplier
pub none_between : (ms : List (ℕ × ℤ)) (row i : ℕ) → ((k : ℕ) → k < i → key ms k < row)
    → ((k : ℕ) → i ≤ k → k < length ms → row < key ms k)
    → pos 0 ≡ sum_at (λ (m : ℕ × ℤ). m.0) (λ m. m.1) ms row
none_between ms row i less more = sym (missing ms row apart)
  where
    apart : (k : ℕ) → k < length ms → key ms k ≢ row
    apart k l e = ⊎_elim (λ before. let h = less k before in omega (arith, h, e)) (λ behind. let h = more k behind l in omega (arith, h, e)) (cases_lt k i)

-- ---- multipliers times coefficients

-- a multiplier is no more than all allow
pub multiplier_within : (ms : List (ℕ × ℤ)) (row : ℕ) → IsStrictlyIncreasing (rows_of ms) → All (λ (m : ℕ × ℤ). unsigned_abs m.1 ≤ 2 ^ 40) ms
    → unsigned_abs (sum_at (λ (m : ℕ × ℤ). m.0) (λ m. m.1) ms row) ≤ 2 ^ 40
multiplier_within ms row h sizes = by (length ms) (λ k l past. absurd (omega arith))
  where
    here : (i : ℕ) → i < length ms → key ms i ≡ row → unsigned_abs (sum_at (λ (m : ℕ × ℤ). m.0) (λ m. m.1) ms row) ≤ 2 ^ 40
    here i l e = let size : unsigned_abs (get_or ms i (0, pos 0)).1 ≤ 2 ^ 40 = sizes i (0, pos 0) l in
        omega (arith, ints, multiplier_at ms row i h l e, size)

    by : (n : ℕ) → ((k : ℕ) → k < length ms → n ≤ k → key ms k ≢ row) → unsigned_abs (sum_at (λ (m : ℕ × ℤ). m.0) (λ m. m.1) ms row) ≤ 2 ^ 40
    by zero none = omega (arith, ints, missing ms row (λ k l. none k l (omega arith)))
    by (suc n) none = ⊎_elim
        (λ there. ⊎_elim
        (λ same. here n there same.1)
        (λ other. by n (λ k l from. ⊎_elim
        (λ more. none k l (omega (arith, more)))
        (λ less. let e : k ≡ n = omega (arith, from, less) in subst (λ m. key ms m ≢ row) (sym e) other.1)
        (cases_lt n k)))
        (eqb_tells (key ms n) row))
        (λ past. by n (λ k l from. absurd (omega (arith, past, l, from))))
        (cases_lt n (length ms))

-- what a copy pays to the rows: by coefficients or by multipliers
pub by_multipliers : (ms cs : List (ℕ × ℤ))
    → sum_of (λ (e : ℕ × ℤ). sum_at (λ (m : ℕ × ℤ). m.0) (λ m. m.1) ms e.0 *ℤ e.1) cs
    ≡ sum_of (λ (m : ℕ × ℤ). m.1 *ℤ sum_at (λ (e : ℕ × ℤ). e.0) (λ e. e.1) cs m.0) ms
by_multipliers ms cs =
    sum_of-same (λ (e : ℕ × ℤ). sum_at (λ (m : ℕ × ℤ). m.0) (λ m. m.1) ms e.0 *ℤ e.1)
    (λ e. sum_of (λ (m : ℕ × ℤ). (if m.0 == e.0 then m.1 else pos 0) *ℤ e.1) ms)
    (λ e. sum_of-mul e.1 (λ (m : ℕ × ℤ). if m.0 == e.0 then m.1 else pos 0) ms) cs
    ∙ sum_of_swap (λ (e m : ℕ × ℤ). (if m.0 == e.0 then m.1 else pos 0) *ℤ e.1) cs ms
    ∙ sum_of-same (λ (m : ℕ × ℤ). sum_of (λ (e : ℕ × ℤ). (if m.0 == e.0 then m.1 else pos 0) *ℤ e.1) cs)
    (λ m. sum_of (λ (e : ℕ × ℤ). m.1 *ℤ (if e.0 == m.0 then e.1 else pos 0)) cs)
    (λ m. sum_of-same (λ (e : ℕ × ℤ). (if m.0 == e.0 then m.1 else pos 0) *ℤ e.1) (λ e. m.1 *ℤ (if e.0 == m.0 then e.1 else pos 0)) (λ e. turned m e) cs) ms
    ∙ sum_of-same (λ (m : ℕ × ℤ). sum_of (λ (e : ℕ × ℤ). m.1 *ℤ (if e.0 == m.0 then e.1 else pos 0)) cs)
    (λ m. m.1 *ℤ sum_at (λ (e : ℕ × ℤ). e.0) (λ e. e.1) cs m.0)
    (λ m. sym (mul-sum_of m.1 (λ (e : ℕ × ℤ). if e.0 == m.0 then e.1 else pos 0) cs)) ms
  where
    turned : (m e : ℕ × ℤ) → (if m.0 == e.0 then m.1 else pos 0) *ℤ e.1 ≡ m.1 *ℤ (if e.0 == m.0 then e.1 else pos 0)
    turned m e = ⊎_elim
        (λ same. ap (λ z. z *ℤ e.1) (if_same m.0 e.0 m.1 (pos 0) same.1) ∙ sym (ap (λ z. m.1 *ℤ z) (if_same e.0 m.0 e.1 (pos 0) (sym same.1))))
        (λ other. ap (λ z. z *ℤ e.1) (if_other m.0 e.0 m.1 (pos 0) other.1) ∙ zero-*ℤ e.1
        ∙ sym (ap (λ z. m.1 *ℤ z) (if_other e.0 m.0 e.1 (pos 0) (λ back. other.1 (sym back))) ∙ *ℤ-zero m.1))
        (eqb_tells m.0 e.0)

-- the sum so far keeps its limit
pub payment_within : (ms cs : List (ℕ × ℤ)) (i : ℕ) → IsStrictlyIncreasing (rows_of ms) → All (λ (m : ℕ × ℤ). unsigned_abs m.1 ≤ 2 ^ 40) ms
    → length cs ≤ 1048832 → All (λ (e : ℕ × ℤ). unsigned_abs e.1 < 2 ^ 62) cs
    → unsigned_abs (sum_of (λ (e : ℕ × ℤ). sum_at (λ (m : ℕ × ℤ). m.0) (λ m. m.1) ms e.0 *ℤ e.1) (take i cs)) ≤ 2 ^ 123
payment_within ms cs i ascend sizes few coefs =
    let f : ℕ × ℤ → ℤ = λ e. sum_at (λ (m : ℕ × ℤ). m.0) (λ m. m.1) ms e.0 *ℤ e.1 in
    let all : sum_by (λ e. unsigned_abs (f e)) cs ≤ length cs * (2 ^ 40 * 2 ^ 62) =
    sum_by-le (λ e. unsigned_abs (f e)) (2 ^ 40 * 2 ^ 62) cs (λ k d l.
    let e : ℕ × ℤ = get_or cs k d in
    let p : ℤ = sum_at (λ (m : ℕ × ℤ). m.0) (λ m. m.1) ms e.0 in
    let coef : unsigned_abs e.1 < 2 ^ 62 = coefs k d l in
    one p e.1 (multiplier_within ms e.0 ascend sizes) coef) in
    omega (arith, all, few, sum_of_so_far_within f cs i)
  where
    one : (p q : ℤ) → unsigned_abs p ≤ 2 ^ 40 → unsigned_abs q < 2 ^ 62 → unsigned_abs (p *ℤ q) ≤ 2 ^ 40 * 2 ^ 62
    one p q h g =
        let first : unsigned_abs p * unsigned_abs q ≤ unsigned_abs p * 2 ^ 62 = mul-le-mul_left (unsigned_abs p) (omega arith) in
        omega (arith, unsigned_abs-mul p q, first, h)

-- one more coefficient
pub payment_step : (ms cs : List (ℕ × ℤ)) (i : ℕ) (sum more : ℤ) → i < length cs
    → sum ≡ sum_of (λ (e : ℕ × ℤ). sum_at (λ (m : ℕ × ℤ). m.0) (λ m. m.1) ms e.0 *ℤ e.1) (take i cs)
    → more ≡ sum_at (λ (m : ℕ × ℤ). m.0) (λ m. m.1) ms (get_or cs i (0, pos 0)).0 *ℤ (get_or cs i (0, pos 0)).1
    → IsStrictlyIncreasing (rows_of ms) → All (λ (m : ℕ × ℤ). unsigned_abs m.1 ≤ 2 ^ 40) ms
    → length cs ≤ 1048832 → All (λ (e : ℕ × ℤ). unsigned_abs e.1 < 2 ^ 62) cs
    → (sum +ℤ more ≡ sum_of (λ (e : ℕ × ℤ). sum_at (λ (m : ℕ × ℤ). m.0) (λ m. m.1) ms e.0 *ℤ e.1) (take (i + 1) cs))
    × (unsigned_abs (sum +ℤ more) ≤ 2 ^ 123)
payment_step ms cs i sum more l so_far next ascend sizes few coefs =
    let f : ℕ × ℤ → ℤ = λ e. sum_at (λ (m : ℕ × ℤ). m.0) (λ m. m.1) ms e.0 *ℤ e.1 in
    let step : sum +ℤ more ≡ sum_of f (take (i + 1) cs) = omega (arith, ints, sum_of_more f cs i (0, pos 0) l, so_far, next) in
    (step, omega (arith, ints, step, payment_within ms cs (i + 1) ascend sizes few coefs))

-- the rows up to a place of lesser row are less, and from a place of greater row on they are greater
pub below_middle : (ms : List (ℕ × ℤ)) (row i : ℕ) → IsStrictlyIncreasing (rows_of ms) → i < length ms → key ms i < row
    → (k : ℕ) → k < i + 1 → key ms k < row
below_middle ms row i h l less k below = ⊎_elim
    (λ before. let step = later_above ms h k i before l in omega (arith, step, less))
    (λ from. let e : k ≡ i = omega (arith, below, from) in subst (λ m. key ms m < row) (sym e) less)
    (cases_lt k i)

pub above_middle : (ms : List (ℕ × ℤ)) (row i : ℕ) → IsStrictlyIncreasing (rows_of ms) → i < length ms → key ms i ≢ row → row ≤ key ms i
    → (k : ℕ) → i ≤ k → k < length ms → row < key ms k
above_middle ms row i h l apart more k from below = ⊎_elim
    (λ behind. let step = later_above ms h i k behind below in omega (arith, step, more))
    (λ upto. let e : k ≡ i = omega (arith, from, upto) in subst (λ m. row < key ms m) (sym e) (omega (arith, apart, more)))
    (cases_lt i k)

-- a sum so far of all terms is the sum
pub all_taken : {X : Type 0} (f : X → ℤ) (xs : List X) (i : ℕ) (sum : ℤ) → length xs ≤ i → sum ≡ sum_of f (take i xs) → sum ≡ sum_of f xs
all_taken f xs i sum l e = e ∙ ap (sum_of f) (take_all i xs l)
