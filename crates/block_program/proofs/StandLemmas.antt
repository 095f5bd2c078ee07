-- Coefficients in tidy terms, and places among variables.
use Rattle.std.proofs.Common.{◌≡◌, ◌≢◌, ℕ, zero, suc, ◌+◌, ◌<◌, ◌≤◌, if◌then◌else◌, Bool, true, false, filter, add-one, Result, Ok, Err, List, [], ◌∷◌, ◌++◌, length, get_or, refl, sym, ap, ◌∙◌, ⊎_elim, arith}
use Rattle.std.specs.Prelude.{pos}
use Rattle.std.specs.List.{range_with_len}
use Rattle.std.specs.List.Sorted.{IsStrictlyIncreasing, IsBinarySearchResult}
use Rattle.std.specs.Ordering.{nat_cmp}
use Rattle.std.specs.Result.{MatchResult}
use Rattle.std.proofs.lemmas.Bool.{cases_lt}
use Rattle.std.proofs.lemmas.List.FromFn.{get_or-range_with_len, length-range_with_len}
use Rattle.std.proofs.lemmas.List.Kept.{IsStrictlyIncreasing-filter}
use Rattle.std.proofs.lemmas.List.Sorted.{searched}
use Rattle.std.proofs.lemmas.Int.{ints}
use Rattle.std.proofs.lemmas.Bool.Decides.{eqb_tells}
use Rattle.bp_theory.specs.Program.{coefficient}
use Rattle.bp_theory.specs.Decomposition.{IsTidyFrom, place_of}
use Rattle.bp_theory.specs.declared.Term.{Term}
use Rattle.bp_theory.proofs.KeyLaws.{if_same, if_other}

-- no term of a variable, no coefficient
pub coefficient_none : (ts : List Term) (v : ℕ) → ((k : ℕ) (d : Term) → k < length ts → (get_or ts k d).var ≢ v) → coefficient ts v ≡ pos 0
coefficient_none [] v h = refl
coefficient_none (t ∷ ts) v h =
    let none = if_other t.var v t.coef (pos 0) (h 0 t (omega arith)) in
    omega (arith, ints, none, coefficient_none ts v (λ k d l. h (suc k) d (omega (arith, l))))

pub before_none : (n v : ℕ) (ts : List Term) → IsTidyFrom n ts → v < n → coefficient ts v ≡ pos 0
before_none n v [] h l = refl
before_none n v (t ∷ ts) h l =
    let none = if_other t.var v t.coef (pos 0) (λ same. omega (arith, h.0, same)) in
    omega (arith, ints, none, before_none (suc t.var) v ts h.2 (omega (arith, h.0)))

above_start : (n : ℕ) (ts : List Term) (i : ℕ) (d : Term) → IsTidyFrom n ts → i < length ts → n ≤ (get_or ts i d).var
above_start n [] i d h l = absurd (omega arith)
above_start n (t ∷ ts) zero d h l = h.0
above_start n (t ∷ ts) (suc i) d h l = omega (arith, h.0, above_start (suc t.var) ts i d h.2 (omega (arith, l)))

-- the coefficient of a term's variable is the term's
pub coefficient_at : (n : ℕ) (ts : List Term) (i : ℕ) (d : Term) → IsTidyFrom n ts → i < length ts
    → coefficient ts (get_or ts i d).var ≡ (get_or ts i d).coef
coefficient_at n [] i d h l = absurd (omega arith)
coefficient_at n (t ∷ ts) zero d h l =
    let at = if_same t.var t.var t.coef (pos 0) refl in
    omega (arith, ints, at, before_none (suc t.var) t.var ts h.2 (omega arith))
coefficient_at n (t ∷ ts) (suc i) d h l =
    let low = above_start (suc t.var) ts i d h.2 (omega (arith, l)) in
    let none = if_other t.var (get_or ts i d).var t.coef (pos 0) (λ same. omega (arith, low, same)) in
    omega (arith, ints, none, coefficient_at (suc t.var) ts i d h.2 (omega (arith, l)))

-- the place of the first that is the variable, and of none
pub place_at : (us : List ℕ) (v i : ℕ) → i < length us → ((k : ℕ) → k < i → get_or us k 0 ≢ v) → get_or us i 0 ≡ v → place_of us v ≡ i
place_at [] v i l before here = absurd (omega arith)
place_at (u ∷ us) v zero l before here = ⊎_elim
    (λ same. ap (λ b. if b then 0 else suc (place_of us v)) same.0)
    (λ other. absurd (other.1 here))
    (eqb_tells u v)
place_at (u ∷ us) v (suc i) l before here = ⊎_elim
    (λ same. absurd (before 0 (omega arith) same.1))
    (λ other. ap (λ b. if b then 0 else suc (place_of us v)) other.0 ∙ ap suc (place_at us v i (omega (arith, l)) (λ k m. before (suc k) (omega (arith, m))) here))
    (eqb_tells u v)

pub place_none : (us : List ℕ) (v : ℕ) → ((k : ℕ) → k < length us → get_or us k 0 ≢ v) → place_of us v ≡ length us
place_none [] v h = refl
place_none (u ∷ us) v h = ⊎_elim
    (λ same. absurd (h 0 (omega arith) same.1))
    (λ other. ap (λ b. if b then 0 else suc (place_of us v)) other.0 ∙ ap suc (place_none us v (λ k l. h (suc k) (omega (arith, l)))))
    (eqb_tells u v)

-- numbers that rise from each to the next rise from each to each later one
pub rising : (us : List ℕ) → IsStrictlyIncreasing us → (i j : ℕ) → i < j → j < length us → get_or us i 0 < get_or us j 0
rising us h i zero l m = absurd (omega arith)
rising us h i (suc j) l m =
    let next : get_or us j 0 < get_or us (suc j) 0 = omega (arith, h j (omega (arith, m)), ap (λ n. get_or us n 0) (add-one j)) in
    ⊎_elim
    (λ less. omega (arith, rising us h i j less (omega (arith, m)), next))
    (λ more. let same : i ≡ j = omega (arith, l, more) in omega (arith, next, ap (λ n. get_or us n 0) same))
    (cases_lt i j)

-- the place that a binary search finds
pub place_found : (us : List ℕ) (v : ℕ) (r : Result ℕ ℕ) → IsStrictlyIncreasing us → IsBinarySearchResult (λ y. nat_cmp y v) us r
    → MatchResult r (λ i. place_of us v ≡ i) (λ i. place_of us v ≡ length us)
place_found us v r rise is = by r (searched us v r is never_falls)
  where
    never_falls : (i j : ℕ) → i ≤ j → j < length us → get_or us i 0 ≤ get_or us j 0
    never_falls i j l m = ⊎_elim
        (λ less. omega (arith, rising us rise i j less m))
        (λ more. let same : i ≡ j = omega (arith, l, more) in omega (arith, ap (λ n. get_or us n 0) same))
        (cases_lt i j)

    by : (s : Result ℕ ℕ)
        → MatchResult s (λ i. (i < length us) × (get_or us i 0 ≡ v)) (λ i. (i ≤ length us) × ((k : ℕ) → k < i → get_or us k 0 < v) × ((k : ℕ) → i ≤ k → k < length us → v < get_or us k 0))
        → MatchResult s (λ i. place_of us v ≡ i) (λ i. place_of us v ≡ length us)
    by (Ok i) h = place_at us v i h.0 (λ k l e. omega (arith, rising us rise k i l h.0, e, h.1)) h.1
    by (Err i) h = place_none us v (λ k l e. ⊎_elim (λ less. let none : ⊥ = omega (arith, h.1 k less, e) in none) (λ more. let none : ⊥ = omega (arith, h.2 k more l, e) in none) (cases_lt k i))

-- the numbers of a range rise, and so do those that pass a test
pub passing_rise : (q : ℕ → Bool) (n : ℕ) → IsStrictlyIncreasing (filter q (range_with_len 0 n))
passing_rise q n = IsStrictlyIncreasing-filter q (range_with_len 0 n) (range_rises 0 n)
  where
    range_rises : (a m : ℕ) → IsStrictlyIncreasing (range_with_len a m)
    range_rises a m k l =
        let short : length (range_with_len a m) ≡ m = length-range_with_len a m in
        omega (arith, get_or-range_with_len a m k 0 (omega (arith, l, short)), get_or-range_with_len a m (k + 1) 0 (omega (arith, l, short)))

pub one_rises : (v : ℕ) → IsStrictlyIncreasing (v ∷ [])
one_rises v k l = absurd (omega (arith, l))

-- ---- what loops gather

pub range_more : (a n : ℕ) → range_with_len a (suc n) ≡ range_with_len a n ++ (a + n) ∷ []
range_more a zero = ap (λ k. k ∷ []) (omega arith)
range_more a (suc n) = ap (λ ks. a ∷ ks) (range_more (a + 1) n ∙ ap (λ k. range_with_len (a + 1) n ++ k ∷ []) (omega arith))

filter-append : (q : ℕ → Bool) (xs ys : List ℕ) → filter q (xs ++ ys) ≡ filter q xs ++ filter q ys
filter-append q [] ys = refl
filter-append q (x ∷ xs) ys = by (q x) (filter-append q xs ys)
  where
    by : (b : Bool) → filter q (xs ++ ys) ≡ filter q xs ++ filter q ys
        → (if b then x ∷ filter q (xs ++ ys) else filter q (xs ++ ys)) ≡ (if b then x ∷ filter q xs else filter q xs) ++ filter q ys
    by true rest = ap (λ zs. x ∷ zs) rest
    by false rest = rest

append_nil : {X : Type 0} (xs : List X) → xs ++ [] ≡ xs
append_nil [] = refl
append_nil (x ∷ xs) = ap (λ ys. x ∷ ys) (append_nil xs)

-- a number more of those that pass
pub passing_more : (q : ℕ → Bool) (n : ℕ) (b : Bool) → b ≡ q n
    → (if b then filter q (range_with_len 0 n) ++ n ∷ [] else filter q (range_with_len 0 n)) ≡ filter q (range_with_len 0 (n + 1))
passing_more q n b is =
    sym (ap (λ k. filter q (range_with_len 0 k)) (add-one n) ∙ ap (filter q) (range_more 0 n ∙ ap (λ k. range_with_len 0 n ++ k ∷ []) (omega arith))
    ∙ filter-append q (range_with_len 0 n) (n ∷ []) ∙ ap (λ t. filter q (range_with_len 0 n) ++ (if t then n ∷ [] else [])) (sym is) ∙ by b)
  where
    by : (t : Bool) → filter q (range_with_len 0 n) ++ (if t then n ∷ [] else []) ≡ (if t then filter q (range_with_len 0 n) ++ n ∷ [] else filter q (range_with_len 0 n))
    by true = refl
    by false = append_nil (filter q (range_with_len 0 n))

-- no more pass than there are
filter_few : (q : ℕ → Bool) (xs : List ℕ) → length (filter q xs) ≤ length xs
filter_few q [] = omega arith
filter_few q (x ∷ xs) = by (q x) (filter_few q xs)
  where
    by : (b : Bool) → length (filter q xs) ≤ length xs → length (if b then x ∷ filter q xs else filter q xs) ≤ suc (length xs)
    by true rest = omega (arith, rest)
    by false rest = omega (arith, rest)

length_range : (a n : ℕ) → length (range_with_len a n) ≡ n
length_range a zero = refl
length_range a (suc n) = ap suc (length_range (a + 1) n)

pub passing_few : (q : ℕ → Bool) (n : ℕ) → length (filter q (range_with_len 0 n)) ≤ n
passing_few q n = omega (arith, filter_few q (range_with_len 0 n), length_range 0 n)
