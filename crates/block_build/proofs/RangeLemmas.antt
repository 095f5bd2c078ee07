-- Numbers of a range that pass a test.
use Rattle.std.proofs.Common.{◌≡◌, ℕ, zero, suc, ◌+◌, ◌-◌, ◌<◌, ◌≤◌, Bool, true, false, not, ◌||◌, if◌then◌else◌, List, [], ◌∷◌, ◌++◌, filter, drop, length, get_or, refl, sym, ap, ◌∙◌, ⊎_elim, arith, zero-add, length-append, true≢false}
use Rattle.std.specs.Prelude.{◌==◌, ◌≢◌}
use Rattle.std.specs.List.{range_with_len, list_any, AllByRecursion}
use Rattle.std.proofs.lemmas.Bool.{cases_lt}
use Rattle.std.proofs.lemmas.Bool.Decides.{eqb_tells}
use Rattle.std.proofs.lemmas.List.{get_or-append-add, append-nil}
use Rattle.std.proofs.lemmas.List.Elements.{filter-append}
use Rattle.bp_theory.specs.Decomposition.{place_of}
use Rattle.block_program.proofs.StandLemmas.{rising, passing_rise}

pub false_by : (b : Bool) → (b ≡ true → ⊥) → b ≡ false
false_by true h = absurd (h refl)
false_by false h = refl

pub none_pass : (q : ℕ → Bool) (a n : ℕ) → ((k : ℕ) → a ≤ k → k < a + n → q k ≡ true → ⊥) → filter q (range_with_len a n) ≡ []
none_pass q a zero h = refl
none_pass q a (suc n) h =
    ap (λ b. if b then a ∷ filter q (range_with_len (a + 1) n) else filter q (range_with_len (a + 1) n)) (false_by (q a) (h a (omega arith) (omega arith)))
    ∙ none_pass q (a + 1) n (λ k low high. h k (omega (arith, low)) (omega (arith, high)))

pub none_any : (q : ℕ → Bool) (a n : ℕ) → ((k : ℕ) → a ≤ k → k < a + n → q k ≡ true → ⊥) → list_any q (range_with_len a n) ≡ false
none_any q a zero h = refl
none_any q a (suc n) h =
    ap (λ b. b || list_any q (range_with_len (a + 1) n)) (false_by (q a) (h a (omega arith) (omega arith)))
    ∙ none_any q (a + 1) n (λ k low high. h k (omega (arith, low)) (omega (arith, high)))

pub list_any_within : (q : ℕ → Bool) (j a n : ℕ) → a ≤ j → j < a + n → q j ≡ true → list_any q (range_with_len a n) ≡ true
list_any_within q j a zero low high is = absurd (omega arith)
list_any_within q j a (suc n) low high is = ⊎_elim
    (λ same. ap (λ b. b || list_any q (range_with_len (a + 1) n)) (ap q same.1 ∙ is))
    (λ other. by (q a) (list_any_within q j (a + 1) n (omega (arith, low, other.1)) (omega (arith, high)) is))
    (eqb_tells a j)
  where
    by : (b : Bool) → list_any q (range_with_len (a + 1) n) ≡ true → (b || list_any q (range_with_len (a + 1) n)) ≡ true
    by true rest = refl
    by false rest = rest

-- what passes is in the range, and passes
pub kept_passing : (q : ℕ → Bool) (n a m : ℕ) → a + m ≤ n → AllByRecursion (λ k. (k < n) × (q k ≡ true)) (filter q (range_with_len a m))
kept_passing q n a zero l = tt
kept_passing q n a (suc m) l = by (q a) refl (kept_passing q n (a + 1) m (omega (arith, l)))
  where
    by : (b : Bool) → q a ≡ b → AllByRecursion (λ k. (k < n) × (q k ≡ true)) (filter q (range_with_len (a + 1) m))
        → AllByRecursion (λ k. (k < n) × (q k ≡ true)) (if b then a ∷ filter q (range_with_len (a + 1) m) else filter q (range_with_len (a + 1) m))
    by true is rest = ((omega (arith, l), is), rest)
    by false is rest = rest

pub range_split : (a m n : ℕ) → range_with_len a (m + n) ≡ range_with_len a m ++ range_with_len (a + m) n
range_split a zero n = ap (range_with_len a) (zero-add n) ∙ ap (λ k. range_with_len k n) (let e : a ≡ a + 0 = omega arith in e)
range_split a (suc m) n =
    ap (range_with_len a) (let e : suc m + n ≡ suc (m + n) = omega arith in e)
    ∙ ap (λ ks. a ∷ ks) (range_split (a + 1) m n ∙ ap (λ k. range_with_len (a + 1) m ++ range_with_len k n) (let e : (a + 1) + m ≡ a + suc m = omega arith in e))

-- those that pass up to a number, and those behind
pub passing_split : (q : ℕ → Bool) (m n : ℕ) → filter q (range_with_len 0 (m + n)) ≡ filter q (range_with_len 0 m) ++ filter q (range_with_len m n)
passing_split q m n =
    ap (filter q) (range_split 0 m n) ∙ filter-append q (range_with_len 0 m) (range_with_len (0 + m) n)
    ∙ ap (λ k. filter q (range_with_len 0 m) ++ filter q (range_with_len k n)) (zero-add m)

-- those that pass up to a number that passes, the number, and those behind
pub passing_at : (q : ℕ → Bool) (k n : ℕ) → q k ≡ true
    → filter q (range_with_len 0 (k + suc n)) ≡ filter q (range_with_len 0 k) ++ k ∷ filter q (range_with_len (k + 1) n)
passing_at q k n is =
    passing_split q k (suc n)
    ∙ ap (λ b. filter q (range_with_len 0 k) ++ (if b then k ∷ filter q (range_with_len (k + 1) n) else filter q (range_with_len (k + 1) n))) is

-- where none passes before a next one, that is one more
pub passing_next : (q : ℕ → Bool) (from k : ℕ) → from ≤ k → q k ≡ true → ((j : ℕ) → q j ≡ true → from ≤ j → k ≤ j)
    → filter q (range_with_len 0 (k + 1)) ≡ filter q (range_with_len 0 from) ++ k ∷ []
passing_next q from k low is next =
    passing_at q k 0 is
    ∙ ap (λ ks. ks ++ k ∷ [])
    (ap (λ m. filter q (range_with_len 0 m)) (let e : k ≡ from + (k - from) = omega (arith, low) in e)
    ∙ passing_split q from (k - from)
    ∙ ap (λ ks. filter q (range_with_len 0 from) ++ ks)
    (none_pass q from (k - from) (λ j above below passes. let none : ⊥ = omega (arith, next j passes above, below, low) in none))
    ∙ append-nil (filter q (range_with_len 0 from)))

-- where none passes from a number on, those before it are all
pub passing_all_before : (q : ℕ → Bool) (from n : ℕ) → from ≤ n → ((k : ℕ) → q k ≡ true → k < from) → filter q (range_with_len 0 n) ≡ filter q (range_with_len 0 from)
passing_all_before q from n low none =
    ap (λ m. filter q (range_with_len 0 m)) (let e : n ≡ from + (n - from) = omega (arith, low) in e)
    ∙ passing_split q from (n - from)
    ∙ ap (λ ks. filter q (range_with_len 0 from) ++ ks)
    (none_pass q from (n - from) (λ j above below passes. let no : ⊥ = omega (arith, none j passes, above) in no))
    ∙ append-nil (filter q (range_with_len 0 from))

-- ---- the place of one that passes

no_place : (xs ys : List ℕ) (k : ℕ) → AllByRecursion (λ x. x ≢ k) xs → place_of (xs ++ k ∷ ys) k ≡ length xs
no_place [] ys k h = ⊎_elim
    (λ same. ap (λ b. if b then 0 else suc (place_of ys k)) same.0)
    (λ other. absurd (other.1 refl))
    (eqb_tells k k)
no_place (x ∷ xs) ys k h = ⊎_elim
    (λ same. absurd (h.0 same.1))
    (λ other. ap (λ b. if b then 0 else suc (place_of (xs ++ k ∷ ys) k)) other.0 ∙ ap suc (no_place xs ys k h.1))
    (eqb_tells x k)

others_before : (q : ℕ → Bool) (a n k : ℕ) → a + n ≤ k → AllByRecursion (λ x. x ≢ k) (filter q (range_with_len a n))
others_before q a zero k l = tt
others_before q a (suc n) k l = by (q a) (others_before q (a + 1) n k (omega (arith, l)))
  where
    by : (b : Bool) → AllByRecursion (λ x. x ≢ k) (filter q (range_with_len (a + 1) n))
        → AllByRecursion (λ x. x ≢ k) (if b then a ∷ filter q (range_with_len (a + 1) n) else filter q (range_with_len (a + 1) n))
    by true rest = ((λ e. let none : ⊥ = omega (arith, e, l) in none), rest)
    by false rest = rest

-- as many as pass before it
pub place_passing : (q : ℕ → Bool) (k n : ℕ) → k < n → q k ≡ true → place_of (filter q (range_with_len 0 n)) k ≡ length (filter q (range_with_len 0 k))
place_passing q k n l is =
    ap (λ m. place_of (filter q (range_with_len 0 m)) k) (let e : n ≡ k + suc (n - suc k) = omega (arith, l) in e)
    ∙ ap (λ ks. place_of ks k) (passing_at q k (n - suc k) is)
    ∙ no_place (filter q (range_with_len 0 k)) (filter q (range_with_len (k + 1) (n - suc k))) k (others_before q 0 k k (omega arith))

any_of_none : (q : ℕ → Bool) (xs : List ℕ) → length (filter q xs) ≡ 0 → list_any q xs ≡ false
any_of_none q [] e = refl
any_of_none q (x ∷ xs) e = by (q x) e (any_of_none q xs)
  where
    by : (b : Bool) → length (if b then x ∷ filter q xs else filter q xs) ≡ 0 → (length (filter q xs) ≡ 0 → list_any q xs ≡ false) → (b || list_any q xs) ≡ false
    by true h rest = absurd (let none : ⊥ = omega (arith, h) in none)
    by false h rest = rest h

any_of_some : (q : ℕ → Bool) (xs : List ℕ) → 0 < length (filter q xs) → list_any q xs ≡ true
any_of_some q [] l = absurd (let none : ⊥ = omega (arith, l) in none)
any_of_some q (x ∷ xs) l = by (q x) l (any_of_some q xs)
  where
    by : (b : Bool) → 0 < length (if b then x ∷ filter q xs else filter q xs) → (0 < length (filter q xs) → list_any q xs ≡ true) → (b || list_any q xs) ≡ true
    by true h rest = refl
    by false h rest = rest h

-- the first place is that of the first that passes
pub first_passing : (q : ℕ → Bool) (k n : ℕ) → k < n → q k ≡ true → place_of (filter q (range_with_len 0 n)) k ≡ 0 → not (list_any q (range_with_len 0 k)) ≡ true
first_passing q k n l is first = ap not (any_of_none q (range_with_len 0 k) (sym (place_passing q k n l is) ∙ first))

pub later_passing : (q : ℕ → Bool) (k n : ℕ) → k < n → q k ≡ true → 0 < place_of (filter q (range_with_len 0 n)) k → not (list_any q (range_with_len 0 k)) ≡ false
later_passing q k n l is later = ap not (any_of_some q (range_with_len 0 k) (let h : 0 < length (filter q (range_with_len 0 k)) = omega (arith, place_passing q k n l is, later) in h))

-- it stands in its place
pub at_place : (q : ℕ → Bool) (k n : ℕ) → k < n → q k ≡ true
    → (place_of (filter q (range_with_len 0 n)) k < length (filter q (range_with_len 0 n))) × (get_or (filter q (range_with_len 0 n)) (place_of (filter q (range_with_len 0 n)) k) 0 ≡ k)
at_place q k n l is =
    let front : List ℕ = filter q (range_with_len 0 k) in
    let back : List ℕ = filter q (range_with_len (k + 1) (n - suc k)) in
    let all : filter q (range_with_len 0 n) ≡ front ++ k ∷ back =
    ap (λ m. filter q (range_with_len 0 m)) (let e : n ≡ k + suc (n - suc k) = omega (arith, l) in e) ∙ passing_at q k (n - suc k) is in
    let place = place_passing q k n l is in (
      omega (arith, place, ap (λ (ks : List ℕ). length ks) all, length-append front (k ∷ back)),
      ap (λ i. get_or (filter q (range_with_len 0 n)) i 0) place ∙ ap (λ ks. get_or ks (length front) 0) all
          ∙ ap (λ i. get_or (front ++ k ∷ back) i 0) (let e : length front ≡ length front + 0 = omega arith in e) ∙ get_or-append-add front (k ∷ back) 0 0,
    )

-- behind the first, by places
drop_one : (xs : List ℕ) (i : ℕ) → get_or (drop 1 xs) i 0 ≡ get_or xs (suc i) 0
drop_one [] i = refl
drop_one (x ∷ xs) i = refl

drop_long : (xs : List ℕ) → length (drop 1 xs) ≡ length xs - 1
drop_long [] = refl
drop_long (x ∷ xs) = omega arith

-- a later one is behind the first at one place, and nowhere else
pub later_place : (q : ℕ → Bool) (k n i : ℕ) → k < n → q k ≡ true → place_of (filter q (range_with_len 0 n)) k ≡ suc i
    → (i < length (drop 1 (filter q (range_with_len 0 n)))) × (get_or (drop 1 (filter q (range_with_len 0 n))) i 0 ≡ k)
    × ((j : ℕ) → j < length (drop 1 (filter q (range_with_len 0 n))) → j ≢ i → get_or (drop 1 (filter q (range_with_len 0 n))) j 0 ≢ k)
later_place q k n i l is place =
    let all : List ℕ = filter q (range_with_len 0 n) in
    let at = at_place q k n l is in
    let here : get_or all (suc i) 0 ≡ k = ap (λ m. get_or all m 0) (sym place) ∙ at.1 in (
      omega (arith, at.0, place, drop_long all),
      drop_one all i ∙ here,
      λ j inside other same.
          let there : get_or all (suc j) 0 ≡ k = sym (drop_one all j) ∙ same in
          ⊎_elim
          (λ less. let none : ⊥ = omega (arith, rising all (passing_rise q n) (suc j) (suc i) (omega (arith, less)) (omega (arith, at.0, place)), here, there) in none)
          (λ more. let none : ⊥ = omega (arith, rising all (passing_rise q n) (suc i) (suc j) (omega (arith, more, other)) (omega (arith, inside, drop_long all)), here, there) in none)
          (cases_lt j i),
    )

-- behind the first of all there is no first
pub others_behind : (q : ℕ → Bool) (k n : ℕ) → k < n → q k ≡ true → place_of (filter q (range_with_len 0 n)) k ≡ 0 → AllByRecursion (λ j. k ≢ j) (drop 1 (filter q (range_with_len 0 n)))
others_behind q k n l is first = all_apart (drop 1 all) (λ j inside same.
    let none : ⊥ = omega (arith, rising all (passing_rise q n) 0 (suc j) (omega arith) (omega (arith, inside, drop_long all)), here, sym (drop_one all j) ∙ same) in none)
  where
    all : List ℕ
    all = filter q (range_with_len 0 n)

    here : get_or all 0 0 ≡ k
    here = ap (λ m. get_or all m 0) (sym first) ∙ (at_place q k n l is).1

    all_apart : (ks : List ℕ) → ((j : ℕ) → j < length ks → get_or ks j 0 ≢ k) → AllByRecursion (λ j. k ≢ j) ks
    all_apart [] h = tt
    all_apart (j ∷ ks) h = (λ e. h 0 (omega arith) (sym e), all_apart ks (λ i m. h (suc i) (omega (arith, m))))

-- a number that passes is among those that pass, and what is among them passes
pub among_passing : (q : ℕ → Bool) (k n : ℕ) → k < n → list_any (λ j. j == k) (filter q (range_with_len 0 n)) ≡ q k
among_passing q k n l = by (q k) refl
  where
    any_at : (xs ys : List ℕ) → list_any (λ j. j == k) (xs ++ k ∷ ys) ≡ true
    any_at [] ys = ⊎_elim (λ same. ap (λ b. b || list_any (λ j. j == k) ys) same.0) (λ other. absurd (other.1 refl)) (eqb_tells k k)
    any_at (x ∷ xs) ys = or (x == k) (any_at xs ys)
      where
        or : (b : Bool) → list_any (λ j. j == k) (xs ++ k ∷ ys) ≡ true → (b || list_any (λ j. j == k) (xs ++ k ∷ ys)) ≡ true
        or true h = refl
        or false h = h

    none_at : (a m : ℕ) → q k ≡ false → list_any (λ j. j == k) (filter q (range_with_len a m)) ≡ false
    none_at a zero is = refl
    none_at a (suc m) is = step (q a) refl (none_at (a + 1) m is)
      where
        step : (b : Bool) → q a ≡ b → list_any (λ j. j == k) (filter q (range_with_len (a + 1) m)) ≡ false
            → list_any (λ j. j == k) (if b then a ∷ filter q (range_with_len (a + 1) m) else filter q (range_with_len (a + 1) m)) ≡ false
        step true here rest = ⊎_elim
            (λ same. absurd (true≢false (sym here ∙ ap q same.1 ∙ is)))
            (λ other. ap (λ b. b || list_any (λ j. j == k) (filter q (range_with_len (a + 1) m))) other.0 ∙ rest)
            (eqb_tells a k)
        step false here rest = rest

    by : (b : Bool) → q k ≡ b → list_any (λ j. j == k) (filter q (range_with_len 0 n)) ≡ q k
    by true is =
        ap (λ m. list_any (λ j. j == k) (filter q (range_with_len 0 m))) (let e : n ≡ k + suc (n - suc k) = omega (arith, l) in e)
        ∙ ap (list_any (λ j. j == k)) (passing_at q k (n - suc k) is)
        ∙ any_at (filter q (range_with_len 0 k)) (filter q (range_with_len (k + 1) (n - suc k))) ∙ sym is
    by false is = none_at 0 n is ∙ sym is
