-- Multipliers in the order of rows: where a row's pair stands, and what is changed there.
use Rattle.std.proofs.Common.{◌≡◌, ℕ, zero, suc, ◌+◌, ◌≤◌, ◌<◌, Bool, true, false, List, [], ◌∷◌, ◌++◌, take, map, length, get_or, set, to_z, of_z, ℤ, pos, refl, sym, ap, ◌∙◌, subst, ⊎_elim, arith, nat_lt, if◌then◌else◌}
use Rattle.std.specs.List.{insert, remove}
use Rattle.std.specs.List.Sorted.{IsStrictlyIncreasing}
use Rattle.std.specs.Ordering.{int_eq}
use Rattle.std.specs.Int.{w64}
use Rattle.std.proofs.lemmas.Int.{ints}
use Rattle.std.specs.Cmp.{signed_Decides}
use Rattle.std.proofs.lemmas.List.{take_more}
use Rattle.std.proofs.lemmas.Bool.{lt-ltb, le-ltb, eq-eqb, ne_eqb, ltb-true, ltb-false, cases_eq, cases_order}
use Rattle.cert_format.specs.Cert.{multiplier, with_pair, put, changed}
use Rattle.cert_format.specs.Ascending.{rows_of, lower, StandsAt}
use Rattle.cert_format.specs.Written.{written_pair}
use Rattle.cert_format.proofs.Changes.{AscendAbove, put-up, multiplier-below}

-- numbers rise from one on
abbrev pub Rises : ℕ → List ℕ → Type 0
Rises last [] = Unit {0}
Rises last (k ∷ ks) = (last ≤ k) × Rises (k + 1) ks

pub rises_increasing : (last : ℕ) (ks : List ℕ) → Rises last ks → IsStrictlyIncreasing ks
rises_increasing last [] h k l = absurd (let none : ⊥ = omega arith in none)
rises_increasing last (x ∷ []) h k l = absurd (let none : ⊥ = omega arith in none)
rises_increasing last (x ∷ y ∷ ks) h zero l = let next : x + 1 ≤ y = h.1.0 in omega arith
rises_increasing last (x ∷ y ∷ ks) h (suc k) l =
    let e : suc k + 1 ≡ suc (k + 1) = omega arith in
    subst (λ n. get_or (y ∷ ks) k 0 < get_or (x ∷ y ∷ ks) n 0) (sym e) (rises_increasing (x + 1) (y ∷ ks) h.1 k (omega (arith, l)))

increasing_tail : (x : ℕ) (ks : List ℕ) → IsStrictlyIncreasing (x ∷ ks) → IsStrictlyIncreasing ks
increasing_tail x ks up k l =
    let e : suc k + 1 ≡ suc (k + 1) = omega arith in
    subst (λ n. get_or ks k 0 < get_or (x ∷ ks) n 0) e (up (suc k) (omega (arith, l)))

increasing_rises : (last : ℕ) (ks : List ℕ) → last ≤ get_or ks 0 last → IsStrictlyIncreasing ks → Rises last ks
increasing_rises last [] low up = tt
increasing_rises last (x ∷ []) low up = (low, tt)
increasing_rises last (x ∷ y ∷ ks) low up =
    let next : x < y = up 0 (omega arith) in
    (low, increasing_rises (x + 1) (y ∷ ks) (omega arith) (increasing_tail x (y ∷ ks) up))

pub rises_from : (ks : List ℕ) → IsStrictlyIncreasing ks → Rises 0 ks
rises_from ks up = increasing_rises 0 ks (omega arith) up

-- ---- the search

rises_low : (last : ℕ) (ps : List (ℕ × ℤ)) (k : ℕ) (d : ℕ × ℤ) → Rises last (rows_of ps) → k < length ps → last ≤ (get_or ps k d).0
rises_low last [] k d up less = absurd (omega arith)
rises_low last (p ∷ ps) zero d up less = up.0
rises_low last (p ∷ ps) (suc k) d up less =
    let low : last ≤ p.0 = up.0 in
    let rest : p.0 + 1 ≤ (get_or ps k d).0 = rises_low (p.0 + 1) ps k d up.1 (omega arith) in
    omega arith

pub rises_at : (last : ℕ) (ps : List (ℕ × ℤ)) (i j : ℕ) (d : ℕ × ℤ) → Rises last (rows_of ps) → i ≤ j → j < length ps → (get_or ps i d).0 ≤ (get_or ps j d).0
rises_at last [] i j d up le less = absurd (omega arith)
rises_at last (p ∷ ps) zero zero d up le less = omega arith
rises_at last (p ∷ ps) (suc i) zero d up le less = absurd (omega arith)
rises_at last (p ∷ ps) zero (suc j) d up le less = let rest : p.0 + 1 ≤ (get_or ps j d).0 = rises_low (p.0 + 1) ps j d up.1 (omega arith) in omega arith
rises_at last (p ∷ ps) (suc i) (suc j) d up le less = rises_at (p.0 + 1) ps i j d up.1 (omega arith) (omega arith)

pub lower_is : (row : ℕ) (ps : List (ℕ × ℤ)) (i : ℕ) → i ≤ length ps → ((k : ℕ) (d : ℕ × ℤ) → k < i → (get_or ps k d).0 < row)
    → ((k : ℕ) (d : ℕ × ℤ) → i ≤ k → k < length ps → row ≤ (get_or ps k d).0) → lower row ps ≡ i
lower_is row [] zero within below above = refl
lower_is row [] (suc i) within below above = absurd (omega arith)
lower_is row (p ∷ ps) zero within below above = rw (le-ltb p.0 row (above 0 p (omega arith) (omega arith))) refl
lower_is row (p ∷ ps) (suc i) within below above =
    rw (lt-ltb p.0 row (below 0 p (omega arith))) (ap (λ (n : ℕ). suc n) (lower_is row ps i (omega arith) (λ k d l. below (suc k) d (omega arith)) (λ k d l m. above (suc k) d (omega arith) (omega arith))))

-- ---- a row's pair stands at a place

-- what is read at a place
pub get_same : (ps : List (ℕ × ℤ)) (k : ℕ) (d e : ℕ × ℤ) → k < length ps → get_or ps k d ≡ get_or ps k e
get_same [] k d e less = absurd (omega arith)
get_same (p ∷ ps) zero d e less = refl
get_same (p ∷ ps) (suc k) d e less = get_same ps k d e (omega arith)

pub got : (row : ℕ) (ps : List (ℕ × ℤ)) → StandsAt row ps (lower row ps) → multiplier ps row ≡ (get_or ps (lower row ps) (0, pos 0)).1
got row [] there = absurd (omega (arith, there.0))
got row (p ∷ ps) there = by (nat_lt p.0 row) refl (λ h. got row ps h) there where
  by : (t : Bool) → nat_lt p.0 row ≡ t → (StandsAt row ps (lower row ps) → multiplier ps row ≡ (get_or ps (lower row ps) (0, pos 0)).1)
      → StandsAt row (p ∷ ps) (if t then suc (lower row ps) else 0) → multiplier (p ∷ ps) row ≡ (get_or (p ∷ ps) (if t then suc (lower row ps) else 0) (0, pos 0)).1
  by true is rest there =
      let low : p.0 < row = ltb-true p.0 row is in
      let other : p.0 ≡ row → ⊥ = λ e. omega arith in
      rw (ne_eqb p.0 row other) (rest (omega (arith, there.0), there.1))
  by false is rest there = rw (eq-eqb p.0 row there.1) refl

rises_above : (row : ℕ) (ps : List (ℕ × ℤ)) → Rises (row + 1) (rows_of ps) → AscendAbove row ps
rises_above row [] up = tt
rises_above row (p ∷ ps) up = (let low : row + 1 ≤ p.0 = up.0 in omega arith, rises_above p.0 ps up.1)

pub got_none : (last row : ℕ) (ps : List (ℕ × ℤ)) → Rises last (rows_of ps) → (StandsAt row ps (lower row ps) → ⊥) → multiplier ps row ≡ pos 0
got_none last row [] up none = refl
got_none last row (p ∷ ps) up none = by (nat_lt p.0 row) refl (λ h. got_none (p.0 + 1) row ps up.1 h) none where
  by : (t : Bool) → nat_lt p.0 row ≡ t → ((StandsAt row ps (lower row ps) → ⊥) → multiplier ps row ≡ pos 0)
      → (StandsAt row (p ∷ ps) (if t then suc (lower row ps) else 0) → ⊥) → multiplier (p ∷ ps) row ≡ pos 0
  by true is rest none =
      let low : p.0 < row = ltb-true p.0 row is in
      let other : p.0 ≡ row → ⊥ = λ e. omega arith in
      rw (ne_eqb p.0 row other) (rest (λ there. none (omega (arith, there.0), there.1)))
  by false is rest none =
      let low : row ≤ p.0 = ltb-false p.0 row is in
      let other : p.0 ≡ row → ⊥ = λ e. none (omega arith, e) in
      let high : row < p.0 = omega arith in
      multiplier-below row (p ∷ ps) (high, rises_above p.0 ps up.1)

-- ---- what is changed there

pub put_removed : (row : ℕ) (p : ℤ) (ps : List (ℕ × ℤ)) → int_eq p (pos 0) ≡ true → StandsAt row ps (lower row ps) → put row p ps ≡ remove ps (lower row ps)
put_removed row p [] zero_is there = absurd (omega (arith, there.0))
put_removed row p (q ∷ ps) zero_is there = by (nat_lt q.0 row) refl (λ h. put_removed row p ps zero_is h) there where
  by : (t : Bool) → nat_lt q.0 row ≡ t → (StandsAt row ps (lower row ps) → put row p ps ≡ remove ps (lower row ps))
      → StandsAt row (q ∷ ps) (if t then suc (lower row ps) else 0) → put row p (q ∷ ps) ≡ remove (q ∷ ps) (if t then suc (lower row ps) else 0)
  by true is rest there = rw is (ap (λ (xs : List (ℕ × ℤ)). q ∷ xs) (rest (omega (arith, there.0), there.1)))
  by false is rest there = rw (is, eq-eqb q.0 row there.1, zero_is) refl

pub put_set : (row : ℕ) (p : ℤ) (ps : List (ℕ × ℤ)) → int_eq p (pos 0) ≡ false → StandsAt row ps (lower row ps) → put row p ps ≡ set ps (lower row ps) (row, p)
put_set row p [] some there = absurd (omega (arith, there.0))
put_set row p (q ∷ ps) some there = by (nat_lt q.0 row) refl (λ h. put_set row p ps some h) there where
  by : (t : Bool) → nat_lt q.0 row ≡ t → (StandsAt row ps (lower row ps) → put row p ps ≡ set ps (lower row ps) (row, p))
      → StandsAt row (q ∷ ps) (if t then suc (lower row ps) else 0) → put row p (q ∷ ps) ≡ set (q ∷ ps) (if t then suc (lower row ps) else 0) (row, p)
  by true is rest there = rw is (ap (λ (xs : List (ℕ × ℤ)). q ∷ xs) (rest (omega (arith, there.0), there.1)))
  by false is rest there = rw (is, eq-eqb q.0 row there.1, some) refl

pub put_none : (row : ℕ) (p : ℤ) (ps : List (ℕ × ℤ)) → int_eq p (pos 0) ≡ true → (StandsAt row ps (lower row ps) → ⊥) → put row p ps ≡ ps
put_none row p [] zero_is none = rw zero_is refl
put_none row p (q ∷ ps) zero_is none = by (nat_lt q.0 row) refl (λ h. put_none row p ps zero_is h) none where
  by : (t : Bool) → nat_lt q.0 row ≡ t → ((StandsAt row ps (lower row ps) → ⊥) → put row p ps ≡ ps)
      → (StandsAt row (q ∷ ps) (if t then suc (lower row ps) else 0) → ⊥) → put row p (q ∷ ps) ≡ q ∷ ps
  by true is rest none = rw is (ap (λ (xs : List (ℕ × ℤ)). q ∷ xs) (rest (λ there. none (omega (arith, there.0), there.1))))
  by false is rest none =
      let other : q.0 ≡ row → ⊥ = λ e. none (omega arith, e) in
      rw (is, ne_eqb q.0 row other, zero_is) refl

pub put_inserted : (row : ℕ) (p : ℤ) (ps : List (ℕ × ℤ)) → int_eq p (pos 0) ≡ false → (StandsAt row ps (lower row ps) → ⊥) → put row p ps ≡ insert ps (lower row ps) (row, p)
put_inserted row p [] some none = rw some refl
put_inserted row p (q ∷ ps) some none = by (nat_lt q.0 row) refl (λ h. put_inserted row p ps some h) none where
  by : (t : Bool) → nat_lt q.0 row ≡ t → ((StandsAt row ps (lower row ps) → ⊥) → put row p ps ≡ insert ps (lower row ps) (row, p))
      → (StandsAt row (q ∷ ps) (if t then suc (lower row ps) else 0) → ⊥) → put row p (q ∷ ps) ≡ insert (q ∷ ps) (if t then suc (lower row ps) else 0) (row, p)
  by true is rest none = rw is (ap (λ (xs : List (ℕ × ℤ)). q ∷ xs) (rest (λ there. none (omega (arith, there.0), there.1))))
  by false is rest none =
      let other : q.0 ≡ row → ⊥ = λ e. none (omega arith, e) in
      rw (is, ne_eqb q.0 row other, some) refl

-- ---- the same by the numbers of texts

pub multiplier-written : (row : ℕ) (ps : List (ℕ × ℤ)) → multiplier (map written_pair ps) (row + 1) ≡ multiplier ps row
multiplier-written row [] = refl
multiplier-written row (p ∷ ps) = ⊎_elim
    (λ e. let same : p.0 ≡ row = e in let also : p.0 + 1 ≡ row + 1 = omega arith in rw (eq-eqb p.0 row same, eq-eqb (p.0 + 1) (row + 1) also) refl)
    (λ other. let apart : p.0 ≡ row → ⊥ = other in let far : p.0 + 1 ≡ row + 1 → ⊥ = λ e. apart (omega arith) in rw (ne_eqb p.0 row apart, ne_eqb (p.0 + 1) (row + 1) far) (multiplier-written row ps))
    (cases_eq p.0 row)

with_pair-written : (row : ℕ) (p : ℤ) (ps : List (ℕ × ℤ)) → map written_pair (with_pair row p ps) ≡ with_pair (row + 1) p (map written_pair ps)
with_pair-written row p ps = by (int_eq p (pos 0)) where
  by : (t : Bool) → map written_pair (if◌then◌else◌ {A = List (ℕ × ℤ)} t ps ((row, p) ∷ ps)) ≡ if◌then◌else◌ {A = List (ℕ × ℤ)} t (map written_pair ps) ((row + 1, p) ∷ map written_pair ps)
  by true = refl
  by false = refl

put_equal : (row : ℕ) (p : ℤ) (q : ℕ × ℤ) (ps : List (ℕ × ℤ)) → q.0 ≡ row → map written_pair (put row p (q ∷ ps)) ≡ put (row + 1) p (map written_pair (q ∷ ps))
put_equal row p q ps same =
    let low : row ≤ q.0 = omega arith in
    let low' : row + 1 ≤ q.0 + 1 = omega arith in
    let also : q.0 + 1 ≡ row + 1 = omega arith in
    rw (le-ltb q.0 row low, eq-eqb q.0 row same, le-ltb (q.0 + 1) (row + 1) low', eq-eqb (q.0 + 1) (row + 1) also) (with_pair-written row p ps)

put_below : (row : ℕ) (p : ℤ) (q : ℕ × ℤ) (ps : List (ℕ × ℤ)) → q.0 < row → map written_pair (put row p ps) ≡ put (row + 1) p (map written_pair ps) → map written_pair (put row p (q ∷ ps)) ≡ put (row + 1) p (map written_pair (q ∷ ps))
put_below row p q ps less rest =
    let more : q.0 + 1 < row + 1 = omega arith in
    rw (lt-ltb q.0 row less, lt-ltb (q.0 + 1) (row + 1) more) (ap (λ (xs : List (ℕ × ℤ)). written_pair q ∷ xs) rest)

put_before : (row : ℕ) (p : ℤ) (q : ℕ × ℤ) (ps : List (ℕ × ℤ)) → row < q.0 → map written_pair (put row p (q ∷ ps)) ≡ put (row + 1) p (map written_pair (q ∷ ps))
put_before row p q ps more =
    let low : row ≤ q.0 = omega arith in
    let low' : row + 1 ≤ q.0 + 1 = omega arith in
    let other : q.0 ≡ row → ⊥ = λ e. omega arith in
    let far : q.0 + 1 ≡ row + 1 → ⊥ = λ e. omega arith in
    rw (le-ltb q.0 row low, ne_eqb q.0 row other, le-ltb (q.0 + 1) (row + 1) low', ne_eqb (q.0 + 1) (row + 1) far) (with_pair-written row p (q ∷ ps))

pub put-written : (row : ℕ) (p : ℤ) (ps : List (ℕ × ℤ)) → map written_pair (put row p ps) ≡ put (row + 1) p (map written_pair ps)
put-written row p [] = with_pair-written row p []
put-written row p (q ∷ ps) = ⊎_elim
    (λ same. put_equal row p q ps same)
    (λ apart. ⊎_elim (λ less. put_below row p q ps less (put-written row p ps)) (λ more. put_before row p q ps more) apart)
    (cases_order q.0 row)

pub changed-written : (ps qs : List (ℕ × ℤ)) → map written_pair (changed ps qs) ≡ changed (map written_pair ps) (map written_pair qs)
changed-written ps [] = refl
changed-written ps (q ∷ qs) = changed-written (put q.0 q.1 ps) qs ∙ ap (λ (xs : List (ℕ × ℤ)). changed xs (map written_pair qs)) (put-written q.0 q.1 ps)

-- ---- the order stays

written_above : (last : ℕ) (ps : List (ℕ × ℤ)) → Rises last (rows_of ps) → AscendAbove last (map written_pair ps)
written_above last [] up = tt
written_above last (p ∷ ps) up = (let low : last ≤ p.0 = up.0 in omega arith, written_above (p.0 + 1) ps up.1)

pub above_rises : (last : ℕ) (ps : List (ℕ × ℤ)) → AscendAbove last (map written_pair ps) → Rises last (rows_of ps)
above_rises last [] up = tt
above_rises last (p ∷ ps) up = (let low : last < p.0 + 1 = up.0 in omega arith, above_rises (p.0 + 1) ps up.1)

pub put_increasing : (row : ℕ) (p : ℤ) (ps : List (ℕ × ℤ)) → IsStrictlyIncreasing (rows_of ps) → IsStrictlyIncreasing (rows_of (put row p ps))
put_increasing row p ps up =
    let before = written_above 0 ps (rises_from (rows_of ps) up) in
    let A : List (ℕ × ℤ) → Type 0 = AscendAbove 0 in
    rises_increasing 0 (rows_of (put row p ps)) (above_rises 0 (put row p ps) (subst A (sym (put-written row p ps)) (put-up 0 (row + 1) p (map written_pair ps) (omega arith) before)))

-- the list behind an edit ascends
pub edited_increasing : (row : ℕ) (p : ℤ) (ps qs : List (ℕ × ℤ)) → put row p ps ≡ qs → IsStrictlyIncreasing (rows_of ps) → IsStrictlyIncreasing (rows_of qs)
edited_increasing row p ps qs is up = let P : List (ℕ × ℤ) → Type 0 = λ xs. IsStrictlyIncreasing (rows_of xs) in subst P is (put_increasing row p ps up)

-- ---- edits by what they leave

zero_true : (p : ℤ) → p ≡ pos 0 → int_eq p (pos 0) ≡ true
zero_true p is = (signed_Decides p (pos 0)).1 is

pub some_false : (p : ℤ) → (p ≡ pos 0 → ⊥) → int_eq p (pos 0) ≡ false
some_false p some = by (int_eq p (pos 0)) refl where
  by : (t : Bool) → int_eq p (pos 0) ≡ t → t ≡ false
  by true is = absurd (some ((signed_Decides p (pos 0)).0 is))
  by false is = refl

pub removes : (row : ℕ) (p : ℤ) (ps new : List (ℕ × ℤ)) (at : ℕ) → at ≡ lower row ps → StandsAt row ps at → p ≡ pos 0 → new ≡ remove ps at → put row p ps ≡ new
removes row p ps new at place there is edit =
    let S : ℕ → Type 0 = StandsAt row ps in
    put_removed row p ps (zero_true p is) (subst S place there) ∙ ap (λ (n : ℕ). remove ps n) (sym place) ∙ sym edit

pub sets : (row : ℕ) (p : ℤ) (ps new : List (ℕ × ℤ)) (at : ℕ) → at ≡ lower row ps → StandsAt row ps at → (p ≡ pos 0 → ⊥) → new ≡ set ps at (row, p) → put row p ps ≡ new
sets row p ps new at place there some edit =
    let S : ℕ → Type 0 = StandsAt row ps in
    put_set row p ps (some_false p some) (subst S place there) ∙ ap (λ (n : ℕ). set ps n (row, p)) (sym place) ∙ sym edit

pub leaves : (row : ℕ) (p : ℤ) (ps : List (ℕ × ℤ)) (at : ℕ) → at ≡ lower row ps → (StandsAt row ps at → ⊥) → p ≡ pos 0 → put row p ps ≡ ps
leaves row p ps at place none is =
    let S : ℕ → Type 0 = λ n. StandsAt row ps n → ⊥ in
    put_none row p ps (zero_true p is) (subst S place none)

pub inserts : (row : ℕ) (p : ℤ) (ps new : List (ℕ × ℤ)) (at : ℕ) → at ≡ lower row ps → (StandsAt row ps at → ⊥) → (p ≡ pos 0 → ⊥) → new ≡ insert ps at (row, p) → put row p ps ≡ new
inserts row p ps new at place none some edit =
    let S : ℕ → Type 0 = λ n. StandsAt row ps n → ⊥ in
    put_inserted row p ps (some_false p some) (subst S place none) ∙ ap (λ (n : ℕ). insert ps n (row, p)) (sym place) ∙ sym edit

-- an insertion that may fail
pub insert_increasing : (t : Bool) (row : ℕ) (p : ℤ) (ps new : List (ℕ × ℤ)) (at : ℕ) → at ≡ lower row ps → (StandsAt row ps at → ⊥) → (p ≡ pos 0 → ⊥)
    → new ≡ if◌then◌else◌ {A = List (ℕ × ℤ)} t (insert ps at (row, p)) ps → IsStrictlyIncreasing (rows_of ps) → IsStrictlyIncreasing (rows_of new)
insert_increasing true row p ps new at place none some edit up = edited_increasing row p ps new (inserts row p ps new at place none some edit) up
insert_increasing false row p ps new at place none some edit up = let P : List (ℕ × ℤ) → Type 0 = λ xs. IsStrictlyIncreasing (rows_of xs) in subst P (sym edit) up

-- one change more
changed-append : (had ps qs : List (ℕ × ℤ)) → changed had (ps ++ qs) ≡ changed (changed had ps) qs
changed-append had [] qs = refl
changed-append had (p ∷ ps) qs = changed-append (put p.0 p.1 had) ps qs

pub changed_more : (had ps : List (ℕ × ℤ)) (i : ℕ) (d : ℕ × ℤ) → i < length ps → changed had (take (i + 1) ps) ≡ put (get_or ps i d).0 (get_or ps i d).1 (changed had (take i ps))
changed_more had ps i d less = ap (λ (xs : List (ℕ × ℤ)). changed had xs) (take_more ps i d less) ∙ changed-append had (take i ps) (get_or ps i d ∷ [])

-- ---- 0 as a program has it

pub zero_is : (z : ℤ) → to_z w64 (of_z w64 z) ≡ z → of_z w64 z ≡ 0 → z ≡ pos 0
zero_is z coded is =
    let base : to_z w64 0 ≡ pos 0 = omega (arith, ints) in
    sym coded ∙ ap (λ (n : ℕ). to_z w64 n) is ∙ base

pub zero_code : (z : ℤ) → z ≡ pos 0 → of_z w64 z ≡ 0
zero_code z is =
    let base : of_z w64 (pos 0) ≡ 0 = omega (arith, ints) in
    ap (λ (y : ℤ). of_z w64 y) is ∙ base
