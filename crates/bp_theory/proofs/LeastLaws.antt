-- A least value over the points of a box that meet rows: there is one, or there is no point.
use Rattle.std.proofs.Common.{◌≡◌, refl, sym, subst, ℕ, zero, suc, ◌<◌, List, [], ◌∷◌, arith, inl, inr, ⊎_elim}
use Rattle.std.proofs.Math.IntN.{ℤ, pos, negsuc, ◌+ℤ◌, ◌-ℤ◌}
use Rattle.std.specs.Prelude.{◌≤ℤ◌, ◌⊎◌}
use Rattle.std.specs.List.{AllByRecursion}
use Rattle.std.proofs.lemmas.Bool.{cases_lt}
use Rattle.std.proofs.lemmas.Int.{ints, by_lt_z}
use Rattle.std.proofs.lemmas.List.Elements.{recursion_from_All, All-from_recursion}
use Rattle.bp_theory.specs.Sums.{dot}
use Rattle.bp_theory.specs.Program.{IsWithin, IsInside, Meets, MeetsRow, activity}
use Rattle.bp_theory.specs.Bound.{IsPoint, IsLeast}
use Rattle.bp_theory.specs.declared.Span.{Span}
use Rattle.bp_theory.specs.declared.Sense.{Sense}
use Rattle.bp_theory.specs.declared.Sense.TheVariants.{Le, Ge, Eq, In}
use Rattle.bp_theory.specs.declared.Row.{Row}

-- a fact that holds or fails
abbrev pub Decided : Type 0 → Type 0
Decided P = P ⊎ (P → ⊥)

pub le_decided : (a b : ℤ) → Decided (a ≤ℤ b)
le_decided a b = by_lt_z b a (λ less. inr (λ h. omega (arith, ints))) (λ more. inl more)

pub both_decided : {P Q : Type 0} → Decided P → Decided Q → Decided (P × Q)
both_decided (inl p) (inl q) = inl (p, q)
both_decided (inl p) (inr n) = inr (λ h. n h.1)
both_decided (inr n) q = inr (λ h. n h.0)

pub Meets_decided : (s : Sense) (low rhs sum : ℤ) → Decided (Meets s low rhs sum)
Meets_decided Le low rhs sum = le_decided sum rhs
Meets_decided Ge low rhs sum = le_decided low sum
Meets_decided Eq low rhs sum = both_decided (le_decided low sum) (le_decided sum rhs)
Meets_decided In low rhs sum = both_decided (le_decided low sum) (le_decided sum rhs)

-- whether a point meets each row
pub rows_decided : (y : List ℤ) (rows : List Row) → Decided (AllByRecursion (MeetsRow y) rows)
rows_decided y [] = inl tt
rows_decided y (row ∷ rows) = both_decided (Meets_decided row.sense row.low row.rhs (activity row.terms y)) (rows_decided y rows)

-- no number of these places from lo on has a point, or some has one of least value
abbrev pub NoneFrom : ℤ → (ℤ → List ℤ → Type 0) → ℕ → Type 0
NoneFrom lo P n = (k : ℕ) → k < n → (ys : List ℤ) → P (lo +ℤ pos k) ys → ⊥

pub record LeastFrom (lo : ℤ) (P : ℤ → List ℤ → Type 0) (f : ℤ → List ℤ → ℤ) (n : ℕ) : Type 0 where
  pub place : ℕ
  pub there : place < n
  pub rest : List ℤ
  pub is_point : P (lo +ℤ pos place) rest
  pub least : (k : ℕ) → k < n → (ys : List ℤ) → P (lo +ℤ pos k) ys → f (lo +ℤ pos place) rest ≤ℤ f (lo +ℤ pos k) ys

-- a first number's best is none, or a least one
abbrev pub BestAt : (ℤ → List ℤ → Type 0) → (ℤ → List ℤ → ℤ) → ℤ → Type 0
BestAt P f v = ((ys : List ℤ) → P v ys → ⊥) ⊎ ((y : List ℤ) × P v y × ((ys : List ℤ) → P v ys → f v y ≤ℤ f v ys))

pub best_from : (lo : ℤ) (P : ℤ → List ℤ → Type 0) (f : ℤ → List ℤ → ℤ) → ((v : ℤ) → BestAt P f v) → (n : ℕ)
    → NoneFrom lo P n ⊎ LeastFrom lo P f n
best_from lo P f best zero = inl (λ k l ys h. omega arith)
best_from lo P f best (suc n) = add (best_from lo P f best n) (best (lo +ℤ pos n))
  where
    last : (k : ℕ) → k < suc n → (k < n) ⊎ (k ≡ n)
    last k l = ⊎_elim (λ a. inl a) (λ b. inr (omega arith)) (cases_lt k n)

    add : NoneFrom lo P n ⊎ LeastFrom lo P f n → BestAt P f (lo +ℤ pos n) → NoneFrom lo P (suc n) ⊎ LeastFrom lo P f (suc n)
    add (inl none) (inl lacks) = inl (λ k l ys h. ⊎_elim (λ a. none k a ys h) (λ e. lacks ys (subst (λ m. P (lo +ℤ pos m) ys) e h)) (last k l))
    add (inl none) (inr one) = inr (record {
      place = n;
      there = omega arith;
      rest = one.0;
      is_point = one.1;
      least = λ k l ys h. ⊎_elim
          (λ a. absurd (none k a ys h))
          (λ e. subst (λ m. f (lo +ℤ pos n) one.0 ≤ℤ f (lo +ℤ pos m) ys) (sym e) (one.2 ys (subst (λ m. P (lo +ℤ pos m) ys) e h)))
          (last k l);
    })
    add (inr first) (inl lacks) = inr (record {
      place = first.place;
      there = omega (arith, first.there);
      rest = first.rest;
      is_point = first.is_point;
      least = λ k l ys h. ⊎_elim
          (λ a. first.least k a ys h)
          (λ e. absurd (lacks ys (subst (λ m. P (lo +ℤ pos m) ys) e h)))
          (last k l);
    })
    add (inr first) (inr one) = by_lt_z (f (lo +ℤ pos n) one.0) (f (lo +ℤ pos first.place) first.rest)
        (λ less. inr (record {
          place = n;
          there = omega arith;
          rest = one.0;
          is_point = one.1;
          least = λ k l ys h. ⊎_elim
              (λ a. let old = first.least k a ys h in omega (arith, ints, less, old))
              (λ e. subst (λ m. f (lo +ℤ pos n) one.0 ≤ℤ f (lo +ℤ pos m) ys) (sym e) (one.2 ys (subst (λ m. P (lo +ℤ pos m) ys) e h)))
              (last k l);
        }))
        (λ more. inr (record {
          place = first.place;
          there = omega (arith, first.there);
          rest = first.rest;
          is_point = first.is_point;
          least = λ k l ys h. ⊎_elim
              (λ a. first.least k a ys h)
              (λ e. let new = one.2 ys (subst (λ m. P (lo +ℤ pos m) ys) e h) in
              subst (λ m. f (lo +ℤ pos first.place) first.rest ≤ℤ f (lo +ℤ pos m) ys) (sym e) (omega (arith, ints, more, new)))
              (last k l);
        }))

-- a number of a span, counted from its lower end
pub counted : (s : Span) (v : ℤ) → IsWithin s v → (k : ℕ) × (v ≡ s.lo +ℤ pos k)
counted s v h = by (v -ℤ s.lo) refl
  where
    by : (d : ℤ) → v -ℤ s.lo ≡ d → (k : ℕ) × (v ≡ s.lo +ℤ pos k)
    by (pos k) e = (k, omega (arith, ints))
    by (negsuc k) e = absurd (omega (arith, ints, e, h.above))

-- whether a box has a point of a fact that is decided, and then one of least value
abbrev pub BestInside : List Span → (List ℤ → Type 0) → (List ℤ → ℤ) → Type 0
BestInside spans P f =
    ((y : List ℤ) → IsInside spans y → P y → ⊥)
    ⊎ ((y : List ℤ) × IsInside spans y × P y × ((z : List ℤ) → IsInside spans z → P z → f y ≤ℤ f z))

-- from the boxes of the other spans to the box of all
pub best_extended : (s : Span) (ss : List Span) (P : List ℤ → Type 0) (f : List ℤ → ℤ)
    → ((v : ℤ) → BestInside ss (λ ys. P (v ∷ ys)) (λ ys. f (v ∷ ys))) → BestInside (s ∷ ss) P f
best_extended s ss P f inner = by (s.hi -ℤ s.lo) refl
  where
    best : (v : ℤ) → BestAt (λ w ys. IsInside ss ys × P (w ∷ ys)) (λ w ys. f (w ∷ ys)) v
    best v = ⊎_elim
        (λ none. inl (λ ys h. none ys h.0 h.1))
        (λ found. inr (found.0, (found.1, found.2), λ ys h. found.3 ys h.0 h.1))
        (inner v)

    empty : (m : ℕ) → s.hi -ℤ s.lo ≡ negsuc m → (y : List ℤ) → IsInside (s ∷ ss) y → P y → ⊥
    empty m e [] inside h = absurd inside
    empty m e (v ∷ ys) inside h = omega (arith, ints, e, inside.0.above, inside.0.below)

    nowhere : (m : ℕ) → s.hi -ℤ s.lo ≡ pos m → NoneFrom s.lo (λ w ys. IsInside ss ys × P (w ∷ ys)) (suc m)
        → (y : List ℤ) → IsInside (s ∷ ss) y → P y → ⊥
    nowhere m e none [] inside h = absurd inside
    nowhere m e none (v ∷ ys) inside h =
        let c = counted s v inside.0 in
        none c.0 (omega (arith, ints, e, c.1, inside.0.below)) ys (subst (λ w. IsInside ss ys × P (w ∷ ys)) c.1 (inside.1, h))

    lower : (m : ℕ) → s.hi -ℤ s.lo ≡ pos m → (first : LeastFrom s.lo (λ w ys. IsInside ss ys × P (w ∷ ys)) (λ w ys. f (w ∷ ys)) (suc m))
        → (z : List ℤ) → IsInside (s ∷ ss) z → P z → f ((s.lo +ℤ pos first.place) ∷ first.rest) ≤ℤ f z
    lower m e first [] inside h = absurd inside
    lower m e first (v ∷ ys) inside h =
        let c = counted s v inside.0 in
        subst (λ w. f ((s.lo +ℤ pos first.place) ∷ first.rest) ≤ℤ f (w ∷ ys)) (sym c.1)
        (first.least c.0 (omega (arith, ints, e, c.1, inside.0.below)) ys
        (subst (λ w. IsInside ss ys × P (w ∷ ys)) c.1 (inside.1, h)))

    by : (d : ℤ) → s.hi -ℤ s.lo ≡ d → BestInside (s ∷ ss) P f
    by (negsuc m) e = inl (empty m e)
    by (pos m) e = ⊎_elim
        (λ none. inl (nowhere m e none))
        (λ first. inr (
          (s.lo +ℤ pos first.place) ∷ first.rest,
          (record { above = omega (arith, ints); below = omega (arith, ints, e, first.there) }, first.is_point.0),
          first.is_point.1,
          lower m e first,
        ))
        (best_from s.lo (λ w ys. IsInside ss ys × P (w ∷ ys)) (λ w ys. f (w ∷ ys)) best (suc m))

pub best_inside : (spans : List Span) (P : List ℤ → Type 0) → ((y : List ℤ) → Decided (P y)) → (f : List ℤ → ℤ) → BestInside spans P f
best_inside [] P decided f = by (decided [])
  where
    only : (z : List ℤ) → IsInside [] z → P z → f [] ≤ℤ f z
    only [] inside h = omega (arith, ints)
    only (z ∷ zs) inside h = absurd inside

    none : (P [] → ⊥) → (z : List ℤ) → IsInside [] z → P z → ⊥
    none n [] inside h = n h
    none n (z ∷ zs) inside h = absurd inside

    by : Decided (P []) → BestInside [] P f
    by (inl h) = inr ([], tt, h, only)
    by (inr n) = inl (none n)
best_inside (s ∷ ss) P decided f =
    best_extended s ss P f (λ v. best_inside ss (λ ys. P (v ∷ ys)) (λ ys. decided (v ∷ ys)) (λ ys. f (v ∷ ys)))

-- over the points of rows within spans there is a least value, or there is no point
pub least_or_none : (rows : List Row) (spans : List Span) (costs : List ℤ)
    → ((y : List ℤ) → IsPoint rows spans y → ⊥) ⊎ ((v : ℤ) × IsLeast rows spans costs v)
least_or_none rows spans costs = ⊎_elim
    (λ none. inl (λ y h. none y h.inside (recursion_from_All (MeetsRow y) rows h.meets)))
    (λ found. inr (
      dot costs found.0,
      record {
        point = found.0;
        is_point = record { inside = found.1; meets = All-from_recursion (MeetsRow found.0) rows found.2 };
        reached = refl;
        least = λ y h. found.3 y h.inside (recursion_from_All (MeetsRow y) rows h.meets);
      },
    ))
    (best_inside spans (λ y. AllByRecursion (MeetsRow y) rows) (λ y. rows_decided y rows) (dot costs))
