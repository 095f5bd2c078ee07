-- Sums of natural numbers, and of whole numbers by key.
use Rattle.std.proofs.Common.{◌≡◌, ℕ, ◌+◌, ◌*◌, ◌<◌, ◌≤◌, List, [], ◌∷◌, map, sum_by, refl, sym, ap, subst, ⊎_elim, arith}
use Rattle.std.proofs.Math.IntN.{ℤ, pos, ◌+ℤ◌, ◌*ℤ◌}
use Rattle.std.specs.Prelude.{unsigned_abs, ◌≤ℤ◌}
use Rattle.std.specs.List.{flat_map, range_with_len, AllByRecursion}
use Rattle.std.proofs.lemmas.Bool.Decides.{eqb_tells}
use Rattle.std.proofs.lemmas.Int.{ints}
use Rattle.std.proofs.lemmas.List.Sums.{sum_by-cons, sum_by-append}
use Rattle.bp_theory.specs.Sums.{sum_of, sum_at}
use Rattle.bp_theory.specs.Program.{coefficient, reach}
use Rattle.bp_theory.specs.Blocking.{Copy}
use Rattle.bp_theory.specs.Bound.{end_cost, box_least}
use Rattle.bp_theory.specs.declared.Span.{Span}
use Rattle.bp_theory.specs.declared.Term.{Term}
use Rattle.bp_theory.proofs.Whole.{le-mul_pos}
use Rattle.bp_theory.proofs.SumLaws.{sum_of-le}
use Rattle.bp_theory.proofs.KeyLaws.{if_same, if_other, sum_of-by_key}
use Rattle.pricing_problem.specs.Form.{cost_size}

pub sum_by-same : {X : Type 0} (f g : X → ℕ) (xs : List X) → AllByRecursion (λ x. f x ≡ g x) xs → sum_by f xs ≡ sum_by g xs
sum_by-same f g [] h = refl
sum_by-same f g (x ∷ xs) h = omega (arith, sum_by-cons f x xs, sum_by-cons g x xs, h.0, sum_by-same f g xs h.1)

pub sum_by-smaller : {X : Type 0} (f g : X → ℕ) (xs : List X) → AllByRecursion (λ x. f x ≤ g x) xs → sum_by f xs ≤ sum_by g xs
sum_by-smaller f g [] h = omega arith
sum_by-smaller f g (x ∷ xs) h = omega (arith, sum_by-cons f x xs, sum_by-cons g x xs, h.0, sum_by-smaller f g xs h.1)

-- terms that are sums of two
pub sum_by-joined : {X : Type 0} (f g h : X → ℕ) (xs : List X) → ((x : X) → h x ≡ f x + g x) → sum_by h xs ≡ sum_by f xs + sum_by g xs
sum_by-joined f g h [] e = refl
sum_by-joined f g h (x ∷ xs) e = omega (arith, sum_by-cons f x xs, sum_by-cons g x xs, sum_by-cons h x xs, e x, sum_by-joined f g h xs e)

pub sum_by-zero : {X : Type 0} (f : X → ℕ) (xs : List X) → ((x : X) → f x ≡ 0) → sum_by f xs ≡ 0
sum_by-zero f [] e = refl
sum_by-zero f (x ∷ xs) e = omega (arith, sum_by-cons f x xs, e x, sum_by-zero f xs e)

-- a factor behind
pub sum_by-mul : {X : Type 0} (f : X → ℕ) (a : ℕ) (xs : List X) → sum_by f xs * a ≡ sum_by (λ x. f x * a) xs
sum_by-mul f a [] = omega arith
sum_by-mul f a (x ∷ xs) =
    omega (arith, ap (λ n. n * a) (sum_by-cons f x xs), sum_by-cons (λ y. f y * a) x xs, sum_by-mul f a xs)

pub sum_by-flat_map : {X Y : Type 0} (f : Y → ℕ) (g : X → List Y) (xs : List X) → sum_by f (flat_map g xs) ≡ sum_by (λ x. sum_by f (g x)) xs
sum_by-flat_map f g [] = refl
sum_by-flat_map f g (x ∷ xs) =
    omega (arith, sum_by-append f (g x) (flat_map g xs), sum_by-cons (λ x'. sum_by f (g x')) x xs, sum_by-flat_map f g xs)

-- a sum of products of natural numbers, as whole numbers
pub as_whole : {X : Type 0} (f g : X → ℕ) (xs : List X) → sum_of (λ x. pos (f x) *ℤ pos (g x)) xs ≡ pos (sum_by (λ x. f x * g x) xs)
as_whole f g [] = refl
as_whole f g (x ∷ xs) = omega (arith, ints, as_whole f g xs, sum_by-cons (λ y. f y * g y) x xs)

every : {X : Type 0} (P : X → Type 0) → ((x : X) → P x) → (xs : List X) → AllByRecursion P xs
every P h [] = tt
every P h (x ∷ xs) = (h x, every P h xs)

-- a coefficient's magnitude is at most the sum of those of its terms
pub coefficient_within : (terms : List Term) (v : ℕ)
    → pos (unsigned_abs (coefficient terms v)) ≤ℤ sum_at (λ (t : Term). t.var) (λ t. pos (unsigned_abs t.coef)) terms v
coefficient_within [] v = omega (arith, ints)
coefficient_within (t ∷ ts) v = ⊎_elim
    (λ same. omega (
      arith,
      ints,
      if_same t.var v t.coef (pos 0) same.1,
      if_same t.var v (pos (unsigned_abs t.coef)) (pos 0) same.1,
      coefficient_within ts v,
    ))
    (λ other. omega (
      arith,
      ints,
      if_other t.var v t.coef (pos 0) other.1,
      if_other t.var v (pos (unsigned_abs t.coef)) (pos 0) other.1,
      coefficient_within ts v,
    ))
    (eqb_tells t.var v)

-- copies whose magnitudes are no more than those of terms weigh no more than these
pub copies_below : (f : Copy → ℕ) (r : ℕ → ℕ) (n : ℕ) (cs : List Copy) (terms : List Term)
    → AllByRecursion (λ (c : Copy). c.var < n) cs → AllByRecursion (λ (t : Term). t.var < n) terms
    → ((v : ℕ) → sum_at (λ (c : Copy). c.var) (λ c. pos (f c)) cs v ≤ℤ sum_at (λ (t : Term). t.var) (λ t. pos (unsigned_abs t.coef)) terms v)
    → sum_by (λ c. f c * r c.var) cs ≤ sum_by (λ t. unsigned_abs t.coef * r t.var) terms
copies_below f r n cs terms known closed below =
    let left = sum_of-by_key (λ (c : Copy). c.var) (λ c. pos (f c)) (λ v. pos (r v)) n cs known in
    let right = sum_of-by_key (λ (t : Term). t.var) (λ t. pos (unsigned_abs t.coef)) (λ v. pos (r v)) n terms closed in
    let less = sum_of-le
    (λ v. sum_at (λ (c : Copy). c.var) (λ c. pos (f c)) cs v *ℤ pos (r v))
    (λ v. sum_at (λ (t : Term). t.var) (λ t. pos (unsigned_abs t.coef)) terms v *ℤ pos (r v))
    (range_with_len 0 n)
    (every (λ v. (sum_at (λ (c : Copy). c.var) (λ c. pos (f c)) cs v *ℤ pos (r v)) ≤ℤ (sum_at (λ (t : Term). t.var) (λ t. pos (unsigned_abs t.coef)) terms v *ℤ pos (r v)))
    (λ v. scaled _ _ (r v) (below v))
    (range_with_len 0 n)) in
    omega (
      arith,
      ints,
      left,
      right,
      less,
      as_whole f (λ (c : Copy). r c.var) cs,
      as_whole (λ (t : Term). unsigned_abs t.coef) (λ (t : Term). r t.var) terms,
    )
  where
    scaled : (a b : ℤ) (n : ℕ) → a ≤ℤ b → (a *ℤ pos n) ≤ℤ (b *ℤ pos n)
    scaled a b n h = omega (arith, ints, le-mul_pos n a b h)

-- copies whose magnitudes are a row's coefficients weigh no more than its terms
pub copies_within : (f : Copy → ℕ) (r : ℕ → ℕ) (n : ℕ) (cs : List Copy) (terms : List Term)
    → AllByRecursion (λ (c : Copy). c.var < n) cs → AllByRecursion (λ (t : Term). t.var < n) terms
    → ((v : ℕ) → sum_at (λ (c : Copy). c.var) (λ c. pos (f c)) cs v ≡ pos (unsigned_abs (coefficient terms v)))
    → sum_by (λ c. f c * r c.var) cs ≤ sum_by (λ t. unsigned_abs t.coef * r t.var) terms
copies_within f r n cs terms known closed same =
    copies_below f r n cs terms known closed
    (λ v. subst (λ z. z ≤ℤ sum_at (λ (t : Term). t.var) (λ t. pos (unsigned_abs t.coef)) terms v) (sym (same v)) (coefficient_within terms v))

-- ---- boxes of two functions of one list

pub box_least-maps : {X : Type 0} (f : X → Span) (g : X → ℤ) (xs : List X) → sum_of (λ x. end_cost (f x) (g x)) xs ≡ box_least (map f xs) (map g xs)
box_least-maps f g [] = refl
box_least-maps f g (x ∷ xs) = ap (λ z. end_cost (f x) (g x) +ℤ z) (box_least-maps f g xs)

pub cost_size-maps : {X : Type 0} (f : X → Span) (g : X → ℤ) (xs : List X) → sum_by (λ x. unsigned_abs (g x) * reach (f x)) xs ≡ cost_size (map f xs) (map g xs)
cost_size-maps f g [] = refl
cost_size-maps f g (x ∷ xs) = omega (arith, sum_by-cons (λ y. unsigned_abs (g y) * reach (f y)) x xs, cost_size-maps f g xs)
