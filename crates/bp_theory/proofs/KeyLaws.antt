-- Weighted sums depend only on the weights of each key.
use Rattle.std.proofs.Common.{◌≡◌, ◌≢◌, refl, sym, ap, subst, ◌∙◌, ℕ, zero, suc, ◌+◌, ◌<◌, ◌≤◌, List, [], ◌∷◌, arith, ⊎_elim}
use Rattle.std.proofs.Math.IntN.{ℤ, pos, ◌+ℤ◌, ◌*ℤ◌, zero-*ℤ}
use Rattle.std.specs.Prelude.{◌==◌, if◌then◌else◌}
use Rattle.std.specs.List.{range_with_len, AllByRecursion}
use Rattle.std.proofs.lemmas.Int.{ints}
use Rattle.std.proofs.lemmas.Bool.Decides.{eqb_tells}
use Rattle.bp_theory.specs.Sums.{sum_of, sum_at}
use Rattle.bp_theory.proofs.Whole.{add-mul}
use Rattle.bp_theory.proofs.SumLaws.{sum_of-same, sum_of-add, sum_of-zero}

-- the weight of a key at itself
pub if_same : (k v : ℕ) (a b : ℤ) → k ≡ v → (if k == v then a else b) ≡ a
if_same k v a b e = ⊎_elim (λ yes'. ap (λ t. if t then a else b) yes'.0) (λ other. absurd (other.1 e)) (eqb_tells k v)

-- and at another
pub if_other : (k v : ℕ) (a b : ℤ) → (k ≡ v → ⊥) → (if k == v then a else b) ≡ b
if_other k v a b n = ⊎_elim (λ same. absurd (n same.1)) (λ other. ap (λ t. if t then a else b) other.0) (eqb_tells k v)

-- a sum over numbers that don't have the key
pub sum_of-missing : (h : ℕ → ℤ) (w : ℤ) (k a n : ℕ) → k < a → sum_of (λ v. (if k == v then w else pos 0) *ℤ h v) (range_with_len a n) ≡ pos 0
sum_of-missing h w k a zero l = refl
sum_of-missing h w k a (suc n) l =
    omega (
      arith,
      ints,
      ap (λ z. z *ℤ h a) (if_other k a w (pos 0) (λ e. omega (arith, l, e))),
      zero-*ℤ (h a),
      sum_of-missing h w k (a + 1) n (omega arith),
    )

-- a sum over numbers that have the key
pub sum_of-pick : (h : ℕ → ℤ) (w : ℤ) (k a n : ℕ) → a ≤ k → k < a + n
    → sum_of (λ v. (if k == v then w else pos 0) *ℤ h v) (range_with_len a n) ≡ w *ℤ h k
sum_of-pick h w k a zero low l = absurd (omega arith)
sum_of-pick h w k a (suc n) low l = ⊎_elim
    (λ same.
    omega (
      arith,
      ints,
      ap (λ t. (if t then w else pos 0) *ℤ h a) same.0,
      ap (λ v. w *ℤ h v) same.1,
      sum_of-missing h w k (a + 1) n (omega (arith, same.1)),
    ))
    (λ other.
    omega (
      arith,
      ints,
      ap (λ t. (if t then w else pos 0) *ℤ h a) other.0,
      zero-*ℤ (h a),
      sum_of-pick h w k (a + 1) n (above k a low other.1) (omega arith),
    ))
    (eqb_tells k a)
  where
    above : (k a : ℕ) → a ≤ k → k ≢ a → a + 1 ≤ k
    above k a l n = omega arith

-- a weighted sum, key by key
pub sum_of-by_key : {X : Type 0} (key : X → ℕ) (weight : X → ℤ) (h : ℕ → ℤ) (n : ℕ) (xs : List X)
    → AllByRecursion (λ x. key x < n) xs
    → sum_of (λ x. weight x *ℤ h (key x)) xs ≡ sum_of (λ v. sum_at key weight xs v *ℤ h v) (range_with_len 0 n)
sum_of-by_key key weight h n [] all =
    sym (sum_of-same (λ v. pos 0 *ℤ h v) (λ v. pos 0) (λ v. zero-*ℤ (h v)) (range_with_len 0 n) ∙ sum_of-zero (range_with_len 0 n))
sum_of-by_key key weight h n (x ∷ xs) all =
    omega (
      arith,
      ints,
      sum_of-by_key key weight h n xs all.1,
      sum_of-pick h (weight x) (key x) 0 n (omega arith) (omega (arith, all.0)),
      sum_of-same
          (λ v. ((if key x == v then weight x else pos 0) +ℤ sum_at key weight xs v) *ℤ h v)
          (λ v. (if key x == v then weight x else pos 0) *ℤ h v +ℤ sum_at key weight xs v *ℤ h v)
          (λ v. add-mul (if key x == v then weight x else pos 0) (sum_at key weight xs v) (h v))
          (range_with_len 0 n),
      sum_of-add
          (λ v. (if key x == v then weight x else pos 0) *ℤ h v)
          (λ v. sum_at key weight xs v *ℤ h v)
          (range_with_len 0 n),
    )

-- a number above all keys
pub above_keys : {X : Type 0} (key : X → ℕ) (xs : List X) → ℕ
above_keys key [] = 0
above_keys key (x ∷ xs) = key x + 1 + above_keys key xs

pub below_above_keys : {X : Type 0} (key : X → ℕ) (m : ℕ) (xs : List X) → AllByRecursion (λ x. key x < m + above_keys key xs) xs
unfolding above_keys
below_above_keys key m [] = tt
below_above_keys key m (x ∷ xs) =
    (omega arith, below_more key (m + above_keys key xs) (m + (key x + 1 + above_keys key xs)) (omega arith) xs (below_above_keys key m xs))
  where
    below_more : {X : Type 0} (key : X → ℕ) (n k : ℕ) → n ≤ k → (xs : List X) → AllByRecursion (λ x. key x < n) xs → AllByRecursion (λ x. key x < k) xs
    below_more key n k l [] all = tt
    below_more key n k l (x ∷ xs) all = (omega (arith, all.0), below_more key n k l xs all.1)

-- equal weights of each key give equal weighted sums
pub sum_of-same_keys : {X Y : Type 0} (key : X → ℕ) (weight : X → ℤ) (key' : Y → ℕ) (weight' : Y → ℤ) (h : ℕ → ℤ) (xs : List X) (ys : List Y)
    → ((v : ℕ) → sum_at key weight xs v ≡ sum_at key' weight' ys v)
    → sum_of (λ x. weight x *ℤ h (key x)) xs ≡ sum_of (λ y. weight' y *ℤ h (key' y)) ys
sum_of-same_keys key weight key' weight' h xs ys same =
    let n : ℕ = above_keys key' ys + above_keys key xs in
    let e : above_keys key xs + above_keys key' ys ≡ n = omega arith in
    sum_of-by_key key weight h n xs (below_above_keys key (above_keys key' ys) xs)
    ∙ sum_of-same (λ v. sum_at key weight xs v *ℤ h v) (λ v. sum_at key' weight' ys v *ℤ h v) (λ v. ap (λ z. z *ℤ h v) (same v)) (range_with_len 0 n)
    ∙ sym (sum_of-by_key key' weight' h n ys
    (subst (λ m. AllByRecursion (λ y. key' y < m) ys) e (below_above_keys key' (above_keys key xs) ys)))
