-- How large sums over a modest restricted master get.
use Rattle.std.proofs.Common.{◌≡◌, ◌⊎◌, refl, sym, ap, subst, ◌∙◌, ℕ, zero, suc, ◌+◌, ◌*◌, ◌<◌, ◌≤◌, ◌^◌, Bool, true, false, List, [], ◌∷◌, length, map, get_or, arith, inl, inr, ⊎_elim}
use Rattle.std.proofs.Math.IntN.{ℤ, pos, negsuc, ◌+ℤ◌, ◌-ℤ◌, ◌*ℤ◌, *ℤ_comm}
use Rattle.std.proofs.Math.Nat.{mul-le-mul, mul-le-mul_left, mul-le-mul_right}
use Rattle.std.specs.Prelude.{◌≤ℤ◌, ◌==◌, if◌then◌else◌, cond, zip, filter, sum_by, unsigned_abs, All}
use Rattle.std.specs.List.{AllByRecursion, range_with_len}
use Rattle.std.proofs.lemmas.Int.{ints, unsigned_abs-mul}
use Rattle.std.proofs.lemmas.Bool.{cases_lt}
use Rattle.std.proofs.lemmas.Bool.Decides.{eqb_tells}
use Rattle.std.proofs.lemmas.List.Elements.{recursion_from_All, All-from_recursion}
use Rattle.std.proofs.lemmas.List.Sums.{sum_by-cons}
use Rattle.std.proofs.Math.ListN.{get_or-eq_default}
use Rattle.bp_theory.specs.Sums.{sum_of}
use Rattle.bp_theory.specs.declared.MasterRow.{MasterRow}
use Rattle.bp_theory.proofs.Whole.{le-mul_pos}
use Rattle.bp_theory.proofs.SumLaws.{sum_of-within, mul-sum_of}
use Rattle.bp_theory.proofs.KeyLaws.{sum_of-by_key}
use Rattle.search_laws.specs.declared.Column.{Column}
use Rattle.search_laws.specs.Master.{column_activity, one_weight, multiplier, column_price, AreConvex, weighted, class_weight, class_size}
use Rattle.search_laws.specs.GroveFacts.{IsLeastOf}
use Rattle.master_gap.specs.Restricted.{Restricted, greatest, reach, IsModest}
use Rattle.master_gap.specs.Ranges.{AreWeights, AreMultipliers}

-- ---- sums of natural numbers

sum_by-none : {X : Type 0} (xs : List X) → sum_by (λ (x : X). 0) xs ≡ 0
sum_by-none [] = refl
sum_by-none {X} (x ∷ xs) = omega (arith, sum_by-cons (λ (y : X). 0) x xs, sum_by-none xs)

sum_by-same : {X : Type 0} (f g : X → ℕ) → ((x : X) → f x ≡ g x) → (xs : List X) → sum_by f xs ≡ sum_by g xs
sum_by-same f g e [] = refl
sum_by-same f g e (x ∷ xs) = omega (arith, sum_by-cons f x xs, sum_by-cons g x xs, e x, sum_by-same f g e xs)

sum_by-add : {X : Type 0} (f g : X → ℕ) (xs : List X) → sum_by (λ x. f x + g x) xs ≡ sum_by f xs + sum_by g xs
sum_by-add f g [] = refl
sum_by-add f g (x ∷ xs) =
    omega (arith, sum_by-cons f x xs, sum_by-cons g x xs, sum_by-cons (λ y. f y + g y) x xs, sum_by-add f g xs)

mul-sum_by : {X : Type 0} (a : ℕ) (f : X → ℕ) (xs : List X) → a * sum_by f xs ≡ sum_by (λ x. a * f x) xs
mul-sum_by a f [] = omega arith
mul-sum_by a f (x ∷ xs) =
    omega (arith, ap (λ n. a * n) (sum_by-cons f x xs), sum_by-cons (λ y. a * f y) x xs, mul-sum_by a f xs)

-- two sums change places
sum_by_swap : (n : ℕ → ℕ) (g : ℕ → ℕ → ℕ) (ks is : List ℕ) → sum_by (λ k. n k * sum_by (g k) is) ks ≡ sum_by (λ i. sum_by (λ k. n k * g k i) ks) is
sum_by_swap n g [] is = sym (sum_by-none is)
sum_by_swap n g (k ∷ ks) is =
    omega (
      arith,
      sum_by-cons (λ j. n j * sum_by (g j) is) k ks,
      sum_by_swap n g ks is,
      mul-sum_by (n k) (g k) is,
      sum_by-same (λ i. sum_by (λ j. n j * g j i) (k ∷ ks)) (λ i. n k * g k i + sum_by (λ j. n j * g j i) ks) (λ i. sum_by-cons (λ j. n j * g j i) k ks) is,
      sum_by-add (λ i. n k * g k i) (λ i. sum_by (λ j. n j * g j i) ks) is,
    )

-- over a range, number by number
pub sum_by_range-le : (f g : ℕ → ℕ) (a n : ℕ) → ((i : ℕ) → a ≤ i → i < a + n → f i ≤ g i) → sum_by f (range_with_len a n) ≤ sum_by g (range_with_len a n)
sum_by_range-le f g a zero h = omega arith
sum_by_range-le f g a (suc n) h =
    omega (
      arith,
      sum_by-cons f a (range_with_len (a + 1) n),
      sum_by-cons g a (range_with_len (a + 1) n),
      h a (omega arith) (omega arith),
      sum_by_range-le f g (a + 1) n (λ i l m. h i (omega (arith, l)) (omega (arith, m))),
    )

pub sum_by_range-same : (f g : ℕ → ℕ) (a n : ℕ) → ((i : ℕ) → a ≤ i → i < a + n → f i ≡ g i) → sum_by f (range_with_len a n) ≡ sum_by g (range_with_len a n)
sum_by_range-same f g a zero h = refl
sum_by_range-same f g a (suc n) h =
    omega (
      arith,
      sum_by-cons f a (range_with_len (a + 1) n),
      sum_by-cons g a (range_with_len (a + 1) n),
      h a (omega arith) (omega arith),
      sum_by_range-same f g (a + 1) n (λ i l m. h i (omega (arith, l)) (omega (arith, m))),
    )

-- a range of numbers that are at most b
pub sum_by_range-most : (f : ℕ → ℕ) (b a n : ℕ) → ((i : ℕ) → a ≤ i → i < a + n → f i ≤ b) → sum_by f (range_with_len a n) ≤ n * b
sum_by_range-most f b a zero h = omega arith
sum_by_range-most f b a (suc n) h =
    omega (
      arith,
      sum_by-cons f a (range_with_len (a + 1) n),
      h a (omega arith) (omega arith),
      sum_by_range-most f b (a + 1) n (λ i l m. h i (omega (arith, l)) (omega (arith, m))),
    )

-- one of the numbers
one_of_range : (f : ℕ → ℕ) (a n k : ℕ) → a ≤ k → k < a + n → f k ≤ sum_by f (range_with_len a n)
one_of_range f a zero k l m = absurd (omega arith)
one_of_range f a (suc n) k l m = ⊎_elim
    (λ less. omega (arith, sum_by-cons f a (range_with_len (a + 1) n), one_of_range f (a + 1) n k (omega (arith, less)) (omega arith)))
    (λ more. let e : k ≡ a = omega (arith, more) in omega (arith, ap f e, sum_by-cons f a (range_with_len (a + 1) n)))
    (cases_lt a k)

-- natural numbers among whole ones
sum_of-pos : (g : ℕ → ℕ) (xs : List ℕ) → sum_of (λ k. pos (g k)) xs ≡ pos (sum_by g xs)
sum_of-pos g [] = refl
sum_of-pos g (x ∷ xs) = omega (arith, ints, sum_by-cons g x xs, sum_of-pos g xs)

sum_of_range-le : (f g : ℕ → ℤ) (a n : ℕ) → ((i : ℕ) → a ≤ i → i < a + n → f i ≤ℤ g i) → sum_of f (range_with_len a n) ≤ℤ sum_of g (range_with_len a n)
sum_of_range-le f g a zero h = omega (arith, ints)
sum_of_range-le f g a (suc n) h =
    omega (
      arith,
      ints,
      h a (omega arith) (omega arith),
      sum_of_range-le f g (a + 1) n (λ i l m. h i (omega (arith, l)) (omega (arith, m))),
    )

-- ---- greatest magnitudes

pick_same : (k v a b : ℕ) → k ≡ v → (if k == v then a else b) ≡ a
pick_same k v a b e = ⊎_elim (λ same. ap {B = ℕ} (λ t. if t then a else b) same.0) (λ other. absurd (other.1 e)) (eqb_tells k v)

-- a column's number is within the greatest of its class
pub within_greatest : (f : Column → ℤ) (cols : List Column) (j : ℕ) (d : Column) → j < length cols
    → unsigned_abs (f (get_or cols j d)) ≤ greatest f cols (get_or cols j d).class
within_greatest f [] j d l = absurd (omega arith)
within_greatest f (c ∷ cols) zero d l = omega (arith, pick_same c.class c.class (unsigned_abs (f c)) 0 refl)
within_greatest f (c ∷ cols) (suc j) d l = omega (arith, within_greatest f cols j d (omega arith))

-- each class has a block
size_of : (m : Restricted) (k : ℕ) → IsModest m → k < length m.counts → 0 < class_size m.counts k
size_of m k modest l = (modest.sizes k 0 l).0

-- without counts the sum is no greater
pub greatest_together : (f : Column → ℤ) (m : Restricted) → IsModest m → sum_by (greatest f m.cols) (range_with_len 0 (length m.counts)) ≤ reach f m
greatest_together f m modest =
    sum_by_range-le (greatest f m.cols) (λ k. class_size m.counts k * greatest f m.cols k) 0 (length m.counts)
    (λ k low l. let there : k < length m.counts = omega (arith, l) in once (class_size m.counts k) (greatest f m.cols k) (size_of m k modest there))
  where
    once : (n g : ℕ) → 0 < n → g ≤ n * g
    once n g h = omega (arith, mul-le-mul_right g h)

-- ---- weighted sums

column_within : (a w : ℤ) (g : ℕ) → pos 0 ≤ℤ w → unsigned_abs a ≤ g → pos (unsigned_abs (a *ℤ w)) ≤ℤ (w *ℤ pos g)
column_within a (pos n) g h l = omega (arith, ints, unsigned_abs-mul a (pos n), mul-le-mul_left n l)
column_within a (negsuc n) g h l = absurd (omega (arith, ints))

columns_within : (f : Column → ℤ) (g : ℕ → ℕ) (zs : List (Column × ℤ))
    → AllByRecursion (λ (z : Column × ℤ). (pos 0 ≤ℤ z.1) × (unsigned_abs (f z.0) ≤ g z.0.class)) zs
    → pos (unsigned_abs (weighted f zs)) ≤ℤ sum_of (λ (z : Column × ℤ). z.1 *ℤ pos (g z.0.class)) zs
columns_within f g [] h = omega (arith, ints)
columns_within f g (z ∷ zs) h =
    joined (f z.0 *ℤ z.1) (weighted f zs) (z.1 *ℤ pos (g z.0.class)) (sum_of (λ (z : Column × ℤ). z.1 *ℤ pos (g z.0.class)) zs)
    (column_within (f z.0) z.1 (g z.0.class) h.0.0 h.0.1) (columns_within f g zs h.1)
  where
    joined : (a b c d : ℤ) → pos (unsigned_abs a) ≤ℤ c → pos (unsigned_abs b) ≤ℤ d → pos (unsigned_abs (a +ℤ b)) ≤ℤ (c +ℤ d)
    joined a b c d h l = omega (arith, ints, h, l)

zip_facts : (P : Column → Type 0) (Q : ℤ → Type 0) (cols : List Column) (ys : List ℤ) → AllByRecursion P cols → AllByRecursion Q ys
    → AllByRecursion (λ (z : Column × ℤ). Q z.1 × P z.0) (zip cols ys)
zip_facts P Q [] ys h n = tt
zip_facts P Q (c ∷ cols) [] h n = tt
zip_facts P Q (c ∷ cols) (y ∷ ys) h n = ((n.0, h.0), zip_facts P Q cols ys h.1 n.1)

zip_first : (P : Column → Type 0) (cols : List Column) (ys : List ℤ) → AllByRecursion P cols → AllByRecursion (λ (z : Column × ℤ). P z.0) (zip cols ys)
zip_first P [] ys h = tt
zip_first P (c ∷ cols) [] h = tt
zip_first P (c ∷ cols) (y ∷ ys) h = (h.0, zip_first P cols ys h.1)

-- weighted numbers of columns are at most 2^33 times what the numbers can add up to
pub weighted_within : (f : Column → ℤ) (m : Restricted) (weights : List ℤ) → IsModest m → AreWeights m.cols (length m.counts) weights
    → unsigned_abs (weighted f (zip m.cols weights)) ≤ 2 ^ 33 * reach f m
weighted_within f m weights modest are =
    let g : ℕ → ℕ = greatest f m.cols in
    let n : ℕ = length m.counts in
    let zs : List (Column × ℤ) = zip m.cols weights in
    let cols : AllByRecursion (λ (c : Column). unsigned_abs (f c) ≤ g c.class) m.cols =
    recursion_from_All (λ (c : Column). unsigned_abs (f c) ≤ g c.class) m.cols (λ j d l. within_greatest f m.cols j d l) in
    let signs : AllByRecursion (λ y. pos 0 ≤ℤ y) weights = recursion_from_All (λ y. pos 0 ≤ℤ y) weights (λ j d l. (are.sizes j d l).0) in
    let known : AllByRecursion (λ (z : Column × ℤ). z.0.class < n) zs =
    zip_first (λ (c : Column). c.class < n) m.cols weights (recursion_from_All (λ (c : Column). c.class < n) m.cols (λ j d l. (modest.known j d l).class)) in
    ends (unsigned_abs (weighted f zs)) (sum_of (λ (z : Column × ℤ). z.1 *ℤ pos (g z.0.class)) zs)
    (sum_of (λ k. class_weight zs k *ℤ pos (g k)) (range_with_len 0 n)) (sum_of (λ k. pos (2 ^ 33) *ℤ pos (g k)) (range_with_len 0 n))
    (sum_of (λ k. pos (g k)) (range_with_len 0 n)) (sum_by g (range_with_len 0 n)) (reach f m)
    (columns_within f g zs (zip_facts (λ (c : Column). unsigned_abs (f c) ≤ g c.class) (λ y. pos 0 ≤ℤ y) m.cols weights cols signs))
    (sum_of-by_key (λ (z : Column × ℤ). z.0.class) (λ (z : Column × ℤ). z.1) (λ k. pos (g k)) n zs known)
    (sum_of_range-le (λ k. class_weight zs k *ℤ pos (g k)) (λ k. pos (2 ^ 33) *ℤ pos (g k)) 0 n
    (λ k low l. let there : k < n = omega (arith, l) in class_within (class_weight zs k) (g k) (are.together k there)))
    (mul-sum_of (pos (2 ^ 33)) (λ k. pos (g k)) (range_with_len 0 n))
    (sum_of-pos g (range_with_len 0 n))
    (greatest_together f m modest)
  where
    class_within : (w : ℤ) (g : ℕ) → w ≤ℤ pos (2 ^ 33) → (w *ℤ pos g) ≤ℤ (pos (2 ^ 33) *ℤ pos g)
    class_within w g h = omega (arith, ints, le-mul_pos g w (pos (2 ^ 33)) h, *ℤ_comm w (pos g), *ℤ_comm (pos (2 ^ 33)) (pos g))

    ends : (a : ℕ) (b c d e : ℤ) (s r : ℕ) → pos a ≤ℤ b → b ≡ c → c ≤ℤ d → pos (2 ^ 33) *ℤ e ≡ d → e ≡ pos s → s ≤ r → a ≤ 2 ^ 33 * r
    ends a b c d e s r h i j k l o = omega (arith, ints, h, i, j, k, l, o, ap (λ z. pos (2 ^ 33) *ℤ z) l, mul-le-mul_left (2 ^ 33) o)

-- ---- prices

-- how large the prices of a class's columns can be
abbrev pub price_size : Restricted → ℕ → ℕ
price_size m k =
    2 ^ 20 * greatest (λ c. c.cost) m.cols k + 2 ^ 40 * sum_by (λ i. greatest (λ c. column_activity c i) m.cols k) (range_with_len 0 (length m.rows))

-- a multiplier's size, also past the rows
pub multiplier_size : (rows : List MasterRow) (mults : List ℤ) (i : ℕ) → AreMultipliers rows mults → unsigned_abs (multiplier mults i) ≤ 2 ^ 40
multiplier_size rows mults i are = ⊎_elim
    (λ less. are.sizes i (pos 0) less)
    (λ more. let e : multiplier mults i ≡ pos 0 = get_or-eq_default mults (pos 0) more in subst (λ z. unsigned_abs z ≤ 2 ^ 40) (sym e) (omega arith))
    (cases_lt i (length mults))

-- a column's price is within the size of its class's prices
pub price_within : (m : Restricted) (mults : List ℤ) (j : ℕ) (d : Column) → IsModest m → AreMultipliers m.rows mults → j < length m.cols
    → unsigned_abs (column_price mults (get_or m.cols j d)) ≤ price_size m (get_or m.cols j d).class
price_within m mults j d modest are l =
    let c : Column = get_or m.cols j d in
    let k : ℕ = c.class in
    let n : ℕ = length m.rows in
    let by_row : sum_of (λ e. e.1 *ℤ multiplier mults e.0) c.acts ≡ sum_of (λ i. column_activity c i *ℤ multiplier mults i) (range_with_len 0 n) =
    sum_of-by_key (λ (e : ℕ × ℤ). e.0) (λ (e : ℕ × ℤ). e.1) (multiplier mults) n c.acts
    (recursion_from_All (λ (e : ℕ × ℤ). e.0 < n) c.acts (modest.known j d l).rows) in
    ends c.cost (sum_of (λ e. e.1 *ℤ multiplier mults e.0) c.acts) (sum_of (λ i. column_activity c i *ℤ multiplier mults i) (range_with_len 0 n))
    (greatest (λ c. c.cost) m.cols k) (sum_by (λ i. unsigned_abs (column_activity c i *ℤ multiplier mults i)) (range_with_len 0 n))
    (sum_by (λ i. 2 ^ 40 * greatest (λ c. column_activity c i) m.cols k) (range_with_len 0 n))
    (sum_by (λ i. greatest (λ c. column_activity c i) m.cols k) (range_with_len 0 n))
    by_row
    (within_greatest (λ c. c.cost) m.cols j d l)
    (sum_of-within (λ i. column_activity c i *ℤ multiplier mults i) (range_with_len 0 n))
    (sum_by_range-le (λ i. unsigned_abs (column_activity c i *ℤ multiplier mults i)) (λ i. 2 ^ 40 * greatest (λ c. column_activity c i) m.cols k) 0 n
    (λ i low r. part (column_activity c i) (multiplier mults i) (greatest (λ c. column_activity c i) m.cols k)
    (within_greatest (λ c. column_activity c i) m.cols j d l) (multiplier_size m.rows mults i are)))
    (mul-sum_by (2 ^ 40) (λ i. greatest (λ c. column_activity c i) m.cols k) (range_with_len 0 n))
  where
    part : (a p : ℤ) (g : ℕ) → unsigned_abs a ≤ g → unsigned_abs p ≤ 2 ^ 40 → unsigned_abs (a *ℤ p) ≤ 2 ^ 40 * g
    part a p g h l = omega (arith, unsigned_abs-mul a p, mul-le-mul h l)

    ends : (cost s t : ℤ) (g u v w : ℕ) → s ≡ t → unsigned_abs cost ≤ g → unsigned_abs t ≤ u → u ≤ v → 2 ^ 40 * w ≡ v
        → unsigned_abs (pos one_weight *ℤ cost -ℤ s) ≤ 2 ^ 20 * g + 2 ^ 40 * w
    ends cost s t g u v w e h i k o = omega (arith, ints, e, h, i, k, o)

-- counts times sizes of prices, together
pub prices_together : (m : Restricted) → IsModest m
    → sum_by (λ k. class_size m.counts k * price_size m k) (range_with_len 0 (length m.counts)) < 2 ^ 119
prices_together m modest =
    let ks : List ℕ = range_with_len 0 (length m.counts) in
    let is : List ℕ = range_with_len 0 (length m.rows) in
    let n : ℕ → ℕ = class_size m.counts in
    let cost : ℕ → ℕ = greatest (λ c. c.cost) m.cols in
    let act : ℕ → ℕ → ℕ = λ k i. greatest (λ c. column_activity c i) m.cols k in
    ends (sum_by (λ k. n k * price_size m k) ks) (sum_by (λ k. 2 ^ 20 * (n k * cost k)) ks) (sum_by (λ k. 2 ^ 40 * (n k * sum_by (act k) is)) ks)
    (reach (λ c. c.cost) m) (sum_by (λ k. n k * sum_by (act k) is) ks) (sum_by (λ i. reach (λ c. column_activity c i) m) is) (length m.rows)
    (sum_by-same (λ k. n k * price_size m k) (λ k. 2 ^ 20 * (n k * cost k) + 2 ^ 40 * (n k * sum_by (act k) is))
    (λ k. apart (n k) (cost k) (sum_by (act k) is)) ks
    ∙ sum_by-add (λ k. 2 ^ 20 * (n k * cost k)) (λ k. 2 ^ 40 * (n k * sum_by (act k) is)) ks)
    (mul-sum_by (2 ^ 20) (λ k. n k * cost k) ks)
    (mul-sum_by (2 ^ 40) (λ k. n k * sum_by (act k) is) ks)
    (sum_by_swap n act ks is)
    modest.costs
    (sum_by_range-most (λ i. reach (λ c. column_activity c i) m) (2 ^ 62) 0 (length m.rows)
    (λ i low l. let there : i < length m.rows = omega (arith, l) in omega (arith, modest.activities i there)))
    modest.few
  where
    apart : (n c s : ℕ) → n * (2 ^ 20 * c + 2 ^ 40 * s) ≡ 2 ^ 20 * (n * c) + 2 ^ 40 * (n * s)
    apart n c s = omega arith

    ends : (t a b r s u rows : ℕ) → t ≡ a + b → 2 ^ 20 * r ≡ a → 2 ^ 40 * s ≡ b → s ≡ u → r < 2 ^ 62 → u ≤ rows * 2 ^ 62 → rows ≤ 65536 → t < 2 ^ 119
    ends t a b r s u rows e f g h i j k = omega (arith, e, f, g, h, i, j, k)

-- so each price is small
pub price_small : (m : Restricted) (mults : List ℤ) → IsModest m → AreMultipliers m.rows mults
    → All (λ (c : Column). unsigned_abs (column_price mults c) < 2 ^ 119) m.cols
price_small m mults modest are j d l =
    let k : ℕ = (get_or m.cols j d).class in
    let there : k < length m.counts = (modest.known j d l).class in
    ends (class_size m.counts k) (price_size m k) (unsigned_abs (column_price mults (get_or m.cols j d)))
    (sum_by (λ k. class_size m.counts k * price_size m k) (range_with_len 0 (length m.counts)))
    (size_of m k modest there) (price_within m mults j d modest are l)
    (one_of_range (λ k. class_size m.counts k * price_size m k) 0 (length m.counts) k (omega arith) (omega (arith, there)))
    (prices_together m modest)
  where
    ends : (n s p t : ℕ) → 0 < n → p ≤ s → n * s ≤ t → t < 2 ^ 119 → p < 2 ^ 119
    ends n s p t h i j k = omega (arith, h, i, j, k, mul-le-mul_right s h)

-- ---- least prices

-- what holds of each price of a class holds of its least one
class_prices : (P : ℤ → Type 0) (mults : List ℤ) (cols : List Column) (k : ℕ) → AllByRecursion (λ (c : Column). c.class ≡ k → P (column_price mults c)) cols
    → AllByRecursion P (map (column_price mults) (filter (λ (c : Column). c.class == k) cols))
class_prices P mults [] k h = tt
class_prices P mults (c ∷ cols) k h = by (c.class == k) (eqb_tells c.class k) (class_prices P mults cols k h.1)
  where
    by : (t : Bool) → ((t ≡ true) × (c.class ≡ k)) ⊎ ((t ≡ false) × (c.class ≡ k → ⊥))
        → AllByRecursion P (map (column_price mults) (filter (λ (d : Column). d.class == k) cols))
        → AllByRecursion P (map (column_price mults) (cond t (c ∷ filter (λ (d : Column). d.class == k) cols) (filter (λ (d : Column). d.class == k) cols)))
    by true (inl same) rest = (h.0 same.1, rest)
    by true (inr other) rest = absurd (cc)
    by false tells rest = rest

pub convex_within : (m : Restricted) (mults convex : List ℤ) (k : ℕ) → IsModest m → AreMultipliers m.rows mults → AreConvex m.cols (length m.counts) mults convex
    → k < length m.counts → unsigned_abs (get_or convex k (pos 0)) ≤ price_size m k
convex_within m mults convex k modest are convex_are l =
    let v : ℤ = get_or convex k (pos 0) in
    let least : IsLeastOf (map (column_price mults) (filter (λ (c : Column). c.class == k) m.cols)) v = convex_are.least k l in
    let all : AllByRecursion (λ z. unsigned_abs z ≤ price_size m k) (map (column_price mults) (filter (λ (c : Column). c.class == k) m.cols)) =
    class_prices (λ z. unsigned_abs z ≤ price_size m k) mults m.cols k
    (recursion_from_All (λ (c : Column). c.class ≡ k → unsigned_abs (column_price mults c) ≤ price_size m k) m.cols
    (λ j d there same.
    subst (λ i. unsigned_abs (column_price mults (get_or m.cols j d)) ≤ price_size m i) same (price_within m mults j d modest are there))) in
    subst (λ z. unsigned_abs z ≤ price_size m k) least.reached.2
    (All-from_recursion (λ z. unsigned_abs z ≤ price_size m k) (map (column_price mults) (filter (λ (c : Column). c.class == k) m.cols)) all
    least.reached.0 v least.reached.1)

-- counts times least prices, together
pub classes_small : (m : Restricted) (mults convex : List ℤ) → IsModest m → AreMultipliers m.rows mults → AreConvex m.cols (length m.counts) mults convex
    → unsigned_abs (sum_of (λ k. pos (class_size m.counts k) *ℤ get_or convex k (pos 0)) (range_with_len 0 (length m.counts))) < 2 ^ 119
classes_small m mults convex modest are convex_are =
    let f : ℕ → ℤ = λ k. pos (class_size m.counts k) *ℤ get_or convex k (pos 0) in
    omega (
      arith,
      sum_of-within f (range_with_len 0 (length m.counts)),
      sum_by_range-le (λ k. unsigned_abs (f k)) (λ k. class_size m.counts k * price_size m k) 0 (length m.counts)
          (λ k low l. let there : k < length m.counts = omega (arith, l) in
          part (class_size m.counts k) (get_or convex k (pos 0)) (price_size m k) (convex_within m mults convex k modest are convex_are there)),
      prices_together m modest,
    )
  where
    part : (n : ℕ) (v : ℤ) (s : ℕ) → unsigned_abs v ≤ s → unsigned_abs (pos n *ℤ v) ≤ n * s
    part n v s h = omega (arith, unsigned_abs-mul (pos n) v, mul-le-mul_left n h)
