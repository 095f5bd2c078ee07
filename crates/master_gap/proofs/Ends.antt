-- Gap and what is short fit 128 bits.
use Rattle.std.proofs.Common.{◌≡◌, ap, ◌∙◌, ℕ, zero, suc, ◌*◌, ◌<◌, ◌≤◌, ◌^◌, max, Bool, true, false, List, [], ◌∷◌, length, get_or, arith}
use Rattle.std.proofs.Math.IntN.{ℤ, pos, negsuc, ◌+ℤ◌, ◌-ℤ◌, ◌*ℤ◌}
use Rattle.std.proofs.Math.Nat.{mul-le-mul}
use Rattle.std.specs.Prelude.{◌≤ℤ◌, ◌==◌, if◌then◌else◌, zip, sum_by, unsigned_abs}
use Rattle.std.specs.Int.{w128, int_wrap, int_gap}
use Rattle.std.specs.List.{AllByRecursion, range_with_len}
use Rattle.std.proofs.lemmas.Int.{ints, unsigned_abs-mul, fits_signed_from_abs, int_wrap_fits, int_wrap-add_left, int_wrap-add_right, int_wrap-sub_right}
use Rattle.std.proofs.lemmas.List.Elements.{recursion_from_All}
use Rattle.bp_theory.specs.Sums.{sum_of}
use Rattle.bp_theory.specs.Bound.{side}
use Rattle.bp_theory.specs.declared.Sense.{Sense}
use Rattle.bp_theory.specs.declared.Sense.TheVariants.{Le, Ge, Eq, In}
use Rattle.bp_theory.specs.declared.MasterRow.{MasterRow}
use Rattle.bp_theory.proofs.SumLaws.{sum_of-within}
use Rattle.search_laws.specs.declared.Column.{Column}
use Rattle.search_laws.specs.Master.{column_activity, one_weight, multiplier, AreConvex, weighted_cost, weighted_activity, class_weight, master_row, class_size, gap, side_miss, row_short, class_short}
use Rattle.master_gap.specs.Restricted.{Restricted, IsModest}
use Rattle.master_gap.specs.Ranges.{AreWeights, AreMultipliers}
use Rattle.master_gap.proofs.Bounds.{weighted_within, classes_small, multiplier_size, sum_by_range-most, sum_by_range-same}

-- what fits is as it is when it wraps
pub fits : (z : ℤ) → unsigned_abs z < 2 ^ 127 → int_wrap w128 z ≡ z
fits z h = int_wrap_fits w128 z (fits_signed_from_abs w128 z h)

-- a sum of two wrapped numbers
pub sum_wrap : (r p q a b : ℤ) → r ≡ int_wrap w128 (p +ℤ q) → p ≡ int_wrap w128 a → q ≡ int_wrap w128 b → r ≡ int_wrap w128 (a +ℤ b)
sum_wrap r p q a b e f g =
    e
    ∙ ap (λ z. int_wrap w128 (z +ℤ q)) f
    ∙ int_wrap-add_left w128 a q
    ∙ ap (λ z. int_wrap w128 (a +ℤ z)) g
    ∙ int_wrap-add_right w128 a b

-- a difference of two wrapped numbers
pub difference_wrap : (r p q a b : ℤ) → r ≡ int_wrap w128 (p -ℤ q) → p ≡ a → q ≡ int_wrap w128 b → r ≡ int_wrap w128 (a -ℤ b)
difference_wrap r p q a b e f g =
    e ∙ ap (λ z. int_wrap w128 (z -ℤ q)) f ∙ ap (λ z. int_wrap w128 (a -ℤ z)) g ∙ int_wrap-sub_right w128 a b

-- ---- the gap

pub cost_small : (m : Restricted) (weights : List ℤ) → IsModest m → AreWeights m.cols (length m.counts) weights
    → unsigned_abs (weighted_cost (zip m.cols weights)) ≤ 2 ^ 95
cost_small m weights modest are = omega (arith, weighted_within (λ (c : Column). c.cost) m weights modest are, modest.costs)

side_within : (r : MasterRow) (p : ℤ) → unsigned_abs (side r p) ≤ max (unsigned_abs r.low) (unsigned_abs r.rhs)
side_within r (pos zero) = omega arith
side_within r (pos (suc n)) = omega arith
side_within r (negsuc n) = omega arith

rows_small : (m : Restricted) (mults : List ℤ) → IsModest m → AreMultipliers m.rows mults
    → unsigned_abs (sum_of (λ i. multiplier mults i *ℤ side (master_row m.rows i) (multiplier mults i)) (range_with_len 0 (length m.rows))) ≤ 2 ^ 118
rows_small m mults modest are =
    let f : ℕ → ℤ = λ i. multiplier mults i *ℤ side (master_row m.rows i) (multiplier mults i) in
    ends (unsigned_abs (sum_of f (range_with_len 0 (length m.rows)))) (sum_by (λ i. unsigned_abs (f i)) (range_with_len 0 (length m.rows))) (length m.rows)
    (sum_of-within f (range_with_len 0 (length m.rows)))
    (sum_by_range-most (λ i. unsigned_abs (f i)) (2 ^ 102) 0 (length m.rows)
    (λ i low l. let there : i < length m.rows = omega (arith, l) in
    part (multiplier mults i) (side (master_row m.rows i) (multiplier mults i)) (multiplier_size m.rows mults i are)
    (omega (arith, side_within (master_row m.rows i) (multiplier mults i), modest.activities i there))))
    modest.few
  where
    part : (p s : ℤ) → unsigned_abs p ≤ 2 ^ 40 → unsigned_abs s ≤ 2 ^ 62 → unsigned_abs (p *ℤ s) ≤ 2 ^ 102
    part p s h l = omega (arith, unsigned_abs-mul p s, mul-le-mul h l)

    ends : (a b n : ℕ) → a ≤ b → b ≤ n * 2 ^ 102 → n ≤ 65536 → a ≤ 2 ^ 118
    ends a b n h l o = omega (arith, h, l, o)

pub gap_small : (m : Restricted) (weights mults convex : List ℤ) → IsModest m → AreWeights m.cols (length m.counts) weights → AreMultipliers m.rows mults
    → AreConvex m.cols (length m.counts) mults convex → unsigned_abs (gap m.rows m.counts (zip m.cols weights) mults convex) < 2 ^ 127
gap_small m weights mults convex modest are mults_are convex_are =
    three (weighted_cost (zip m.cols weights))
    (sum_of (λ i. multiplier mults i *ℤ side (master_row m.rows i) (multiplier mults i)) (range_with_len 0 (length m.rows)))
    (sum_of (λ k. pos (class_size m.counts k) *ℤ get_or convex k (pos 0)) (range_with_len 0 (length m.counts)))
    (cost_small m weights modest are) (rows_small m mults modest mults_are) (classes_small m mults convex modest mults_are convex_are)
  where
    three : (a b c : ℤ) → unsigned_abs a ≤ 2 ^ 95 → unsigned_abs b ≤ 2 ^ 118 → unsigned_abs c < 2 ^ 119 → unsigned_abs (a -ℤ (b +ℤ c)) < 2 ^ 127
    three a b c h i j = omega (arith, ints, h, i, j)

-- ---- what is short

pub activity_small : (m : Restricted) (weights : List ℤ) (i : ℕ) → IsModest m → AreWeights m.cols (length m.counts) weights → i < length m.rows
    → unsigned_abs (weighted_activity (zip m.cols weights) i) ≤ 2 ^ 95
activity_small m weights i modest are l =
    omega (arith, weighted_within (λ (c : Column). column_activity c i) m weights modest are, modest.activities i l)

second_facts : (Q : ℤ → Type 0) (cols : List Column) (ys : List ℤ) → AllByRecursion Q ys → AllByRecursion (λ (z : Column × ℤ). Q z.1) (zip cols ys)
second_facts Q [] ys n = tt
second_facts Q (c ∷ cols) [] n = tt
second_facts Q (c ∷ cols) (y ∷ ys) n = (n.0, second_facts Q cols ys n.1)

class_weight_from : (zs : List (Column × ℤ)) (k : ℕ) → AllByRecursion (λ (z : Column × ℤ). pos 0 ≤ℤ z.1) zs → pos 0 ≤ℤ class_weight zs k
class_weight_from [] k h = omega (arith, ints)
class_weight_from (z ∷ zs) k h = by (z.0.class == k) (class_weight_from zs k h.1)
  where
    by : (t : Bool) → pos 0 ≤ℤ class_weight zs k → pos 0 ≤ℤ ((if t then z.1 else pos 0) +ℤ class_weight zs k)
    by true rest = omega (arith, ints, h.0, rest)
    by false rest = omega (arith, ints, rest)

pub class_weight_small : (m : Restricted) (weights : List ℤ) (k : ℕ) → AreWeights m.cols (length m.counts) weights → k < length m.counts
    → unsigned_abs (class_weight (zip m.cols weights) k) ≤ 2 ^ 33
class_weight_small m weights k are l =
    ends (class_weight (zip m.cols weights) k)
    (class_weight_from (zip m.cols weights) k
    (second_facts (λ y. pos 0 ≤ℤ y) m.cols weights (recursion_from_All (λ y. pos 0 ≤ℤ y) weights (λ j d t. (are.sizes j d t).0))))
    (are.together k l)
  where
    ends : (z : ℤ) → pos 0 ≤ℤ z → z ≤ℤ pos (2 ^ 33) → unsigned_abs z ≤ 2 ^ 33
    ends z h l = omega (arith, ints, h, l)

gap_within : (a b : ℤ) → unsigned_abs a ≤ 2 ^ 95 → unsigned_abs b ≤ 2 ^ 95 → int_gap a b ≤ 2 ^ 96
gap_within a b h l = grind (arith, ints)

miss_within : (s : Sense) (low rhs a : ℤ) → unsigned_abs low ≤ 2 ^ 95 → unsigned_abs rhs ≤ 2 ^ 95 → unsigned_abs a ≤ 2 ^ 95 → side_miss s low rhs a ≤ 2 ^ 97
miss_within Le low rhs a h l o = omega (arith, gap_within rhs a l o)
miss_within Ge low rhs a h l o = omega (arith, gap_within a low o h)
miss_within Eq low rhs a h l o = omega (arith, gap_within a low o h, gap_within rhs a l o)
miss_within In low rhs a h l o = omega (arith, gap_within a low o h, gap_within rhs a l o)

pub short_small : (m : Restricted) (weights : List ℤ) → IsModest m → AreWeights m.cols (length m.counts) weights → length m.counts < 2 ^ 64
    → unsigned_abs (pos (sum_by (row_short m.rows (zip m.cols weights)) (range_with_len 0 (length m.rows)))
    +ℤ pos (sum_by (class_short m.counts (zip m.cols weights)) (range_with_len 0 (length m.counts)))) < 2 ^ 127
short_small m weights modest are few =
    let zs : List (Column × ℤ) = zip m.cols weights in
    ends (sum_by (row_short m.rows zs) (range_with_len 0 (length m.rows))) (sum_by (class_short m.counts zs) (range_with_len 0 (length m.counts)))
    (length m.rows) (length m.counts)
    (sum_by_range-most (row_short m.rows zs) (2 ^ 97) 0 (length m.rows)
    (λ i low l. let there : i < length m.rows = omega (arith, l) in
    miss_within (master_row m.rows i).sense (pos one_weight *ℤ (master_row m.rows i).low) (pos one_weight *ℤ (master_row m.rows i).rhs) (weighted_activity zs i)
    (units (master_row m.rows i).low (omega (arith, modest.activities i there)))
    (units (master_row m.rows i).rhs (omega (arith, modest.activities i there)))
    (activity_small m weights i modest are there)))
    modest.few
    (sum_by_range-most (class_short m.counts zs) (2 ^ 34) 0 (length m.counts)
    (λ k low l. let there : k < length m.counts = omega (arith, l) in
    class (class_weight zs k) (class_size m.counts k) (class_weight_small m weights k are there) (modest.sizes k 0 there).1))
    few
  where
    units : (z : ℤ) → unsigned_abs z < 2 ^ 62 → unsigned_abs (pos one_weight *ℤ z) ≤ 2 ^ 95
    units z h = omega (arith, ints, h)

    class : (z : ℤ) (n : ℕ) → unsigned_abs z ≤ 2 ^ 33 → n ≤ 8192 → unsigned_abs (z -ℤ pos one_weight *ℤ pos n) ≤ 2 ^ 34
    class z n h l = omega (arith, ints, h, l)

    ends : (a b n k : ℕ) → a ≤ n * 2 ^ 97 → n ≤ 65536 → b ≤ k * 2 ^ 34 → k < 2 ^ 64 → unsigned_abs (pos a +ℤ pos b) < 2 ^ 127
    ends a b n k h i j l = omega (arith, ints, h, i, j, l)

-- misses of the same sums are the same
pub rows_short_same : (rows : List MasterRow) (zs : List (Column × ℤ)) (sums : List ℤ) → ((i : ℕ) → i < length rows → get_or sums i (pos 0) ≡ weighted_activity zs i)
    → sum_by (λ i. side_miss (master_row rows i).sense (pos one_weight *ℤ (master_row rows i).low) (pos one_weight *ℤ (master_row rows i).rhs) (get_or sums i (pos 0))) (range_with_len 0 (length rows))
    ≡ sum_by (row_short rows zs) (range_with_len 0 (length rows))
rows_short_same rows zs sums same =
    sum_by_range-same
    (λ i. side_miss (master_row rows i).sense (pos one_weight *ℤ (master_row rows i).low) (pos one_weight *ℤ (master_row rows i).rhs) (get_or sums i (pos 0)))
    (row_short rows zs) 0 (length rows)
    (λ i low l. let there : i < length rows = omega (arith, l) in
    ap (side_miss (master_row rows i).sense (pos one_weight *ℤ (master_row rows i).low) (pos one_weight *ℤ (master_row rows i).rhs)) (same i there))

pub classes_short_same : (counts : List ℕ) (zs : List (Column × ℤ)) (sums : List ℤ) → ((k : ℕ) → k < length counts → get_or sums k (pos 0) ≡ class_weight zs k)
    → sum_by (λ k. unsigned_abs (get_or sums k (pos 0) -ℤ pos one_weight *ℤ pos (class_size counts k))) (range_with_len 0 (length counts))
    ≡ sum_by (class_short counts zs) (range_with_len 0 (length counts))
classes_short_same counts zs sums same =
    sum_by_range-same
    (λ k. unsigned_abs (get_or sums k (pos 0) -ℤ pos one_weight *ℤ pos (class_size counts k)))
    (class_short counts zs) 0 (length counts)
    (λ k low l. let there : k < length counts = omega (arith, l) in
    ap (λ z. unsigned_abs (z -ℤ pos one_weight *ℤ pos (class_size counts k))) (same k there))
