-- Weak duality of a restricted master.
use Rattle.std.proofs.Common.{◌≡◌, ◌≢◌, ◌⊎◌, refl, sym, ap, subst, ◌∙◌, ℕ, zero, suc, ◌+◌, ◌<◌, ◌≤◌, Bool, true, false, List, [], ◌∷◌, map, length, get_or, Some, arith, inl, inr, ⊎_elim}
use Rattle.std.proofs.Math.IntN.{ℤ, pos, negsuc, ◌+ℤ◌, ◌-ℤ◌, ◌*ℤ◌, zero-*ℤ, *ℤ-zero, *ℤ_comm}
use Rattle.std.specs.Prelude.{◌≤ℤ◌, ◌==◌, cond, filter, zip, All, sum_by, unsigned_abs}
use Rattle.std.specs.List.{AllByRecursion, range_with_len}
use Rattle.std.specs.Int.{int_gap}
use Rattle.std.proofs.lemmas.Int.{ints}
use Rattle.std.proofs.lemmas.Bool.{cases_lt}
use Rattle.std.proofs.lemmas.Bool.Decides.{eqb_tells}
use Rattle.std.proofs.lemmas.List.Elements.{All-from_recursion, recursion_from_All}
use Rattle.std.proofs.lemmas.List.Sums.{sum_by-cons}
use Rattle.bp_theory.specs.Sums.{sum_of}
use Rattle.bp_theory.specs.Program.{Meets}
use Rattle.bp_theory.specs.Bound.{side, SignFitsSense}
use Rattle.bp_theory.specs.declared.Sense.{Sense}
use Rattle.bp_theory.specs.declared.Sense.TheVariants.{Le, Ge, Eq, In}
use Rattle.bp_theory.specs.declared.MasterRow.{MasterRow}
use Rattle.bp_theory.proofs.Whole.{mul-add, sub-mul, mul-sub, mul_assoc, le-mul_pos}
use Rattle.bp_theory.proofs.SumLaws.{sum_of-same, sum_of-add, sum_of-sub, sum_of-zero, mul-sum_of, sum_of-mul, sum_of-le}
use Rattle.bp_theory.proofs.KeyLaws.{sum_of-by_key}
use Rattle.bp_theory.proofs.DualityProof.{multiplier_below}
use Rattle.search_laws.specs.declared.Column.{Column}
use Rattle.search_laws.specs.Master.{column_activity, one_weight, multiplier, column_price, AreConvex, weighted, weighted_cost, weighted_activity, class_weight, master_row, class_size, side_miss, row_short, class_short, short, FitsTimes, HaveFittingSigns, IsKnownColumn}
use Rattle.search_laws.specs.Laws.{GapBounds, ShortIsNone}

-- ---- sums over places

-- sums over the numbers of a range, place by place
sum_of-range-le : (f g : ℕ → ℤ) (a n : ℕ) → ((i : ℕ) → a ≤ i → i < a + n → f i ≤ℤ g i) → sum_of f (range_with_len a n) ≤ℤ sum_of g (range_with_len a n)
sum_of-range-le f g a zero h = omega (arith, ints)
sum_of-range-le f g a (suc n) h =
    omega (
      arith,
      ints,
      h a (omega arith) (omega arith),
      sum_of-range-le f g (a + 1) n (λ i l m. h i (omega (arith, l)) (omega (arith, m))),
    )

sum_of-range-same : (f g : ℕ → ℤ) (a n : ℕ) → ((i : ℕ) → a ≤ i → i < a + n → f i ≡ g i) → sum_of f (range_with_len a n) ≡ sum_of g (range_with_len a n)
sum_of-range-same f g a zero h = refl
sum_of-range-same f g a (suc n) h =
    omega (
      arith,
      ints,
      h a (omega arith) (omega arith),
      sum_of-range-same f g (a + 1) n (λ i l m. h i (omega (arith, l)) (omega (arith, m))),
    )

-- ---- prices

-- a column's multipliers times activities, row by row
by_row : (rows : ℕ) (mults : List ℤ) (c : Column) → All (λ e. e.0 < rows) c.acts
    → sum_of (λ e. e.1 *ℤ multiplier mults e.0) c.acts ≡ sum_of (λ i. column_activity c i *ℤ multiplier mults i) (range_with_len 0 rows)
by_row rows mults c known =
    sum_of-by_key (λ e. e.0) (λ e. e.1) (multiplier mults) rows c.acts (recursion_from_All (λ e. e.0 < rows) c.acts known)

-- weighted multipliers times activities, row by row
all_by_row : (rows : ℕ) (mults : List ℤ) (zs : List (Column × ℤ)) → AllByRecursion (λ z. All (λ e. e.0 < rows) z.0.acts) zs
    → sum_of (λ z. sum_of (λ e. e.1 *ℤ multiplier mults e.0) z.0.acts *ℤ z.1) zs
    ≡ sum_of (λ i. multiplier mults i *ℤ weighted_activity zs i) (range_with_len 0 rows)
all_by_row rows mults [] known =
    sym (sum_of-same (λ i. multiplier mults i *ℤ pos 0) (λ i. pos 0) (λ i. *ℤ-zero (multiplier mults i)) (range_with_len 0 rows)
    ∙ sum_of-zero (range_with_len 0 rows))
all_by_row rows mults (z ∷ zs) known =
    let is : List ℕ = range_with_len 0 rows in
    omega (
      arith,
      ints,
      all_by_row rows mults zs known.1,
      ap (λ s. s *ℤ z.1) (by_row rows mults z.0 known.0),
      sum_of-mul z.1 (λ i. column_activity z.0 i *ℤ multiplier mults i) is,
      sum_of-same (λ i. (column_activity z.0 i *ℤ multiplier mults i) *ℤ z.1) (λ i. multiplier mults i *ℤ (column_activity z.0 i *ℤ z.1))
          (λ i. turned (column_activity z.0 i) (multiplier mults i) z.1) is,
      sum_of-same (λ i. multiplier mults i *ℤ (column_activity z.0 i *ℤ z.1 +ℤ weighted_activity zs i))
          (λ i. multiplier mults i *ℤ (column_activity z.0 i *ℤ z.1) +ℤ multiplier mults i *ℤ weighted_activity zs i)
          (λ i. mul-add (multiplier mults i) (column_activity z.0 i *ℤ z.1) (weighted_activity zs i)) is,
      sum_of-add (λ i. multiplier mults i *ℤ (column_activity z.0 i *ℤ z.1)) (λ i. multiplier mults i *ℤ weighted_activity zs i) is,
    )
  where
    turned : (a m y : ℤ) → (a *ℤ m) *ℤ y ≡ m *ℤ (a *ℤ y)
    turned a m y = ap (λ t. t *ℤ y) (*ℤ_comm a m) ∙ sym (mul_assoc m a y)

-- the price of weighted columns
weighted_price : (mults : List ℤ) (zs : List (Column × ℤ))
    → weighted (column_price mults) zs
    ≡ pos one_weight *ℤ weighted_cost zs -ℤ sum_of (λ z. sum_of (λ e. e.1 *ℤ multiplier mults e.0) z.0.acts *ℤ z.1) zs
weighted_price mults zs =
    sum_of-same (λ z. column_price mults z.0 *ℤ z.1)
    (λ z. pos one_weight *ℤ (z.0.cost *ℤ z.1) -ℤ sum_of (λ e. e.1 *ℤ multiplier mults e.0) z.0.acts *ℤ z.1)
    (λ z. each z.0.cost (sum_of (λ e. e.1 *ℤ multiplier mults e.0) z.0.acts) z.1) zs
    ∙ sum_of-sub (λ z. pos one_weight *ℤ (z.0.cost *ℤ z.1)) (λ z. sum_of (λ e. e.1 *ℤ multiplier mults e.0) z.0.acts *ℤ z.1) zs
    ∙ ap (λ s. s -ℤ sum_of (λ z. sum_of (λ e. e.1 *ℤ multiplier mults e.0) z.0.acts *ℤ z.1) zs)
    (sym (mul-sum_of (pos one_weight) (λ z. z.0.cost *ℤ z.1) zs))
  where
    each : (c a y : ℤ) → (pos one_weight *ℤ c -ℤ a) *ℤ y ≡ pos one_weight *ℤ (c *ℤ y) -ℤ a *ℤ y
    each c a y = sub-mul (pos one_weight *ℤ c) a y ∙ ap (λ t. t -ℤ a *ℤ y) (sym (mul_assoc (pos one_weight) c y))

-- ---- least prices

-- a column's least class price is no more than its own
convex_below : (cols : List Column) (mults : List ℤ) (k : ℕ) (v : ℤ) → AllByRecursion (λ z. v ≤ℤ z) (map (column_price mults) (filter (λ (c : Column). c.class == k) cols))
    → AllByRecursion (λ (c : Column). c.class ≡ k → v ≤ℤ column_price mults c) cols
convex_below [] mults k v h = tt
convex_below (c ∷ cols) mults k v h = by (c.class == k) (eqb_tells c.class k) (convex_below cols mults k v) h
  where
    by : (t : Bool) → ((t ≡ true) × (c.class ≡ k)) ⊎ ((t ≡ false) × (c.class ≢ k))
        → (AllByRecursion (λ z. v ≤ℤ z) (map (column_price mults) (filter (λ (d : Column). d.class == k) cols))
        → AllByRecursion (λ (d : Column). d.class ≡ k → v ≤ℤ column_price mults d) cols)
        → AllByRecursion (λ z. v ≤ℤ z) (map (column_price mults) (cond t (c ∷ filter (λ (d : Column). d.class == k) cols) (filter (λ (d : Column). d.class == k) cols)))
        → AllByRecursion (λ (d : Column). d.class ≡ k → v ≤ℤ column_price mults d) (c ∷ cols)
    by true tells rest h = (λ same. h.0, rest h.1)
    by false (inl same) rest h = absurd (cc)
    by false (inr other) rest h = (λ same. absurd (other.1 same), rest h)

-- the least price of a class, by its number
abbrev least_price : List ℤ → ℕ → ℤ
least_price convex k = get_or convex k (pos 0)

-- each column's class has a least price no more than the column's
all_convex_below : (cols : List Column) (row_count classes : ℕ) (mults convex : List ℤ) → All (IsKnownColumn row_count classes) cols → AreConvex cols classes mults convex
    → All (λ (c : Column). least_price convex c.class ≤ℤ column_price mults c) cols
all_convex_below cols row_count classes mults convex known are j d l =
    let c : Column = get_or cols j d in
    let k : ℕ = c.class in
    let v : ℤ = least_price convex k in
    All-from_recursion (λ (e : Column). e.class ≡ k → v ≤ℤ column_price mults e) cols
    (convex_below cols mults k v
    (recursion_from_All (λ z. v ≤ℤ z) (map (column_price mults) (filter (λ (e : Column). e.class == k) cols)) (are.least k (known j d l).class).least))
    j d l refl

-- ---- columns with weights

zip_first : (P : Column → Type 0) (cols : List Column) (ys : List ℤ) → AllByRecursion P cols → AllByRecursion (λ (z : Column × ℤ). P z.0) (zip cols ys)
zip_first P [] ys h = tt
zip_first P (c ∷ cols) [] h = tt
zip_first P (c ∷ cols) (y ∷ ys) h = (h.0, zip_first P cols ys h.1)

-- a factor that isn't negative, on either side
le-mul_nonneg : (y a b : ℤ) → pos 0 ≤ℤ y → a ≤ℤ b → (y *ℤ a) ≤ℤ (b *ℤ y)
le-mul_nonneg (pos n) a b h l = omega (arith, ints, le-mul_pos n a b l, *ℤ_comm b (pos n))
le-mul_nonneg (negsuc n) a b h l = absurd (omega (arith, ints))

least_prices_below : (f g : Column → ℤ) (cols : List Column) (ys : List ℤ) → AllByRecursion (λ c. f c ≤ℤ g c) cols → AllByRecursion (λ y. pos 0 ≤ℤ y) ys
    → AllByRecursion (λ (z : Column × ℤ). (z.1 *ℤ f z.0) ≤ℤ (g z.0 *ℤ z.1)) (zip cols ys)
least_prices_below f g [] ys h n = tt
least_prices_below f g (c ∷ cols) [] h n = tt
least_prices_below f g (c ∷ cols) (y ∷ ys) h n = (le-mul_nonneg y (f c) (g c) n.0 h.0, least_prices_below f g cols ys h.1 n.1)

-- ---- rows

-- a row with its sides times a number
abbrev times_side : ℕ → MasterRow → MasterRow
times_side n r = record { sense = r.sense; low = pos n *ℤ r.low; rhs = pos n *ℤ r.rhs }

-- a side times a number
side-times : (r : MasterRow) (n : ℕ) (m : ℤ)
    → side (record { sense = r.sense; low = pos n *ℤ r.low; rhs = pos n *ℤ r.rhs }) m ≡ pos n *ℤ side r m
side-times r n (pos zero) = refl
side-times r n (pos (suc k)) = refl
side-times r n (negsuc k) = refl

-- a multiplier takes no more from a side times a number than from a sum that meets it
row_below_by : (r : MasterRow) (n : ℕ) (m a : ℤ) → SignFitsSense r.sense m → Meets r.sense (pos n *ℤ r.low) (pos n *ℤ r.rhs) a
    → (pos n *ℤ (m *ℤ side r m)) ≤ℤ (m *ℤ a)
row_below_by r n m a fits meets =
    omega (
      arith,
      ints,
      multiplier_below (Some (times_side n r)) m a fits (λ q e. let same : times_side n r ≡ q = cc in subst (λ (o : MasterRow). Meets o.sense o.low o.rhs a) same meets),
      ap (λ t. m *ℤ t) (side-times r n m),
      turned (pos n) m (side r m),
    )
  where
    turned : (d m s : ℤ) → m *ℤ (d *ℤ s) ≡ d *ℤ (m *ℤ s)
    turned d m s = mul_assoc m d s ∙ ap (λ t. t *ℤ s) (*ℤ_comm m d) ∙ sym (mul_assoc d m s)

row_below : (r : MasterRow) (n : ℕ) (m a : ℤ) → (m ≡ pos 0) ⊎ SignFitsSense r.sense m → Meets r.sense (pos n *ℤ r.low) (pos n *ℤ r.rhs) a
    → (pos n *ℤ (m *ℤ side r m)) ≤ℤ (m *ℤ a)
row_below r n m a (inr fits) meets = row_below_by r n m a fits meets
row_below r n m a (inl none) meets =
    omega (
      arith,
      ints,
      ap (λ t. pos n *ℤ (t *ℤ side r m)) none,
      ap (λ t. pos n *ℤ t) (zero-*ℤ (side r m)),
      *ℤ-zero (pos n),
      ap (λ t. t *ℤ a) none,
      zero-*ℤ a,
    )

-- multipliers take no more from the sides times a number than from weighted activities that meet them
rows_below : (rows : List MasterRow) (counts : List ℕ) (mults : List ℤ) (n : ℕ) (zs : List (Column × ℤ)) → HaveFittingSigns rows mults → FitsTimes n rows counts zs
    → (pos n *ℤ sum_of (λ i. multiplier mults i *ℤ side (master_row rows i) (multiplier mults i)) (range_with_len 0 (length rows)))
    ≤ℤ sum_of (λ i. multiplier mults i *ℤ weighted_activity zs i) (range_with_len 0 (length rows))
rows_below rows counts mults n zs signs fits =
    omega (
      arith,
      ints,
      mul-sum_of (pos n) (λ i. multiplier mults i *ℤ side (master_row rows i) (multiplier mults i)) (range_with_len 0 (length rows)),
      sum_of-range-le
          (λ i. pos n *ℤ (multiplier mults i *ℤ side (master_row rows i) (multiplier mults i)))
          (λ i. multiplier mults i *ℤ weighted_activity zs i)
          0
          (length rows)
          (λ i low l. let there : i < length rows = omega (arith, l) in
          row_below (master_row rows i) n (multiplier mults i) (weighted_activity zs i) (signs i there) (fits.activities i there)),
    )

-- ---- classes

-- least prices times the weights of their classes, where these are counts times a number
classes_together : (rows : List MasterRow) (counts : List ℕ) (convex : List ℤ) (n : ℕ) (zs : List (Column × ℤ)) → FitsTimes n rows counts zs
    → AllByRecursion (λ (z : Column × ℤ). z.0.class < length counts) zs
    → sum_of (λ (z : Column × ℤ). z.1 *ℤ least_price convex z.0.class) zs
    ≡ pos n *ℤ sum_of (λ k. pos (class_size counts k) *ℤ least_price convex k) (range_with_len 0 (length counts))
classes_together rows counts convex n zs fits known =
    sum_of-by_key (λ (z : Column × ℤ). z.0.class) (λ (z : Column × ℤ). z.1) (least_price convex) (length counts) zs known
    ∙ sum_of-range-same (λ k. class_weight zs k *ℤ least_price convex k) (λ k. pos n *ℤ (pos (class_size counts k) *ℤ least_price convex k)) 0 (length counts)
    (λ k low l. let there : k < length counts = omega (arith, l) in
    ap (λ t. t *ℤ least_price convex k) (fits.classes k there) ∙ sym (mul_assoc (pos n) (pos (class_size counts k)) (least_price convex k)))
    ∙ sym (mul-sum_of (pos n) (λ k. pos (class_size counts k) *ℤ least_price convex k) (range_with_len 0 (length counts)))

-- the numbers of the law, put together
put_together : (d own others rows classes acts least price : ℤ) → (d *ℤ rows) ≤ℤ acts → least ≡ d *ℤ classes → least ≤ℤ price → price ≡ others -ℤ acts
    → (d *ℤ own) ≤ℤ (others +ℤ d *ℤ (own -ℤ (rows +ℤ classes)))
put_together d own others rows classes acts least price h e l f =
    omega (arith, ints, h, e, l, f, mul-sub d own (rows +ℤ classes), mul-add d rows classes)

pub gap_bounds_lem : GapBounds
gap_bounds_lem cols rows counts weights mults convex known signs are n others nonneg fits =
    let zs : List (Column × ℤ) = zip cols others in
    let known' : AllByRecursion (IsKnownColumn (length rows) (length counts)) cols = recursion_from_All (IsKnownColumn (length rows) (length counts)) cols known in
    put_together (pos n) (weighted_cost (zip cols weights)) (pos one_weight *ℤ weighted_cost zs)
    (sum_of (λ i. multiplier mults i *ℤ side (master_row rows i) (multiplier mults i)) (range_with_len 0 (length rows)))
    (sum_of (λ k. pos (class_size counts k) *ℤ least_price convex k) (range_with_len 0 (length counts)))
    (sum_of (λ i. multiplier mults i *ℤ weighted_activity zs i) (range_with_len 0 (length rows)))
    (sum_of (λ (z : Column × ℤ). z.1 *ℤ least_price convex z.0.class) zs)
    (weighted (column_price mults) zs)
    (rows_below rows counts mults n zs signs fits)
    (classes_together rows counts convex n zs fits
    (zip_first (λ (c : Column). c.class < length counts) cols others (classes_known cols known')))
    (sum_of-le (λ (z : Column × ℤ). z.1 *ℤ least_price convex z.0.class) (λ (z : Column × ℤ). column_price mults z.0 *ℤ z.1) zs
    (least_prices_below (λ (c : Column). least_price convex c.class) (column_price mults) cols others
    (recursion_from_All (λ (c : Column). least_price convex c.class ≤ℤ column_price mults c) cols (all_convex_below cols (length rows) (length counts) mults convex known are))
    (recursion_from_All (λ y. pos 0 ≤ℤ y) others nonneg)))
    (weighted_price mults zs
    ∙ ap (λ t. pos one_weight *ℤ weighted_cost zs -ℤ t) (all_by_row (length rows) mults zs
    (zip_first (λ (c : Column). All (λ e. e.0 < length rows) c.acts) cols others (rows_known cols known'))))
  where
    classes_known : (cs : List Column) → AllByRecursion (IsKnownColumn (length rows) (length counts)) cs → AllByRecursion (λ (c : Column). c.class < length counts) cs
    classes_known [] h = tt
    classes_known (c ∷ cs) h = (h.0.class, classes_known cs h.1)

    rows_known : (cs : List Column) → AllByRecursion (IsKnownColumn (length rows) (length counts)) cs → AllByRecursion (λ (c : Column). All (λ e. e.0 < length rows) c.acts) cs
    rows_known [] h = tt
    rows_known (c ∷ cs) h = (h.0.rows, rows_known cs h.1)

-- ---- what is short

gap_none : (a b : ℤ) → int_gap a b ≡ 0 → b ≤ℤ a
gap_none a b h = grind (arith, ints)

none_gap : (a b : ℤ) → b ≤ℤ a → int_gap a b ≡ 0
none_gap a b h = grind (arith, ints)

none_missed : (s : Sense) (low rhs a : ℤ) → side_miss s low rhs a ≡ 0 → Meets s low rhs a
none_missed Le low rhs a h = gap_none rhs a h
none_missed Ge low rhs a h = gap_none a low h
none_missed Eq low rhs a h = (gap_none a low (omega (arith, h)), gap_none rhs a (omega (arith, h)))
none_missed In low rhs a h = (gap_none a low (omega (arith, h)), gap_none rhs a (omega (arith, h)))

missed_none : (s : Sense) (low rhs a : ℤ) → Meets s low rhs a → side_miss s low rhs a ≡ 0
missed_none Le low rhs a h = none_gap rhs a h
missed_none Ge low rhs a h = none_gap a low h
missed_none Eq low rhs a h = omega (arith, none_gap a low h.0, none_gap rhs a h.1)
missed_none In low rhs a h = omega (arith, none_gap a low h.0, none_gap rhs a h.1)

apart_none : (a b : ℤ) → unsigned_abs (a -ℤ b) ≡ 0 → a ≡ b
apart_none a b h = omega (arith, ints)

none_apart : (a b : ℤ) → a ≡ b → unsigned_abs (a -ℤ b) ≡ 0
none_apart a b h = omega (arith, ints)

-- a sum over a range is 0 exactly where each number is
each_none : (f : ℕ → ℕ) (a n : ℕ) → sum_by f (range_with_len a n) ≡ 0 → (i : ℕ) → a ≤ i → i < a + n → f i ≡ 0
each_none f a zero h i low l = absurd (omega arith)
each_none f a (suc n) h i low l = ⊎_elim
    (λ same. subst (λ j. f j ≡ 0) same (omega (arith, h, sum_by-cons f a (range_with_len (a + 1) n))))
    (λ later. each_none f (a + 1) n (omega (arith, h, sum_by-cons f a (range_with_len (a + 1) n))) i (omega (arith, later)) (omega (arith, l)))
    (split a i low)
  where
    split : (a i : ℕ) → a ≤ i → (a ≡ i) ⊎ (a + 1 ≤ i)
    split a i l = ⊎_elim (λ less. inr (omega (arith, less))) (λ more. inl (omega (arith, more, l))) (cases_lt a i)

none_together : (f : ℕ → ℕ) (a n : ℕ) → ((i : ℕ) → a ≤ i → i < a + n → f i ≡ 0) → sum_by f (range_with_len a n) ≡ 0
none_together f a zero h = refl
none_together f a (suc n) h =
    omega (
      arith,
      sum_by-cons f a (range_with_len (a + 1) n),
      h a (omega arith) (omega arith),
      none_together f (a + 1) n (λ i low l. h i (omega (arith, low)) (omega (arith, l))),
    )

short_fits : (rows : List MasterRow) (counts : List ℕ) (zs : List (Column × ℤ)) → short rows counts zs ≡ 0 → FitsTimes one_weight rows counts zs
short_fits rows counts zs h = record {
  activities = λ i l.
      none_missed (master_row rows i).sense (pos one_weight *ℤ (master_row rows i).low) (pos one_weight *ℤ (master_row rows i).rhs) (weighted_activity zs i)
      (each_none (row_short rows zs) 0 (length rows) (omega (arith, h)) i (omega arith) (omega (arith, l)));
  classes = λ k l.
      apart_none (class_weight zs k) (pos one_weight *ℤ pos (class_size counts k))
      (each_none (class_short counts zs) 0 (length counts) (omega (arith, h)) k (omega arith) (omega (arith, l)));
}

fits_short : (rows : List MasterRow) (counts : List ℕ) (zs : List (Column × ℤ)) → FitsTimes one_weight rows counts zs → short rows counts zs ≡ 0
fits_short rows counts zs fits =
    omega (
      arith,
      none_together (row_short rows zs) 0 (length rows)
          (λ i low l. let there : i < length rows = omega (arith, l) in
          missed_none (master_row rows i).sense (pos one_weight *ℤ (master_row rows i).low) (pos one_weight *ℤ (master_row rows i).rhs) (weighted_activity zs i)
          (fits.activities i there)),
      none_together (class_short counts zs) 0 (length counts)
          (λ k low l. let there : k < length counts = omega (arith, l) in
          none_apart (class_weight zs k) (pos one_weight *ℤ pos (class_size counts k)) (fits.classes k there)),
    )

pub short_is_none_lem : ShortIsNone
short_is_none_lem rows counts zs = (short_fits rows counts zs, fits_short rows counts zs)
