-- Whole weights spread over blocks give a feasible point.
use Rattle.std.proofs.Common.{◌≡◌, ◌≢◌, ◌⊎◌, refl, sym, ap, subst, ◌∙◌, ℕ, zero, suc, ◌+◌, ◌<◌, ◌≤◌, Bool, true, false, List, [], ◌∷◌, ◌++◌, map, length, take, get_or, replicate, Option, Some, None, arith, inl, inr, ⊎_elim}
use Rattle.std.proofs.Math.IntN.{ℤ, pos, ◌+ℤ◌, ◌*ℤ◌, zero-*ℤ}
use Rattle.std.specs.Prelude.{◌==◌, if◌then◌else◌, cond, filter, count_by, flat_map, option_map, All, Contains}
use Rattle.std.specs.List.{AllByRecursion, range_with_len}
use Rattle.std.proofs.lemmas.Int.{ints}
use Rattle.std.proofs.lemmas.Bool.Decides.{eqb_tells}
use Rattle.std.proofs.lemmas.List.{take_all, get_or-map, length-map}
use Rattle.std.proofs.lemmas.List.FromFn.{fill_by_all}
use Rattle.std.proofs.lemmas.List.Sums.{count_by_more_yes, count_by_more_no, sum_by-take-le}
use Rattle.std.proofs.lemmas.List.Elements.{All-contains, All-from_recursion, recursion_from_All}
use Rattle.bp_theory.specs.Sums.{sum_of, sum_at, dot}
use Rattle.bp_theory.specs.Program.{Program, IsFeasible, IsWithin, Meets, MeetsRow, activity, cost, value_at, span_at}
use Rattle.bp_theory.specs.Blocking.{Copy, Block, Blocking, AddsUp, Mirrors, coef_in, restriction, row_at, all_copies, sides_of}
use Rattle.bp_theory.specs.Bound.{IsPoint, spans_of}
use Rattle.bp_theory.specs.Classes.{IsSame}
use Rattle.bp_theory.specs.Trees.{IsSubzone}
use Rattle.bp_theory.specs.declared.Sense.{Sense}
use Rattle.bp_theory.specs.declared.Sense.TheVariants.{Le, Ge, Eq, In}
use Rattle.bp_theory.specs.declared.Span.{Span}
use Rattle.bp_theory.specs.declared.Term.{Term}
use Rattle.bp_theory.specs.declared.Row.{Row}
use Rattle.bp_theory.specs.declared.MasterRow.{MasterRow}
use Rattle.bp_theory.proofs.Whole.{mul-add, add-mul, mul_assoc}
use Rattle.bp_theory.proofs.SumLaws.{sum_of_more, sum_of-same, sum_of-add, sum_of-map, sum_of-flat_map, sum_of-filter, sum_of_swap, mul-sum_of, dot-map-map, sum_of-zero}
use Rattle.bp_theory.proofs.KeyLaws.{sum_of-pick, sum_of-same_keys}
use Rattle.bp_theory.proofs.FaithProof.{activity_of_places}
use Rattle.bp_theory.proofs.ZipLaws.{AllZip_at, AllZip-from_places}
use Rattle.bp_theory.proofs.ShrinkProof.{subspan_at}
use Rattle.bp_theory.proofs.DecompositionProof.{get_or-map_past}
use Rattle.search_laws.specs.declared.UsedColumn.{UsedColumn}
use Rattle.search_laws.specs.Master.{one_weight}
use Rattle.search_laws.specs.Spread.{block_at, class_at, class_blocks, AreClasses, IsUsed, times, IsWhole, class_points, rank, block_point, IsSpread, used_value, used_total, MeetOwnRows, HasEachRow, HasEachVariable}
use Rattle.search_laws.specs.Laws.{SpreadFits}

-- ---- sums

-- a sum, place by place
by_place : {X : Type 0} (f : X → ℤ) (xs : List X) (d : X) → sum_of f xs ≡ sum_of (λ j. f (get_or xs j d)) (range_with_len 0 (length xs))
by_place f xs d =
    ap (sum_of f) (fill_by_all (λ j. get_or xs j d) xs (length xs) d refl (λ k l. refl))
    ∙ sum_of-map f (λ j. get_or xs j d) (range_with_len 0 (length xs))

range_more : (f : ℕ → ℤ) (a n : ℕ) → sum_of f (range_with_len a (suc n)) ≡ sum_of f (range_with_len a n) +ℤ f (a + n)
range_more f a zero = let e : a + 0 ≡ a = omega arith in omega (arith, ints, ap f e)
range_more f a (suc n) = let e : a + 1 + n ≡ a + suc n = omega arith in omega (arith, ints, range_more f (a + 1) n, ap f e)

range_same : (f g : ℕ → ℤ) (a n : ℕ) → ((i : ℕ) → a ≤ i → i < a + n → f i ≡ g i) → sum_of f (range_with_len a n) ≡ sum_of g (range_with_len a n)
range_same f g a zero h = refl
range_same f g a (suc n) h =
    omega (arith, ints, h a (omega arith) (omega arith), range_same f g (a + 1) n (λ i l m. h i (omega (arith, l)) (omega (arith, m))))

-- the one term of a number
pick : (f : ℕ → ℤ) (c n : ℕ) → c < n → sum_of (λ k. if c == k then f k else pos 0) (range_with_len 0 n) ≡ f c
pick f c n l =
    sum_of-same (λ k. if c == k then f k else pos 0) (λ k. (if c == k then pos 1 else pos 0) *ℤ f k) (λ k. by (c == k) (f k)) (range_with_len 0 n)
    ∙ sum_of-pick f (pos 1) c 0 n (omega arith) (omega (arith, l))
    ∙ one (f c)
  where
    one : (z : ℤ) → pos 1 *ℤ z ≡ z
    one z = omega (arith, ints)

    by : (t : Bool) (z : ℤ) → (if t then z else pos 0) ≡ (if t then pos 1 else pos 0) *ℤ z
    by true z = omega (arith, ints)
    by false z = sym (zero-*ℤ z)

-- ---- dealing points out to blocks

-- how many of a class are there, one block further
count_more : (classes : List ℕ) (n k : ℕ) → n < length classes
    → count_by (λ c. c == k) (take (n + 1) classes) ≡ count_by (λ c. c == k) (take n classes) + (if class_at classes n == k then 1 else 0)
count_more classes n k l = ⊎_elim
    (λ same. count_by_more_yes (λ c. c == k) classes n 0 l same.0
    ∙ ap {B = ℕ} (λ t. count_by (λ c. c == k) (take n classes) + (if t then 1 else 0)) (sym same.0))
    (λ other. count_by_more_no (λ c. c == k) classes n 0 l other.0
    ∙ add_none (count_by (λ c. c == k) (take n classes))
    ∙ ap {B = ℕ} (λ t. count_by (λ c. c == k) (take n classes) + (if t then 1 else 0)) (sym other.0))
    (eqb_tells (class_at classes n) k)
  where
    add_none : (m : ℕ) → m ≡ m + 0
    add_none m = omega arith

-- a block's rank is below the number of its class's blocks
rank_below : (classes : List ℕ) (j : ℕ) → j < length classes → rank classes j < class_blocks classes (class_at classes j)
rank_below classes j l =
    let k : ℕ = class_at classes j in
    omega (
      arith,
      count_more classes j k l,
      ap {B = ℕ} (λ t. if t then 1 else 0) (itself k),
      sum_by-take-le (λ c. cond (c == k) 1 0) classes (j + 1),
    )
  where
    itself : (k : ℕ) → (k == k) ≡ true
    itself k = ⊎_elim (λ same. same.0) (λ other. absurd (other.1 refl)) (eqb_tells k k)

-- what the first blocks add up to is what the first points of each class add up to
dealt : {Y : Type 0} (h : ℕ → Y → ℤ) (points : ℕ → List Y) (d : Y) (classes : List ℕ) (m : ℕ) → All (λ c. c < m) classes
    → ((j : ℕ) → j < length classes → rank classes j < length (points (class_at classes j)))
    → (n : ℕ) → n ≤ length classes
    → sum_of (λ j. h (class_at classes j) (get_or (points (class_at classes j)) (rank classes j) d)) (range_with_len 0 n)
    ≡ sum_of (λ k. sum_of (h k) (take (count_by (λ c. c == k) (take n classes)) (points k))) (range_with_len 0 m)
dealt h points d classes m known enough zero l = sym (sum_of-same _ (λ k. pos 0) (λ k. refl) (range_with_len 0 m) ∙ sum_of-zero (range_with_len 0 m))
dealt h points d classes m known enough (suc n) l =
    let there : n < length classes = omega (arith, l) in
    let c : ℕ = class_at classes n in
    let z : ℤ = h c (get_or (points c) (rank classes n) d) in
    let now : ℕ → ℤ = λ k. sum_of (h k) (take (count_by (λ e. e == k) (take n classes)) (points k)) in
    let next : ℕ → ℤ = λ k. sum_of (h k) (take (count_by (λ e. e == k) (take (suc n) classes)) (points k)) in
    range_more (λ j. h (class_at classes j) (get_or (points (class_at classes j)) (rank classes j) d)) 0 n
    ∙ ap (λ i. sum_of (λ j. h (class_at classes j) (get_or (points (class_at classes j)) (rank classes j) d)) (range_with_len 0 n)
    +ℤ h (class_at classes i) (get_or (points (class_at classes i)) (rank classes i) d)) (none n)
    ∙ ap (λ s. s +ℤ z) (dealt h points d classes m known enough n (omega (arith, l)))
    ∙ ap (λ s. sum_of now (range_with_len 0 m) +ℤ s) (sym (pick (λ k. h k (get_or (points k) (rank classes n) d)) c m (known n 0 there)))
    ∙ sym (sum_of-add now (λ k. if c == k then h k (get_or (points k) (rank classes n) d) else pos 0) (range_with_len 0 m))
    ∙ sum_of-same (λ k. now k +ℤ (if c == k then h k (get_or (points k) (rank classes n) d) else pos 0)) next
    (λ k. sym (step k there (eqb_tells (class_at classes n) k))) (range_with_len 0 m)
  where
    none : (n : ℕ) → 0 + n ≡ n
    none n = omega arith

    one_more : (n : ℕ) → suc n ≡ n + 1
    one_more n = omega arith

    step : (k : ℕ) → n < length classes → (((class_at classes n == k) ≡ true) × (class_at classes n ≡ k)) ⊎ (((class_at classes n == k) ≡ false) × (class_at classes n ≢ k))
        → sum_of (h k) (take (count_by (λ e. e == k) (take (suc n) classes)) (points k))
        ≡ sum_of (h k) (take (count_by (λ e. e == k) (take n classes)) (points k))
        +ℤ (if class_at classes n == k then h k (get_or (points k) (rank classes n) d) else pos 0)
    step k there (inl same) =
        let old : ℕ = count_by (λ e. e == k) (take n classes) in
        let is : rank classes n ≡ old = ap (λ e. count_by (λ c. c == e) (take n classes)) same.1 in
        let room : old < length (points k) = subst (λ i. i < length (points k)) is (subst (λ e. rank classes n < length (points e)) same.1 (enough n there)) in
        ap (λ i. sum_of (h k) (take i (points k)))
        (ap (λ i. count_by (λ e. e == k) (take i classes)) (one_more n) ∙ count_more classes n k there ∙ ap {B = ℕ} (λ t. old + (if t then 1 else 0)) same.0)
        ∙ sum_of_more (h k) (points k) old d room
        ∙ ap (λ i. sum_of (h k) (take old (points k)) +ℤ h k (get_or (points k) i d)) (sym is)
        ∙ ap (λ t. sum_of (h k) (take old (points k)) +ℤ (if t then h k (get_or (points k) (rank classes n) d) else pos 0)) (sym same.0)
    step k there (inr other) =
        let old : ℕ = count_by (λ e. e == k) (take n classes) in
        ap (λ i. sum_of (h k) (take i (points k)))
        (ap (λ i. count_by (λ e. e == k) (take i classes)) (one_more n) ∙ count_more classes n k there ∙ ap {B = ℕ} (λ t. old + (if t then 1 else 0)) other.0 ∙ less_none old)
        ∙ add_none (sum_of (h k) (take old (points k)))
        ∙ ap (λ t. sum_of (h k) (take old (points k)) +ℤ (if t then h k (get_or (points k) (rank classes n) d) else pos 0)) (sym other.0)
      where
        less_none : (m : ℕ) → m + 0 ≡ m
        less_none m = omega arith

        add_none : (z : ℤ) → z ≡ z +ℤ pos 0
        add_none z = omega (arith, ints)

-- all blocks together
all_dealt : {Y : Type 0} (h : ℕ → Y → ℤ) (points : ℕ → List Y) (d : Y) (classes : List ℕ) (m : ℕ) → All (λ c. c < m) classes
    → ((k : ℕ) → k < m → length (points k) ≡ class_blocks classes k)
    → sum_of (λ j. h (class_at classes j) (get_or (points (class_at classes j)) (rank classes j) d)) (range_with_len 0 (length classes))
    ≡ sum_of (λ k. sum_of (h k) (points k)) (range_with_len 0 m)
all_dealt h points d classes m known sizes =
    dealt h points d classes m known
    (λ j l. subst (λ i. rank classes j < i) (sym (sizes (class_at classes j) (known j 0 l))) (rank_below classes j l))
    (length classes) (omega arith)
    ∙ range_same (λ k. sum_of (h k) (take (count_by (λ c. c == k) (take (length classes) classes)) (points k))) (λ k. sum_of (h k) (points k)) 0 m
    (λ k low l. ap (sum_of (h k)) (whole k (omega (arith, l))))
  where
    whole : (k : ℕ) → k < m → take (count_by (λ c. c == k) (take (length classes) classes)) (points k) ≡ points k
    whole k l =
        let same : count_by (λ c. c == k) (take (length classes) classes) ≡ class_blocks classes k =
        ap (λ (cs : List ℕ). count_by (λ c. c == k) cs) (take_all (length classes) classes (omega arith)) in
        take_all (count_by (λ c. c == k) (take (length classes) classes)) (points k) (omega (arith, same, sizes k l))

-- ---- used columns

sum_of-replicate : {X : Type 0} (g : X → ℤ) (n : ℕ) (x : X) → sum_of g (replicate n x) ≡ pos n *ℤ g x
sum_of-replicate g zero x = sym (zero-*ℤ (g x))
sum_of-replicate g (suc n) x = omega (arith, ints, sum_of-replicate g n x, add-mul (pos 1) (pos n) (g x), one (g x), ap (λ z. z *ℤ g x) (next n))
  where
    one : (z : ℤ) → pos 1 *ℤ z ≡ z
    one z = omega (arith, ints)

    next : (n : ℕ) → pos (suc n) ≡ pos 1 +ℤ pos n
    next n = omega (arith, ints)

-- the points of a class, by its columns
class_sum : (g : List ℤ → ℤ) (used : List UsedColumn) (k : ℕ)
    → sum_of g (class_points used k) ≡ sum_of (λ u. if u.class == k then pos (times u) *ℤ g u.point else pos 0) used
class_sum g used k =
    sum_of-flat_map g (λ (u : UsedColumn). replicate (times u) u.point) (filter (λ (u : UsedColumn). u.class == k) used)
    ∙ sum_of-same (λ (u : UsedColumn). sum_of g (replicate (times u) u.point)) (λ u. pos (times u) *ℤ g u.point)
    (λ u. sum_of-replicate g (times u) u.point) (filter (λ (u : UsedColumn). u.class == k) used)
    ∙ sum_of-filter (λ (u : UsedColumn). pos (times u) *ℤ g u.point) (λ u. u.class == k) used

sum_of-ones : {X : Type 0} (xs : List X) → sum_of (λ (x : X). pos 1) xs ≡ pos (length xs)
sum_of-ones [] = refl
sum_of-ones (x ∷ xs) = omega (arith, ints, sum_of-ones xs)

-- sums of terms that agree at each element
same_at_each : {X : Type 0} (f g : X → ℤ) (xs : List X) → AllByRecursion (λ x. f x ≡ g x) xs → sum_of f xs ≡ sum_of g xs
same_at_each f g [] h = refl
same_at_each f g (x ∷ xs) h = omega (arith, ints, h.0, same_at_each f g xs h.1)

each_from : {X : Type 0} (P Q : X → Type 0) → ((x : X) → P x → Q x) → (xs : List X) → AllByRecursion P xs → AllByRecursion Q xs
each_from P Q h [] all = tt
each_from P Q h (x ∷ xs) all = (h x all.0, each_from P Q h xs all.1)

-- a class has as many points as blocks
sizes_agree : (used : List UsedColumn) (n k : ℕ) → AllByRecursion IsWhole used
    → sum_at (λ (u : UsedColumn). u.class) (λ u. u.weight) used k ≡ pos one_weight *ℤ pos n → length (class_points used k) ≡ n
sizes_agree used n k whole e =
    cancel (length (class_points used k)) n
    (ap (λ z. pos one_weight *ℤ z) (sym (sum_of-ones (class_points used k)) ∙ class_sum (λ q. pos 1) used k)
    ∙ mul-sum_of (pos one_weight) (λ (u : UsedColumn). if u.class == k then pos (times u) *ℤ pos 1 else pos 0) used
    ∙ same_at_each (λ (u : UsedColumn). pos one_weight *ℤ (if u.class == k then pos (times u) *ℤ pos 1 else pos 0)) (λ u. if u.class == k then u.weight else pos 0) used
    (each_from IsWhole (λ (u : UsedColumn). pos one_weight *ℤ (if u.class == k then pos (times u) *ℤ pos 1 else pos 0) ≡ (if u.class == k then u.weight else pos 0))
    (λ u h. by (u.class == k) (times u) u.weight h) used whole)
    ∙ e)
  where
    cancel : (a b : ℕ) → pos one_weight *ℤ pos a ≡ pos one_weight *ℤ pos b → a ≡ b
    cancel a b h = omega (arith, ints, h)

    by : (t : Bool) (n : ℕ) (w : ℤ) → w ≡ pos one_weight *ℤ pos n → pos one_weight *ℤ (if t then pos n *ℤ pos 1 else pos 0) ≡ (if t then w else pos 0)
    by true n w h = omega (arith, ints, h)
    by false n w h = omega (arith, ints)

-- all points together, by columns
points_together : (h : ℕ → List ℤ → ℤ) (used : List UsedColumn) (m : ℕ) → AllByRecursion (λ (u : UsedColumn). u.class < m) used
    → sum_of (λ k. sum_of (h k) (class_points used k)) (range_with_len 0 m) ≡ sum_of (λ (u : UsedColumn). pos (times u) *ℤ h u.class u.point) used
points_together h used m known =
    sum_of-same (λ k. sum_of (h k) (class_points used k)) (λ k. sum_of (λ (u : UsedColumn). if u.class == k then pos (times u) *ℤ h k u.point else pos 0) used)
    (λ k. class_sum (h k) used k) (range_with_len 0 m)
    ∙ sum_of_swap (λ k (u : UsedColumn). if u.class == k then pos (times u) *ℤ h k u.point else pos 0) (range_with_len 0 m) used
    ∙ same_at_each (λ (u : UsedColumn). sum_of (λ k. if u.class == k then pos (times u) *ℤ h k u.point else pos 0) (range_with_len 0 m))
    (λ u. pos (times u) *ℤ h u.class u.point) used
    (each_from (λ (u : UsedColumn). u.class < m)
    (λ (u : UsedColumn). sum_of (λ k. if u.class == k then pos (times u) *ℤ h k u.point else pos 0) (range_with_len 0 m) ≡ pos (times u) *ℤ h u.class u.point)
    (λ u l. pick (λ k. pos (times u) *ℤ h k u.point) u.class m l) used known)

-- ---- a sum over copies

-- by blocks
copies_by_block : (b : Blocking) (x : List ℤ) (f : Copy → ℤ)
    → sum_of (λ c. f c *ℤ value_at x c.var) (all_copies b)
    ≡ sum_of (λ j. dot (map f (block_at b j).copies) (restriction x (block_at b j))) (range_with_len 0 (length b.blocks))
copies_by_block b x f =
    sum_of-flat_map (λ c. f c *ℤ value_at x c.var) (λ (k : Block). k.copies) b.blocks
    ∙ by_place (λ (k : Block). sum_of (λ c. f c *ℤ value_at x c.var) k.copies) b.blocks (record { copies = []; rows = [] })
    ∙ sum_of-same (λ j. sum_of (λ c. f c *ℤ value_at x c.var) (block_at b j).copies) (λ j. dot (map f (block_at b j).copies) (restriction x (block_at b j)))
    (λ j. sym (dot-map-map f (λ c. value_at x c.var) (block_at b j).copies)) (range_with_len 0 (length b.blocks))

-- and by used columns, in units
copies_by_column : (zone : List Span) (b : Blocking) (classes firsts : List ℕ) (used : List UsedColumn) (x : List ℤ) (f : Copy → ℤ)
    → AreClasses zone b classes firsts → All (IsUsed zone b firsts) used → IsSpread b classes firsts used x
    → ((k l : Block) → IsSame zone k l → map f k.copies ≡ map f l.copies)
    → pos one_weight *ℤ sum_of (λ c. f c *ℤ value_at x c.var) (all_copies b) ≡ used_total b firsts f used
copies_by_column zone b classes firsts used x f are known spread same =
    let h : ℕ → List ℤ → ℤ = λ k y. dot (map f (block_at b (class_at firsts k)).copies) y in
    let used' : AllByRecursion (IsUsed zone b firsts) used = recursion_from_All (IsUsed zone b firsts) used known in
    let whole : AllByRecursion IsWhole used = recursion_from_All IsWhole used spread.whole in
    ap (λ z. pos one_weight *ℤ z)
    (copies_by_block b x f
    ∙ range_same (λ j. dot (map f (block_at b j).copies) (restriction x (block_at b j))) (λ j. h (class_at classes j) (block_point used classes j)) 0 (length b.blocks)
    (λ j low l. let there : j < length b.blocks = omega (arith, l) in
    ap (λ (cs : List ℤ). dot cs (restriction x (block_at b j)))
    (sym (same (block_at b (class_at firsts (class_at classes j))) (block_at b j) (are.same j there)))
    ∙ ap (h (class_at classes j)) (spread.agrees j there))
    ∙ ap (λ n. sum_of (λ j. h (class_at classes j) (block_point used classes j)) (range_with_len 0 n)) (sym are.each)
    ∙ all_dealt h (class_points used) [] classes (length firsts) are.known
    (λ k l. sizes_agree used (class_blocks classes k) k whole (spread.sizes k l))
    ∙ points_together h used (length firsts) (each_from (IsUsed zone b firsts) (λ (u : UsedColumn). u.class < length firsts) (λ u g. g.class) used used'))
    ∙ mul-sum_of (pos one_weight) (λ (u : UsedColumn). pos (times u) *ℤ h u.class u.point) used
    ∙ same_at_each (λ (u : UsedColumn). pos one_weight *ℤ (pos (times u) *ℤ h u.class u.point)) (λ u. u.weight *ℤ used_value b firsts f u) used
    (each_from IsWhole (λ (u : UsedColumn). pos one_weight *ℤ (pos (times u) *ℤ h u.class u.point) ≡ u.weight *ℤ used_value b firsts f u)
    (λ u w. mul_assoc (pos one_weight) (pos (times u)) (h u.class u.point) ∙ ap (λ z. z *ℤ h u.class u.point) (sym w)) used whole)

-- ---- points of blocks

-- each point of a class is one of its first block
all_points : (zone : List Span) (b : Blocking) (firsts : List ℕ) (k : ℕ) (used : List UsedColumn) → AllByRecursion (IsUsed zone b firsts) used
    → AllByRecursion (IsPoint (block_at b (class_at firsts k)).rows (spans_of zone (block_at b (class_at firsts k)))) (class_points used k)
all_points zone b firsts k [] known = tt
all_points zone b firsts k (u ∷ used) known = by (u.class == k) (eqb_tells u.class k) (all_points zone b firsts k used known.1)
  where
    all_same : {X : Type 0} (P : X → Type 0) (n : ℕ) (x : X) (rest : List X) → P x → AllByRecursion P rest → AllByRecursion P (replicate n x ++ rest)
    all_same P zero x rest h all = all
    all_same P (suc n) x rest h all = (h, all_same P n x rest h all)

    by : (t : Bool) → ((t ≡ true) × (u.class ≡ k)) ⊎ ((t ≡ false) × (u.class ≢ k))
        → AllByRecursion (IsPoint (block_at b (class_at firsts k)).rows (spans_of zone (block_at b (class_at firsts k)))) (class_points used k)
        → AllByRecursion (IsPoint (block_at b (class_at firsts k)).rows (spans_of zone (block_at b (class_at firsts k))))
        (flat_map (λ (v : UsedColumn). replicate (times v) v.point) (cond t (u ∷ filter (λ (v : UsedColumn). v.class == k) used) (filter (λ (v : UsedColumn). v.class == k) used)))
    by true (inl same) rest =
        all_same (IsPoint (block_at b (class_at firsts k)).rows (spans_of zone (block_at b (class_at firsts k)))) (times u) u.point (class_points used k)
        (subst (λ c. IsPoint (block_at b (class_at firsts c)).rows (spans_of zone (block_at b (class_at firsts c))) u.point) same.1 known.0.point) rest
    by true (inr other) rest = absurd (cc)
    by false tells rest = rest

-- the numbers of a spread point at a block are a point of the block
block_is_met : (zone : List Span) (b : Blocking) (classes firsts : List ℕ) (used : List UsedColumn) (x : List ℤ)
    → AreClasses zone b classes firsts → All (IsUsed zone b firsts) used → IsSpread b classes firsts used x
    → (j : ℕ) → j < length b.blocks → IsPoint (block_at b j).rows (spans_of zone (block_at b j)) (restriction x (block_at b j))
block_is_met zone b classes firsts used x are known spread j l =
    let k : ℕ = class_at classes j in
    let first : Block = block_at b (class_at firsts k) in
    let there : j < length classes = omega (arith, l, are.each) in
    let sizes : length (class_points used k) ≡ class_blocks classes k =
    sizes_agree used (class_blocks classes k) k (recursion_from_All IsWhole used spread.whole) (spread.sizes k (are.known j 0 there)) in
    let of_first : IsPoint first.rows (spans_of zone first) (block_point used classes j) =
    All-from_recursion (IsPoint first.rows (spans_of zone first)) (class_points used k)
    (all_points zone b firsts k used (recursion_from_All (IsUsed zone b firsts) used known)) (rank classes j) []
    (omega (arith, sizes, rank_below classes j there)) in
    subst (IsPoint (block_at b j).rows (spans_of zone (block_at b j))) (sym (spread.agrees j l))
    (subst (λ (rows : List Row). IsPoint rows (spans_of zone (block_at b j)) (block_point used classes j)) (are.same j l).rows
    (subst (λ (spans : List Span). IsPoint first.rows spans (block_point used classes j)) (are.same j l).spans of_first))

-- ---- a feasible point

-- a default is not read within a list
any_default : {X : Type 0} (xs : List X) (k : ℕ) (d e : X) → k < length xs → get_or xs k d ≡ get_or xs k e
any_default [] k d e l = absurd (omega arith)
any_default (x ∷ xs) zero d e l = refl
any_default (x ∷ xs) (suc k) d e l = any_default xs k d e (omega (arith, l))

Meets_units : (s : Sense) (low rhs a : ℤ) → Meets s (pos one_weight *ℤ low) (pos one_weight *ℤ rhs) (pos one_weight *ℤ a) → Meets s low rhs a
Meets_units Le low rhs a h = omega (arith, ints, h)
Meets_units Ge low rhs a h = omega (arith, ints, h)
Meets_units Eq low rhs a h = (omega (arith, ints, h.0), omega (arith, ints, h.1))
Meets_units In low rhs a h = (omega (arith, ints, h.0), omega (arith, ints, h.1))

-- a row whose mirror is met is met
Mirrors_back : (k : Block) (row full : Row) (x : List ℤ) → Mirrors k row full → MeetsRow (restriction x k) row → MeetsRow x full
Mirrors_back k row full x mirrors meets =
    subst (λ a. Meets full.sense full.low full.rhs a) (activity_of_places k x row.terms full.terms mirrors.terms)
    (subst (λ h. Meets full.sense full.low h (activity row.terms (restriction x k))) mirrors.rhs
    (subst (λ l. Meets full.sense l row.rhs (activity row.terms (restriction x k))) mirrors.low
    (subst (λ s. Meets s row.low row.rhs (activity row.terms (restriction x k))) mirrors.sense meets)))

-- the numbers of a spread point lie within their spans
spread_is_within : (p : Program) (zone : List Span) (b : Blocking) (x : List ℤ) → HasEachVariable p b → IsSubzone zone p.spans
    → ((j : ℕ) → j < length b.blocks → IsPoint (block_at b j).rows (spans_of zone (block_at b j)) (restriction x (block_at b j)))
    → (v : ℕ) → v < length p.spans → IsWithin (span_at p.spans v) (value_at x v)
spread_is_within p zone b x has inside points v l =
    let found = has v l in
    let none : Block = record { copies = []; rows = [] } in
    let block : Block = block_at b found.0 in
    let same : found.1 ≡ block = sym found.3 ∙ any_default b.blocks found.0 found.1 none found.2 in
    let copy : Contains (map (λ (c : Copy). c.var) block.copies) v = subst (λ (k : Block). Contains (map (λ (c : Copy). c.var) k.copies) v) same found.4 in
    let m : ℕ = copy.0 in
    let d : Copy = record { var = v; cost = pos 0; coefs = [] } in
    let there : m < length block.copies = omega (arith, copy.1, length-map block.copies (λ (c : Copy). c.var)) in
    let var : (get_or block.copies m d).var ≡ v = sym (get_or-map (λ (c : Copy). c.var) block.copies m d v there) ∙ copy.2 in
    let within : IsWithin (get_or (spans_of zone block) m (span_at zone v)) (get_or (restriction x block) m (value_at x v)) =
    AllZip_at IsWithin (spans_of zone block) (restriction x block) (points found.0 found.2).inside m (span_at zone v) (value_at x v)
    (omega (arith, there, length-map block.copies (λ (c : Copy). span_at zone c.var))) in
    let here : IsWithin (span_at zone v) (value_at x v) =
    subst (λ (s : Span). IsWithin s (value_at x v))
    (get_or-map (λ (c : Copy). span_at zone c.var) block.copies m d (span_at zone v) there ∙ ap (span_at zone) var)
    (subst (λ z. IsWithin (get_or (spans_of zone block) m (span_at zone v)) z)
    (get_or-map (λ (c : Copy). value_at x c.var) block.copies m d (value_at x v) there ∙ ap (value_at x) var) within) in
    let wider = subspan_at zone p.spans inside v in
    record { above = omega (arith, ints, here.above, wider.above); below = omega (arith, ints, here.below, wider.below) }

spread_is_feasible : (p : Program) (rows : List (Option Row)) (b : Blocking) (zone : List Span) (classes firsts : List ℕ) (used : List UsedColumn) (x : List ℤ)
    → AddsUp p rows b → HasEachRow p rows b → HasEachVariable p b → IsSubzone zone p.spans
    → AreClasses zone b classes firsts → All (IsUsed zone b firsts) used → MeetOwnRows p b firsts used
    → length x ≡ length p.spans → IsSpread b classes firsts used x → IsFeasible p x
spread_is_feasible p rows b zone classes firsts used x adds has_rows has inside are known meet long spread =
    let points : (j : ℕ) → j < length b.blocks → IsPoint (block_at b j).rows (spans_of zone (block_at b j)) (restriction x (block_at b j)) =
    block_is_met zone b classes firsts used x are known spread in
    record {
      inside = AllZip-from_places IsWithin p.spans x (sym long)
          (λ v d e l.
          subst (λ (s : Span). IsWithin s (get_or x v e)) (any_default p.spans v (record { lo = pos 0; hi = pos 0 }) d l)
          (subst (λ z. IsWithin (span_at p.spans v) z) (any_default x v (pos 0) e (omega (arith, l, long)))
          (spread_is_within p zone b x has inside points v l)));
      rows = λ i d l. by i d l (has_rows.placed i d l) points;
    }
  where
    by : (i : ℕ) (d : Row) → i < length p.rows
        → ((j : ℕ) × (row : Row) × (j < length b.blocks) × Contains (block_at b j).rows row × Mirrors (block_at b j) row (get_or p.rows i d))
        ⊎ (get_or rows i None ≡ Some (get_or p.rows i d))
        → ((j : ℕ) → j < length b.blocks → IsPoint (block_at b j).rows (spans_of zone (block_at b j)) (restriction x (block_at b j)))
        → MeetsRow x (get_or p.rows i d)
    by i d l (inl found) points =
        Mirrors_back (block_at b found.0) found.1 (get_or p.rows i d) x found.4
        (All-contains (MeetsRow (restriction x (block_at b found.0))) (block_at b found.0).rows found.1 (points found.0 found.2).meets found.3)
    by i d l (inr named) points =
        let full : Row = get_or p.rows i d in
        let side : row_at b i ≡ Some (sides_of full) =
        ap (λ (rs : List (Option MasterRow)). get_or rs i None) adds.sides ∙ get_or-map_past (option_map sides_of) rows i None ∙ ap (option_map sides_of) named in
        let same : pos one_weight *ℤ activity full.terms x ≡ used_total b firsts (λ c. coef_in c i) used =
        ap (λ z. pos one_weight *ℤ z)
        (sym (sum_of-same_keys (λ (c : Copy). c.var) (λ c. coef_in c i) (λ (t : Term). t.var) (λ t. t.coef) (value_at x) (all_copies b) full.terms (adds.coefs i full named)))
        ∙ copies_by_column zone b classes firsts used x (λ c. coef_in c i) are known spread (λ k m same. same.coefs i) in
        Meets_units full.sense full.low full.rhs (activity full.terms x)
        (subst (λ a. Meets full.sense (pos one_weight *ℤ full.low) (pos one_weight *ℤ full.rhs) a) (sym same) (meet i (sides_of full) l side))

spread_cost : (p : Program) (rows : List (Option Row)) (b : Blocking) (zone : List Span) (classes firsts : List ℕ) (used : List UsedColumn) (x : List ℤ)
    → AddsUp p rows b → AreClasses zone b classes firsts → All (IsUsed zone b firsts) used → IsSpread b classes firsts used x
    → pos one_weight *ℤ cost p x ≡ pos one_weight *ℤ p.constant +ℤ used_total b firsts (λ c. c.cost) used
spread_cost p rows b zone classes firsts used x adds are known spread =
    mul-add (pos one_weight) p.constant (activity p.costs x)
    ∙ ap (λ z. pos one_weight *ℤ p.constant +ℤ z)
    (ap (λ z. pos one_weight *ℤ z)
    (sym (sum_of-same_keys (λ (c : Copy). c.var) (λ c. c.cost) (λ (t : Term). t.var) (λ t. t.coef) (value_at x) (all_copies b) p.costs adds.costs))
    ∙ copies_by_column zone b classes firsts used x (λ c. c.cost) are known spread (λ k m same. same.costs))

pub spread_fits_lem : SpreadFits
spread_fits_lem = record { feasible = spread_is_feasible; cost = spread_cost }
