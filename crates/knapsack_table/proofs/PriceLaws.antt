-- Laws of pricing by a table.
use Rattle.std.proofs.Common.{◌≡◌, refl, sym, ap, subst, ◌∙◌, ℕ, zero, suc, ◌+◌, ◌*◌, ◌^◌, ◌<◌, ◌≤◌, List, [], ◌∷◌, length, get_or, arith, ⊎_elim}
use Rattle.std.proofs.Math.IntN.{ℤ, pos, negsuc, neg_ℤ, ◌+ℤ◌}
use Rattle.std.proofs.Math.Nat.{mul-le-mul_left}
use Rattle.std.specs.Prelude.{◌≤ℤ◌, unsigned_abs, sum_by, All}
use Rattle.std.specs.Int.{int_gap}
use Rattle.std.specs.List.{AllByRecursion, range_with_len}
use Rattle.std.proofs.lemmas.Bool.{cases_lt}
use Rattle.std.proofs.lemmas.Int.{ints}
use Rattle.std.proofs.lemmas.List.{take_all, length-map, get_or-map}
use Rattle.std.proofs.lemmas.List.FromFn.{length-range_with_len}
use Rattle.std.proofs.lemmas.List.Elements.{recursion_from_All}
use Rattle.bp_theory.specs.Sums.{dot}
use Rattle.bp_theory.specs.Program.{reach, coefficient, activity, IsWithin, Meets, MeetsRow}
use Rattle.bp_theory.specs.Decomposition.{HasVariablesBelow}
use Rattle.bp_theory.specs.Bound.{IsPoint}
use Rattle.bp_theory.specs.Trees.{IsSubzone, IsSubspan, IsProper}
use Rattle.bp_theory.specs.declared.Span.{Span}
use Rattle.bp_theory.specs.declared.Term.{Term}
use Rattle.bp_theory.specs.declared.Row.{Row}
use Rattle.bp_theory.proofs.ZipLaws.{AllZip-length, AllZip_at}
use Rattle.pricing_problem.specs.Form.{term_size, cost_size, IsPriceable, HasShortEnds}
use Rattle.pricing_problem.specs.Priced.{IsCheapest, HasNoPoint}
use Rattle.knapsack_table.specs.declared.items.Item.{Item}
use Rattle.knapsack_table.specs.Taken.{row_reach, dense}
use Rattle.knapsack_table.specs.Loads.{IsLoad, load, worth, item_of, items_of, point_of, none_of}
use Rattle.knapsack_table.specs.Tables.{worth_size, full_load}
use Rattle.knapsack_table.specs.Choices.{MeetsAt, IsMeeting, HasNoLoad, IsLeastLoad}
use Rattle.knapsack_table.proofs.LoadLaws.{IsLoadOf, load_of_point, IsPointOf, point_of_load}
use Rattle.knapsack_table.proofs.CoefLaws.{size_by, cost_size_is, dense_size, dense_activity, coefficient_short, gap-le}
use Rattle.knapsack_table.proofs.TableLaws.{load-full}

-- sizes in a smaller zone
pub size_by_inside : (w : Span → ℕ) (small large : List Span) (rs : List ℤ) → ((s t : Span) → s.lo ≤ℤ s.hi → IsSubspan s t → w s ≤ w t)
    → AllByRecursion (λ (s : Span). s.lo ≤ℤ s.hi) small → IsSubzone small large → size_by w small rs ≤ size_by w large rs
size_by_inside w [] ts rs grows p h = omega arith
size_by_inside w (s ∷ ss) [] rs grows p h = absurd h
size_by_inside w (s ∷ ss) (t ∷ ts) [] grows p h = omega arith
size_by_inside w (s ∷ ss) (t ∷ ts) (r ∷ rs) grows p h =
    omega (arith, mul-le-mul_left (unsigned_abs r) (grows s t p.0 h.0), size_by_inside w ss ts rs grows p.1 h.1)

pub reach_grows : (s t : Span) → s.lo ≤ℤ s.hi → IsSubspan s t → reach s ≤ reach t
reach_grows s t p h = omega (arith, ints, p, h.above, h.below)

pub gap_grows : (s t : Span) → s.lo ≤ℤ s.hi → IsSubspan s t → int_gap s.lo s.hi ≤ int_gap t.lo t.hi
gap_grows s t p h = by s.lo s.hi t.lo t.hi p h.above h.below
  where
    by : (a b c d : ℤ) → a ≤ℤ b → c ≤ℤ a → b ≤ℤ d → int_gap a b ≤ int_gap c d
    by a b c d p q r = grind (arith, ints)

-- the gap of a span
abbrev pub gap : Span → ℕ
gap s = int_gap s.lo s.hi

-- the coefficients' reach in a zone is at most that of the row's terms
pub coefs_reach : (terms : List Term) (spans zone : List Span) → IsProper zone → IsSubzone zone spans → size_by gap zone (dense terms (length spans)) ≤ row_reach spans terms
coefs_reach terms spans zone proper inside =
    omega (
      arith,
      size_by_inside gap zone spans (dense terms (length spans)) gap_grows (recursion_from_All (λ (s : Span). s.lo ≤ℤ s.hi) zone proper) inside,
      dense_size gap spans (length spans) terms,
    )

-- and their size that of the terms
pub coefs_size : (terms : List Term) (spans zone : List Span) → IsProper zone → IsSubzone zone spans → cost_size zone (dense terms (length spans)) ≤ sum_by (term_size spans) terms
coefs_size terms spans zone proper inside =
    omega (
      arith,
      cost_size_is zone (dense terms (length spans)),
      size_by_inside reach zone spans (dense terms (length spans)) reach_grows (recursion_from_All (λ (s : Span). s.lo ≤ℤ s.hi) zone proper) inside,
      dense_size reach spans (length spans) terms,
    )

-- coefficients are short
pub coefs_narrow : (terms : List Term) (spans : List Span) → sum_by (term_size spans) terms < 2 ^ 62 → All (λ a. unsigned_abs a < 2 ^ 62) (dense terms (length spans))
coefs_narrow terms spans small k d l =
    let there : k < length (range_with_len 0 (length spans)) = omega (arith, l, length-map (range_with_len 0 (length spans)) (coefficient terms)) in
    subst (λ z. unsigned_abs z < 2 ^ 62)
    (ap (λ (ts : List Term). coefficient ts (get_or (range_with_len 0 (length spans)) k 0)) (take_all (length terms) terms (omega arith))
    ∙ sym (get_or-map (coefficient terms) (range_with_len 0 (length spans)) k 0 d there))
    (coefficient_short spans terms (length terms) (get_or (range_with_len 0 (length spans)) k 0) small)

-- an item's weight and width
item_weight : (a : ℤ) (s : Span) (r : ℤ) → (item_of a s r).weight * (item_of a s r).width ≤ unsigned_abs a * gap s
item_weight (pos zero) s r = omega arith
item_weight (pos (suc n)) s r = omega arith
item_weight (negsuc n) s r = omega arith

item_heavy : (a : ℤ) (s : Span) (r : ℤ) → 0 < (item_of a s r).width → 0 < (item_of a s r).weight
item_heavy (pos zero) s r h = absurd (omega (arith, h))
item_heavy (pos (suc n)) s r h = omega arith
item_heavy (negsuc n) s r h = omega arith

item_cost : (a : ℤ) (s : Span) (r : ℤ) → unsigned_abs (item_of a s r).cost * (item_of a s r).width ≤ 2 * (unsigned_abs r * reach s)
item_cost (pos zero) s r = omega arith
item_cost (pos (suc n)) s r = doubled (unsigned_abs r) (gap s) (reach s) (gap-le s)
  where
    doubled : (m g h : ℕ) → g ≤ 2 * h → m * g ≤ 2 * (m * h)
    doubled m g h l = omega (arith, mul-le-mul_left m l)
item_cost (negsuc n) s r = subst (λ m. m * gap s ≤ 2 * (unsigned_abs r * reach s)) (same r) (doubled (unsigned_abs r) (gap s) (reach s) (gap-le s))
  where
    same : (z : ℤ) → unsigned_abs z ≡ unsigned_abs (neg_ℤ z)
    same z = omega (arith, ints)

    doubled : (m g h : ℕ) → g ≤ 2 * h → m * g ≤ 2 * (m * h)
    doubled m g h l = omega (arith, mul-le-mul_left m l)

pub items_heavy : (as' : List ℤ) (ss : List Span) (rs : List ℤ) → AllByRecursion (λ (i : Item). 0 < i.width → 0 < i.weight) (items_of as' ss rs)
items_heavy [] ss rs = tt
items_heavy (a ∷ as') [] rs = tt
items_heavy (a ∷ as') (s ∷ ss) [] = tt
items_heavy (a ∷ as') (s ∷ ss) (r ∷ rs) = (item_heavy a s r, items_heavy as' ss rs)

pub items_small : (as' : List ℤ) (ss : List Span) (rs : List ℤ) (m : ℕ) → size_by gap ss as' ≤ m → AllByRecursion (λ (i : Item). i.weight * i.width ≤ m) (items_of as' ss rs)
items_small [] ss rs m l = tt
items_small (a ∷ as') [] rs m l = tt
items_small (a ∷ as') (s ∷ ss) [] m l = tt
items_small (a ∷ as') (s ∷ ss) (r ∷ rs) m l = (omega (arith, l, item_weight a s r), items_small as' ss rs m (omega (arith, l)))

pub items_worth : (as' : List ℤ) (ss : List Span) (rs : List ℤ) → worth_size (items_of as' ss rs) ≤ 2 * cost_size ss rs
items_worth [] ss rs = omega arith
items_worth (a ∷ as') [] rs = omega arith
items_worth (a ∷ as') (s ∷ ss) [] = omega arith
items_worth (a ∷ as') (s ∷ ss) (r ∷ rs) = omega (arith, item_cost a s r, items_worth as' ss rs)

-- all items whole weigh no more than the coefficients reach
pub full_load-le : (as' : List ℤ) (ss : List Span) (rs : List ℤ) → full_load (items_of as' ss rs) ≤ size_by gap ss as'
full_load-le [] ss rs = omega arith
full_load-le (a ∷ as') [] rs = omega arith
full_load-le (a ∷ as') (s ∷ ss) [] = omega arith
full_load-le (a ∷ as') (s ∷ ss) (r ∷ rs) = omega (arith, item_weight a s r, full_load-le as' ss rs)

-- the empty load
pub none_fits : (as' : List ℤ) (ss : List Span) (rs : List ℤ) → length as' ≡ length ss → length rs ≡ length ss → IsLoad (items_of as' ss rs) (none_of as')
none_fits [] ss rs e f = tt
none_fits (a ∷ as') [] rs e f = absurd (omega arith)
none_fits (a ∷ as') (s ∷ ss) [] e f = absurd (omega arith)
none_fits (a ∷ as') (s ∷ ss) (r ∷ rs) e f = (omega arith, none_fits as' ss rs (omega arith) (omega arith))

-- one row alone
pub one_row : (rows : List Row) (d : Row) → length rows ≡ 1 → rows ≡ get_or rows 0 d ∷ []
one_row [] d e = absurd (omega arith)
one_row (row ∷ []) d e = refl
one_row (row ∷ more ∷ rows) d e = absurd (omega arith)

-- the table has at most 2 to the 20 cells
pub reach_small : (n m : ℕ) → (n + 1) * (m + 1) ≤ 1048576 → m + 1 ≤ 1048576
reach_small n m h = omega (arith, h, mul-le-mul_left (m + 1) (least n))
  where
    least : (k : ℕ) → 1 ≤ k + 1
    least k = omega arith

-- what pricing a zone by a table knows: the row alone, the coefficients, the base and how far weights go
pub record IsTabled (row : Row) (spans zone : List Span) (costs : List ℤ) (base : ℤ) (top : ℕ) : Type 0 where
  pub places : HasVariablesBelow (length spans) row.terms
  pub priceable : IsPriceable spans zone costs
  pub base_is : base ≡ dot (dense row.terms (length spans)) (point_of (dense row.terms (length spans)) zone costs (none_of (dense row.terms (length spans))))
  pub above : (c : ℕ) → top < c → MeetsAt row base c → full_load (items_of (dense row.terms (length spans)) zone costs) < c

pub many_coefs : (terms : List Term) (n : ℕ) → length (dense terms n) ≡ n
many_coefs terms n = length-map (range_with_len 0 n) (coefficient terms) ∙ length-range_with_len 0 n

-- a point of the row is a load whose weight meets the row
pub load_in_table : (row : Row) (spans zone : List Span) (costs : List ℤ) (base : ℤ) (top : ℕ)
    → IsTabled row spans zone costs base top → (y : List ℤ) → IsPoint (row ∷ []) zone y
    → (us : List ℕ) × IsMeeting (items_of (dense row.terms (length spans)) zone costs) row base top us
    × ((dot costs (point_of (dense row.terms (length spans)) zone costs (none_of (dense row.terms (length spans)))) +ℤ worth (items_of (dense row.terms (length spans)) zone costs) us) ≤ℤ dot costs y)
load_in_table row spans zone costs base top t y p =
    by (load_of_point (dense row.terms (length spans)) zone costs y coefs_many t.priceable.each
    (recursion_from_All (λ (s : Span). s.lo ≤ℤ s.hi) zone t.priceable.in_root.proper) p.inside)
  where
    spans_many : length zone ≡ length spans
    spans_many = AllZip-length IsSubspan zone spans t.priceable.in_root.inside

    coefs_many : length (dense row.terms (length spans)) ≡ length zone
    coefs_many = many_coefs row.terms (length spans) ∙ sym spans_many

    y_many : length zone ≡ length y
    y_many = AllZip-length IsWithin zone y p.inside

    sum_is : activity row.terms y ≡ dot (dense row.terms (length spans)) y
    sum_is =
        sym (dense_activity row.terms y (subst (λ n. HasVariablesBelow n row.terms) (sym spans_many ∙ y_many) t.places))
        ∙ ap (λ n. dot (dense row.terms n) y) (sym (sym spans_many ∙ y_many))

    by : (us : List ℕ) × IsLoadOf (dense row.terms (length spans)) zone costs y us
        → (us : List ℕ) × IsMeeting (items_of (dense row.terms (length spans)) zone costs) row base top us
        × ((dot costs (point_of (dense row.terms (length spans)) zone costs (none_of (dense row.terms (length spans)))) +ℤ worth (items_of (dense row.terms (length spans)) zone costs) us) ≤ℤ dot costs y)
    by found =
        let weight : ℕ = load (items_of (dense row.terms (length spans)) zone costs) found.0 in
        let meets : MeetsAt row base weight =
        subst (λ z. Meets row.sense row.low row.rhs z)
        (sum_is ∙ found.1.weighs ∙ ap (λ z. z +ℤ pos weight) (sym t.base_is))
        (p.meets 0 row (omega arith)) in
        let within : weight ≤ top = ⊎_elim
        (λ more. absurd (omega (arith, t.above weight more meets, load-full (items_of (dense row.terms (length spans)) zone costs) found.0 found.1.fits)))
        (λ less. less)
        (cases_lt top weight) in
        (found.0, record { fits = found.1.fits; within = within; meets = meets }, found.1.costs)

-- no load meets the row: there is no point
pub none_priced : (row : Row) (spans zone : List Span) (costs : List ℤ) (base : ℤ) (top : ℕ)
    → IsTabled row spans zone costs base top → HasNoLoad (items_of (dense row.terms (length spans)) zone costs) row base top → HasNoPoint (row ∷ []) zone
none_priced row spans zone costs base top t none y p =
    let found = load_in_table row spans zone costs base top t y p in none found.0 found.1

-- the point of a load of least cost is a cheapest point
pub some_priced : (row : Row) (spans zone : List Span) (costs : List ℤ) (base : ℤ) (top : ℕ) (u v : ℤ) (us : List ℕ)
    → IsTabled row spans zone costs base top → IsLeastLoad (items_of (dense row.terms (length spans)) zone costs) row base top us u
    → v ≡ dot costs (point_of (dense row.terms (length spans)) zone costs (none_of (dense row.terms (length spans)))) +ℤ u
    → IsCheapest (row ∷ []) zone costs (point_of (dense row.terms (length spans)) zone costs us) v
some_priced row spans zone costs base top u v us t least is = record {
  is_point = record {
    inside = is_point.inside;
    meets = λ k d l. subst (MeetsRow (point_of (dense row.terms (length spans)) zone costs us)) (sym (only k d l)) meets;
  };
  reached = is_point.costs ∙ ap (λ z. base_cost +ℤ z) least.costs ∙ sym is;
  least = λ y p.
      let found = load_in_table row spans zone costs base top t y p in
      lower base_cost u (worth (items_of (dense row.terms (length spans)) zone costs) found.0) (dot costs y) v is (least.least found.0 found.1) found.2;
}
  where
    base_cost : ℤ
    base_cost = dot costs (point_of (dense row.terms (length spans)) zone costs (none_of (dense row.terms (length spans))))

    spans_many : length zone ≡ length spans
    spans_many = AllZip-length IsSubspan zone spans t.priceable.in_root.inside

    is_point : IsPointOf (dense row.terms (length spans)) zone costs us
    is_point = point_of_load (dense row.terms (length spans)) zone costs us (many_coefs row.terms (length spans) ∙ sym spans_many) t.priceable.each
        (recursion_from_All (λ (s : Span). s.lo ≤ℤ s.hi) zone t.priceable.in_root.proper) least.way.fits

    y_many : length zone ≡ length (point_of (dense row.terms (length spans)) zone costs us)
    y_many = AllZip-length IsWithin zone (point_of (dense row.terms (length spans)) zone costs us) is_point.inside

    sum_is : activity row.terms (point_of (dense row.terms (length spans)) zone costs us) ≡ dot (dense row.terms (length spans)) (point_of (dense row.terms (length spans)) zone costs us)
    sum_is =
        sym (dense_activity row.terms (point_of (dense row.terms (length spans)) zone costs us) (subst (λ n. HasVariablesBelow n row.terms) (sym spans_many ∙ y_many) t.places))
        ∙ ap (λ n. dot (dense row.terms n) (point_of (dense row.terms (length spans)) zone costs us)) (sym (sym spans_many ∙ y_many))

    meets : MeetsRow (point_of (dense row.terms (length spans)) zone costs us) row
    meets =
        subst (λ z. Meets row.sense row.low row.rhs z)
        (sym (sum_is ∙ is_point.weighs ∙ ap (λ z. z +ℤ pos (load (items_of (dense row.terms (length spans)) zone costs) us)) (sym t.base_is)))
        least.way.meets

    only : (k : ℕ) (d : Row) → k < length (row ∷ []) → get_or (row ∷ []) k d ≡ row
    only zero d l = refl
    only (suc k) d l = absurd (omega (arith, l))

    lower : (b m n d w : ℤ) → w ≡ b +ℤ m → m ≤ℤ n → (b +ℤ n) ≤ℤ d → w ≤ℤ d
    lower b m n d w e p q = omega (arith, ints, e, p, q)

-- the ends of a zone within the root are short
pub short_inside : (zone spans : List Span) → IsSubzone zone spans → IsProper zone → All HasShortEnds spans → All HasShortEnds zone
short_inside zone spans inside proper short k d l =
    let sub : IsSubspan (get_or zone k d) (get_or spans k d) = AllZip_at IsSubspan zone spans inside k d d l in
    let p : (get_or zone k d).lo ≤ℤ (get_or zone k d).hi = proper k d l in
    let e : HasShortEnds (get_or spans k d) = short k d (omega (arith, l, AllZip-length IsSubspan zone spans inside)) in
    record {
      lo = omega (arith, ints, sub.above, sub.below, p, e.lo, e.hi);
      hi = omega (arith, ints, sub.above, sub.below, p, e.lo, e.hi);
    }
