-- What is known of a row, a zone and costs that a table prices.
use Rattle.std.proofs.Common.{◌≡◌, sym, ap, subst, ◌∙◌, ℕ, ◌+◌, ◌*◌, ◌^◌, ◌<◌, ◌≤◌, List, [], ◌∷◌, length, get_or, arith}
use Rattle.std.proofs.Math.IntN.{ℤ, ◌+ℤ◌}
use Rattle.std.specs.Int.{w128}
use Rattle.std.proofs.lemmas.Int.{ints, fits_signed_from_abs, to_z-of_z}
use mir.Val.{of_z, to_z}
use Rattle.bp_theory.specs.Sums.{dot}
use Rattle.pricing_problem.specs.Priced.{IsCheapest, HasNoPoint}
use Rattle.knapsack_table.specs.Choices.{HasNoLoad, IsLeastLoad, IsPicked}
use Rattle.knapsack_table.proofs.TableLaws.{worth_small}
use Rattle.std.specs.Prelude.{FitsSigned, ◌≤ℤ◌, unsigned_abs, sum_by, All}
use Rattle.std.specs.List.{AllByRecursion}
use Rattle.std.proofs.lemmas.List.Elements.{recursion_from_All, All-from_recursion}
use Rattle.bp_theory.specs.Program.{IsInside, reach}
use Rattle.bp_theory.specs.Bound.{box_least}
use Rattle.std.proofs.Math.Nat.{mul-le-mul_left}
use Rattle.bp_theory.specs.Decomposition.{HasVariablesBelow}
use Rattle.bp_theory.specs.Trees.{IsSubspan}
use Rattle.bp_theory.specs.declared.Span.{Span}
use Rattle.bp_theory.specs.declared.Term.{Term}
use Rattle.bp_theory.specs.declared.Row.{Row}
use Rattle.bp_theory.proofs.ZipLaws.{AllZip-length}
use Rattle.pricing_problem.specs.Form.{term_size, row_size, cost_size, IsPriceable, HasShortEnds}
use Rattle.knapsack_table.specs.declared.items.Item.{Item}
use Rattle.knapsack_table.specs.declared.form.Form.{Form}
use Rattle.knapsack_table.specs.Taken.{row_reach, dense, first_terms}
use Rattle.knapsack_table.specs.Loads.{items_of, point_of, none_of}
use Rattle.knapsack_table.specs.Rooms.{room_for, room_of, form_room, cells_of}
use Rattle.knapsack_table.specs.Tables.{worth_size, full_load}
use Rattle.knapsack_table.proofs.LoadLaws.{point_of_load}
use Rattle.knapsack_table.proofs.CoefLaws.{cost_size_is, dense_size}
use Rattle.knapsack_table.proofs.StepLaws.{length-items_of, box_least-below, inside_root, room_shrinks, room_above}
use Rattle.knapsack_table.proofs.PriceLaws.{IsTabled, none_priced, some_priced, reach_small, many_coefs, coefs_narrow, coefs_size, coefs_reach, items_heavy, items_small, items_worth, none_fits, short_inside, full_load-le}

-- the first row, by any default
pub first_is : (rows : List Row) (row : Row) → length rows ≡ 1 → row ≡ get_or rows 0 row → (rows ≡ row ∷ []) × (first_terms rows ≡ row.terms)
first_is [] row e is = absurd (omega arith)
first_is (r ∷ []) row e is = (ap (λ (x : Row). x ∷ []) (sym is), ap (λ (x : Row). x.terms) (sym is))
first_is (r ∷ more ∷ rows) row e is = absurd (omega arith)

pub terms_small : (f : Form) → sum_by (term_size f.spans.items) (first_terms f.rows.items) < 2 ^ 62
terms_small f = by f.rows.items f.taken.one f.kept.sizes
  where
    by : (rows : List Row) → length rows ≡ 1 → All (λ (row : Row). row_size f.spans.items row < 2 ^ 62) rows → sum_by (term_size f.spans.items) (first_terms rows) < 2 ^ 62
    by [] e h = absurd (omega arith)
    by (row ∷ rows) e h = omega (arith, h 0 row (omega arith))

pub terms_places : (f : Form) → HasVariablesBelow (length f.spans.items) (first_terms f.rows.items)
terms_places f = by f.rows.items f.taken.one f.kept.places
  where
    by : (rows : List Row) → length rows ≡ 1 → All (λ (row : Row). HasVariablesBelow (length f.spans.items) row.terms) rows
        → HasVariablesBelow (length f.spans.items) (first_terms rows)
    by [] e h = absurd (omega arith)
    by (row ∷ rows) e h = h 0 row (omega arith)

pub zone_many : (f : Form) (zone : List Span) (costs : List ℤ) → IsPriceable f.spans.items zone costs → length zone ≡ length f.spans.items
zone_many f zone costs p = AllZip-length IsSubspan zone f.spans.items p.in_root.inside

pub coefs_many : (f : Form) (zone : List Span) (costs : List ℤ) → IsPriceable f.spans.items zone costs → length f.coefs.items ≡ length zone
coefs_many f zone costs p =
    ap length f.dense_coefs ∙ many_coefs (first_terms f.rows.items) (length f.spans.items) ∙ sym (zone_many f zone costs p)

pub narrow : (f : Form) → All (λ a. unsigned_abs a < 2 ^ 62) f.coefs.items
narrow f = subst (λ as'. All (λ a. unsigned_abs a < 2 ^ 62) as') (sym f.dense_coefs) (coefs_narrow (first_terms f.rows.items) f.spans.items (terms_small f))

pub size_small : (f : Form) (zone : List Span) (costs : List ℤ) → IsPriceable f.spans.items zone costs → cost_size zone f.coefs.items ≤ 2 ^ 123
size_small f zone costs p =
    subst (λ as'. cost_size zone as' ≤ 2 ^ 123) (sym f.dense_coefs)
    (omega (arith, terms_small f, coefs_size (first_terms f.rows.items) f.spans.items zone p.in_root.proper p.in_root.inside))

pub shorts : (f : Form) (zone : List Span) (costs : List ℤ) → IsPriceable f.spans.items zone costs → All HasShortEnds zone
shorts f zone costs p = short_inside zone f.spans.items p.in_root.inside p.in_root.proper f.kept.ends

pub anchors_inside : (f : Form) (zone : List Span) (costs : List ℤ) → IsPriceable f.spans.items zone costs
    → IsInside zone (point_of f.coefs.items zone costs (none_of f.coefs.items))
anchors_inside f zone costs p =
    (point_of_load f.coefs.items zone costs (none_of f.coefs.items) (coefs_many f zone costs p) p.each
    (recursion_from_All (λ (s : Span). s.lo ≤ℤ s.hi) zone p.in_root.proper)
    (none_fits f.coefs.items zone costs (coefs_many f zone costs p) p.each)).inside

pub reach_fits : (f : Form) → row_reach f.spans.items (first_terms f.rows.items) + 1 ≤ 1048576
reach_fits f = reach_small (length f.spans.items) (row_reach f.spans.items (first_terms f.rows.items)) f.taken.small

pub heavy : (f : Form) (zone : List Span) (costs : List ℤ) (items : List Item) → items ≡ items_of f.coefs.items zone costs
    → All (λ (i : Item). 0 < i.width → 0 < i.weight) items
heavy f zone costs items is =
    subst (λ (xs : List Item). All (λ (i : Item). 0 < i.width → 0 < i.weight) xs) (sym is)
    (All-from_recursion (λ (i : Item). 0 < i.width → 0 < i.weight) (items_of f.coefs.items zone costs) (items_heavy f.coefs.items zone costs))

pub small : (f : Form) (zone : List Span) (costs : List ℤ) → IsPriceable f.spans.items zone costs → (items : List Item) → items ≡ items_of f.coefs.items zone costs
    → All (λ (i : Item). i.weight * i.width ≤ 2 ^ 20) items
small f zone costs p items is =
    subst (λ (xs : List Item). All (λ (i : Item). i.weight * i.width ≤ 2 ^ 20) xs) (sym is)
    (All-from_recursion (λ (i : Item). i.weight * i.width ≤ 2 ^ 20) (items_of f.coefs.items zone costs)
    (subst (λ as'. AllByRecursion (λ (i : Item). i.weight * i.width ≤ 2 ^ 20) (items_of as' zone costs)) (sym f.dense_coefs)
    (items_small (dense (first_terms f.rows.items) (length f.spans.items)) zone costs (2 ^ 20)
    (omega (arith, reach_fits f, coefs_reach (first_terms f.rows.items) f.spans.items zone p.in_root.proper p.in_root.inside)))))

pub cheap : (f : Form) (zone : List Span) (costs : List ℤ) → IsPriceable f.spans.items zone costs → (items : List Item) → items ≡ items_of f.coefs.items zone costs
    → worth_size items ≤ 2 ^ 124
cheap f zone costs p items is =
    subst (λ (xs : List Item). worth_size xs ≤ 2 ^ 124) (sym is) (omega (arith, p.sizes, items_worth f.coefs.items zone costs))

pub items_many : (f : Form) (zone : List Span) (costs : List ℤ) → IsPriceable f.spans.items zone costs → (items : List Item) → items ≡ items_of f.coefs.items zone costs
    → length items ≡ length zone
items_many f zone costs p items is = ap length is ∙ length-items_of f.coefs.items zone costs (coefs_many f zone costs p) p.each

-- a zone's items whole weigh no more than the row can move
pub full : (f : Form) (zone : List Span) (costs : List ℤ) → IsPriceable f.spans.items zone costs → (items : List Item) → items ≡ items_of f.coefs.items zone costs
    → full_load items ≤ row_reach f.spans.items (first_terms f.rows.items)
full f zone costs p items is =
    subst (λ (xs : List Item). full_load xs ≤ row_reach f.spans.items (first_terms f.rows.items)) (sym is)
    (subst (λ as'. full_load (items_of as' zone costs) ≤ row_reach f.spans.items (first_terms f.rows.items)) (sym f.dense_coefs)
    (omega (
      arith,
      full_load-le (dense (first_terms f.rows.items) (length f.spans.items)) zone costs,
      coefs_reach (first_terms f.rows.items) f.spans.items zone p.in_root.proper p.in_root.inside,
    )))

-- the coefficients' size at the root
pub root_small : (f : Form) → cost_size f.spans.items f.coefs.items ≤ 2 ^ 123
root_small f =
    subst (λ as'. cost_size f.spans.items as' ≤ 2 ^ 123) (sym f.dense_coefs)
    (omega (
      arith,
      terms_small f,
      cost_size_is f.spans.items (dense (first_terms f.rows.items) (length f.spans.items)),
      dense_size reach f.spans.items (length f.spans.items) (first_terms f.rows.items),
    ))

pub root_coefs_many : (f : Form) → length f.coefs.items ≡ length f.spans.items
root_coefs_many f = ap length f.dense_coefs ∙ many_coefs (first_terms f.rows.items) (length f.spans.items)

-- the room at the root, by its row
pub form_room_is : (f : Form) (row : Row) → row ≡ get_or f.rows.items 0 row
    → form_room f ≡ room_for row.sense row.rhs (box_least f.spans.items f.coefs.items) (row_reach f.spans.items (first_terms f.rows.items))
form_room_is f row r =
    ap (λ (rows : List Row). room_of rows (box_least f.spans.items f.coefs.items) (row_reach f.spans.items (first_terms f.rows.items)))
    (first_is f.rows.items row f.taken.one r).0

-- the room in a zone is no greater than at the root
pub room_fits : (f : Form) (zone : List Span) (costs : List ℤ) → IsPriceable f.spans.items zone costs → (row : Row) → row ≡ get_or f.rows.items 0 row
    → (items : List Item) → items ≡ items_of f.coefs.items zone costs → (base : ℤ)
    → base ≡ dot f.coefs.items (point_of f.coefs.items zone costs (none_of f.coefs.items))
    → room_for row.sense row.rhs base (full_load items) ≤ form_room f
room_fits f zone costs p row r items is base b =
    subst (λ n. room_for row.sense row.rhs base (full_load items) ≤ n) (sym (form_room_is f row r))
    (room_shrinks row base (box_least f.spans.items f.coefs.items) (full_load items) (row_reach f.spans.items (first_terms f.rows.items))
    (subst (λ z. box_least f.spans.items f.coefs.items ≤ℤ z) (sym b)
    (box_least-below f.spans.items f.coefs.items (point_of f.coefs.items zone costs (none_of f.coefs.items)) (root_coefs_many f)
    (inside_root zone f.spans.items (point_of f.coefs.items zone costs (none_of f.coefs.items)) p.in_root.inside (anchors_inside f zone costs p))))
    (full f zone costs p items is))

-- so the rows of a zone fit where those of the root do
pub rows_fit : (n top room cells : ℕ) → top ≤ room → (n + 1) * (room + 1) ≤ cells → (n + 1) * (top + 1) ≤ cells
rows_fit n top room cells l h = omega (arith, h, mul-le-mul_left (n + 1) (more top room l))
  where
    more : (a b : ℕ) → a ≤ b → a + 1 ≤ b + 1
    more a b m = omega (arith, m)

pub last_fits : (n top cells c : ℕ) → (n + 1) * (top + 1) ≤ cells → c ≤ top → n * (top + 1) + c < cells
last_fits n top cells c h l = omega (arith, h, l)

-- what is known of the row that is priced
pub tabled : (f : Form) (zone : List Span) (costs : List ℤ) → IsPriceable f.spans.items zone costs → (row : Row) → row ≡ get_or f.rows.items 0 row
    → (items : List Item) → items ≡ items_of f.coefs.items zone costs
    → (base : ℤ) (top : ℕ)
    → base ≡ dot f.coefs.items (point_of f.coefs.items zone costs (none_of f.coefs.items))
    → top ≡ room_for row.sense row.rhs base (full_load items)
    → IsTabled row f.spans.items zone costs base top
tabled f zone costs p row r items is base top b t =
    let first = first_is f.rows.items row f.taken.one r in
    let coefs : f.coefs.items ≡ dense row.terms (length f.spans.items) =
    f.dense_coefs ∙ ap (λ (ts : List Term). dense ts (length f.spans.items)) first.1 in
    record {
      places = subst (HasVariablesBelow (length f.spans.items)) first.1 (terms_places f);
      priceable = p;
      base_is = b ∙ ap (λ as'. dot as' (point_of as' zone costs (none_of as'))) coefs;
      above = λ c more meets. subst (λ (xs : List Item). full_load xs < c) (is ∙ ap (λ as'. items_of as' zone costs) coefs)
          (room_above row base (full_load items) c (subst (λ n. n < c) t more) meets);
    }

-- no load: no point
pub answer_none : (f : Form) (zone : List Span) (costs : List ℤ) (row : Row) → row ≡ get_or f.rows.items 0 row
    → (items : List Item) → items ≡ items_of f.coefs.items zone costs
    → (base : ℤ) (top : ℕ)
    → IsTabled row f.spans.items zone costs base top → HasNoLoad items row base top → HasNoPoint f.rows.items zone
answer_none f zone costs row r items its base top t none =
    let first = first_is f.rows.items row f.taken.one r in
    let coefs : f.coefs.items ≡ dense row.terms (length f.spans.items) =
    f.dense_coefs ∙ ap (λ (ts : List Term). dense ts (length f.spans.items)) first.1 in
    subst (λ (rows : List Row). HasNoPoint rows zone) (sym first.0)
    (none_priced row f.spans.items zone costs base top t
    (subst (λ (xs : List Item). HasNoLoad xs row base top) (its ∙ ap (λ as'. items_of as' zone costs) coefs) none))

-- a load of least cost: its point is a cheapest point
pub answer_some : (f : Form) (zone : List Span) (costs : List ℤ) (row : Row) → row ≡ get_or f.rows.items 0 row
    → (items : List Item) → items ≡ items_of f.coefs.items zone costs
    → (base : ℤ) (top : ℕ) (u v base_cost : ℤ) (point : List ℤ)
    → IsTabled row f.spans.items zone costs base top → IsPicked items row base top f.coefs.items zone costs point u
    → v ≡ base_cost +ℤ u
    → base_cost ≡ dot costs (point_of f.coefs.items zone costs (none_of f.coefs.items))
    → IsCheapest f.rows.items zone costs point v
answer_some f zone costs row r items its base top u v base_cost point t picked is b =
    let first = first_is f.rows.items row f.taken.one r in
    let coefs : f.coefs.items ≡ dense row.terms (length f.spans.items) =
    f.dense_coefs ∙ ap (λ (ts : List Term). dense ts (length f.spans.items)) first.1 in
    subst (λ (rows : List Row). IsCheapest rows zone costs point v) (sym first.0)
    (subst (λ (ys : List ℤ). IsCheapest (row ∷ []) zone costs ys v) (sym (picked.2 ∙ ap (λ as'. point_of as' zone costs picked.0) coefs))
    (some_priced row f.spans.items zone costs base top u v picked.0 t
    (subst (λ (xs : List Item). IsLeastLoad xs row base top picked.0 u) (its ∙ ap (λ as'. items_of as' zone costs) coefs) picked.1)
    (is ∙ ap (λ z. z +ℤ u) (b ∙ ap (λ as'. dot costs (point_of as' zone costs (none_of as'))) coefs))))

-- a cost and a load's cost fit together
pub total_fits : (items : List Item) (row : Row) (base : ℤ) (top : ℕ) (us : List ℕ) (base_cost u : ℤ) → IsLeastLoad items row base top us u → worth_size items ≤ 2 ^ 124
    → unsigned_abs base_cost ≤ 2 ^ 123 → FitsSigned w128 (base_cost +ℤ u)
total_fits items row base top us base_cost u l small cost =
    fits_signed_from_abs w128 (base_cost +ℤ u)
    (added base_cost u cost (subst (λ z. unsigned_abs z ≤ 2 ^ 124) l.costs (omega (arith, small, worth_small items us l.way.fits))))
  where
    added : (a b : ℤ) → unsigned_abs a ≤ 2 ^ 123 → unsigned_abs b ≤ 2 ^ 124 → unsigned_abs (a +ℤ b) < 2 ^ 127
    added a b h k = omega (arith, ints, h, k)

-- a load's cost comes back as it was
pub least_passed : (items : List Item) (row : Row) (base : ℤ) (top : ℕ) (us : List ℕ) (u : ℤ) → IsLeastLoad items row base top us u → worth_size items ≤ 2 ^ 124
    → to_z w128 (of_z w128 u) ≡ u
least_passed items row base top us u l small =
    to_z-of_z w128 u (fits_signed_from_abs w128 u (near u (subst (λ z. unsigned_abs z ≤ 2 ^ 124) l.costs (omega (arith, small, worth_small items us l.way.fits)))))
  where
    near : (a : ℤ) → unsigned_abs a ≤ 2 ^ 124 → unsigned_abs a < 2 ^ 127
    near a h = omega (arith, h)

-- how many cells a table has, by what it is made of
pub cells_are : (f : Form) → cells_of f.rows.items f.spans.items ≡ (length f.spans.items + 1) * (form_room f + 1)
cells_are f =
    ap (λ as'. (length f.spans.items + 1) * (room_of f.rows.items (box_least f.spans.items as') (row_reach f.spans.items (first_terms f.rows.items)) + 1))
    (sym f.dense_coefs)
