-- What a search's move needs and leaves.
use Rattle.std.proofs.Common.{◌≡◌, refl, sym, ap, subst, ◌∙◌, ℕ, ◌*◌, ◌^◌, ◌<◌, ◌≤◌, List, [], ◌∷◌, map, length, get_or, set, vec_len, arith, inl, inr}
use Rattle.std.proofs.Math.IntN.{ℤ, pos, ◌+ℤ◌, ◌-ℤ◌, +ℤ_idl}
use Rattle.std.specs.Prelude.{Option, None, Some, ◌≤ℤ◌, ◌⊎◌, unsigned_abs, All}
use Rattle.std.specs.List.{AllByRecursion}
use Rattle.std.proofs.lemmas.Int.{ints}
use Rattle.std.proofs.lemmas.Bool.{cases_eq}
use Rattle.std.proofs.lemmas.List.{get_or_read, get_or-map, length-map, length-set, get_or-set_same, get_or-set_other}
use Rattle.std.proofs.lemmas.List.Elements.{recursion_from_All, All-from_recursion}
use Rattle.bp_theory.specs.Sums.{sum_at}
use Rattle.bp_theory.specs.Program.{span_at, reach}
use Rattle.bp_theory.specs.Bound.{end_cost, box_least}
use Rattle.bp_theory.specs.Trees.{IsSubzone, IsSubspan, IsProper}
use Rattle.bp_theory.specs.declared.Span.{Span}
use Rattle.bp_theory.specs.declared.Sense.TheVariants.{Le}
use Rattle.bp_theory.specs.declared.Row.{Row}
use Rattle.bp_theory.proofs.ZipLaws.{AllZip_at, AllZip-length, AllZip-set}
use Rattle.pricing_problem.specs.Ends.{top_cost}
use Rattle.pricing_problem.specs.Priced.{HasNoPoint}
use Rattle.bp_theory.specs.Decomposition.{HasVariablesBelow}
use Rattle.bp_theory.proofs.KeyLaws.{if_other}
use Rattle.pricing_problem.specs.Form.{row_size, IsPriceable}
use Rattle.pricing_problem.proofs.EndLaws.{end_cost-within, top_cost-within}
use Rattle.enumeration.specs.Columns.{column_from}
use Rattle.enumeration.specs.Shifts.{IsShortAt, least_change, top_change}
use Rattle.enumeration.specs.Reach.{reach_by, low_reach, high_reach, CanMeet, CanMeetRow}
use Rattle.enumeration.specs.Search.{IsTracked, CanMeetAt}
use Rattle.enumeration.specs.Best.{IsCovered, AllCovered}
use Rattle.enumeration.specs.declared.columns.Entry.{Entry}
use Rattle.enumeration.specs.declared.dive.Dive.{Dive}
use Rattle.enumeration.specs.declared.form.Form.{Form}
use Rattle.enumeration.proofs.ReachLaws.{box_least-set, box_least-le, reach_by-column, can_meet_met}
use Rattle.enumeration.proofs.MoveLaws.{column_rows, column_short, product_inside, reach_at_inside, reach_by_small, cost_at-le, box_least_small, sums_moved}

-- a zone's span at a place lies in the root's
pub zone_at_inside : (small large : List Span) → IsSubzone small large → (k : ℕ) → k < length small → IsSubspan (span_at small k) (span_at large k)
zone_at_inside small large h k l = AllZip_at IsSubspan small large h k (record { lo = pos 0; hi = pos 0 }) (record { lo = pos 0; hi = pos 0 }) l

pub subspan_trans : (r s t : Span) → IsSubspan r s → IsSubspan s t → IsSubspan r t
subspan_trans r s t h k = record { above = omega (arith, ints, h.above, k.above); below = omega (arith, ints, h.below, k.below) }

pub subzone_trans : (r s t : List Span) → IsSubzone r s → IsSubzone s t → IsSubzone r t
subzone_trans [] [] t h k = k
subzone_trans [] (y ∷ ys) t h k = absurd h
subzone_trans (x ∷ xs) [] t h k = absurd h
subzone_trans (x ∷ xs) (y ∷ ys) [] h k = absurd k
subzone_trans (x ∷ xs) (y ∷ ys) (z ∷ zs) h k = (subspan_trans x y z h.0 k.0, subzone_trans xs ys zs h.1 k.1)

-- a column's entries name rows that have running sums
pub entries_named : (rows : List Row) (var n : ℕ) (column : List Entry) → column ≡ column_from 0 rows var → length rows ≤ n → All (λ (e : Entry). e.row < n) column
entries_named rows var n column is l =
    subst (λ (es : List Entry). All (λ (e : Entry). e.row < n) es) (sym is)
    (All-from_recursion (λ (e : Entry). e.row < n) (column_from 0 rows var) (column_rows n 0 var rows (omega (arith, l))))

-- a column's entries keep their products short in a span within the root's
pub entries_short : (rows : List Row) (spans : List Span) (var : ℕ) (s : Span) (column : List Entry) → column ≡ column_from 0 rows var
    → All (λ (row : Row). row_size spans row < 2 ^ 62) rows → s.lo ≤ℤ s.hi → IsSubspan s (span_at spans var) → All (IsShortAt s) column
entries_short rows spans var s column is sizes proper part k d l =
    omega (
      arith,
      product_inside (unsigned_abs (get_or column k d).coef) s (span_at spans var) proper part,
      subst (λ (es : List Entry). All (IsShortAt (span_at spans var)) es) (sym is)
          (All-from_recursion (IsShortAt (span_at spans var)) (column_from 0 rows var)
          (column_short spans 0 var rows (recursion_from_All (λ (row : Row). row_size spans row < 2 ^ 62) rows sizes)))
          k d l,
    )

-- running sums of rows are short
pub sums_short : (f : Span → ℤ → ℤ) (rows : List Row) (spans narrow : List Span) (sums : List ℤ)
    → ((s : Span) (r : ℤ) → unsigned_abs (f s r) ≤ unsigned_abs r * reach s)
    → All (λ (row : Row). row_size spans row < 2 ^ 62) rows → IsProper narrow → IsSubzone narrow spans
    → sums ≡ map (λ (row : Row). reach_by f narrow row.terms) rows → All (λ z. unsigned_abs z < 2 ^ 62) sums
sums_short f rows spans narrow sums within sizes proper inside is =
    subst (λ zs. All (λ z. unsigned_abs z < 2 ^ 62) zs) (sym is) each
  where
    each : All (λ z. unsigned_abs z < 2 ^ 62) (map (λ (row : Row). reach_by f narrow row.terms) rows)
    each k d l =
        let none : Row = record { sense = Le; low = pos 0; rhs = pos 0; terms = [] } in
        let there : k < length rows = omega (arith, l, length-map rows (λ (row : Row). reach_by f narrow row.terms)) in
        subst (λ z. unsigned_abs z < 2 ^ 62) (sym (get_or-map (λ (row : Row). reach_by f narrow row.terms) rows k none d there))
        (omega (
          arith,
          sizes k none there,
          reach_by_small f narrow spans (get_or rows k none).terms within (reach_at_inside narrow spans proper inside),
        ))

-- a zone with a place's span changed within the zone to be priced
pub set_inside : (narrow zone : List Span) (j : ℕ) (to : Span) → IsSubzone narrow zone → IsSubspan to (span_at zone j) → IsSubzone (set narrow j to) zone
set_inside narrow zone j to h part = AllZip-set IsSubspan narrow zone h j to (record { lo = pos 0; hi = pos 0 }) part

pub set_proper : (narrow : List Span) (j : ℕ) (to : Span) → IsProper narrow → to.lo ≤ℤ to.hi → IsProper (set narrow j to)
set_proper narrow j to proper p k d l = by (cases_eq k j)
  where
    there : k < length narrow
    there = omega (arith, l, length-set narrow j to)

    by : (k ≡ j) ⊎ (k ≡ j → ⊥) → (get_or (set narrow j to) k d).lo ≤ℤ (get_or (set narrow j to) k d).hi
    by (inl same) =
        subst (λ (s : Span). s.lo ≤ℤ s.hi)
        (sym (ap (λ i. get_or (set narrow j to) i d) same ∙ get_or-set_same narrow j to d (omega (arith, there, same))))
        p
    by (inr other) = subst (λ (s : Span). s.lo ≤ℤ s.hi) (sym (get_or-set_other narrow j k to d other)) (proper k d there)

-- what is known where a search moves
pub record CanMove (f : Form) (zone : List Span) (costs : List ℤ) (d : Dive) (var : ℕ) (to : Span) : Type 0 where
  pub priceable : IsPriceable f.spans.items zone costs
  pub tracked : IsTracked f.rows.items zone costs d
  pub there : var < length zone
  pub part : IsSubspan to (span_at zone var)
  pub fits : to.lo ≤ℤ to.hi

pub many_spans : (f : Form) (zone : List Span) (costs : List ℤ) → IsPriceable f.spans.items zone costs → length zone ≡ length f.spans.items
many_spans f zone costs p = AllZip-length IsSubspan zone f.spans.items p.in_root.inside

pub many_narrow : (f : Form) (zone : List Span) (costs : List ℤ) (d : Dive) → IsTracked f.rows.items zone costs d → length d.zone.items ≡ length zone
many_narrow f zone costs d t = AllZip-length IsSubspan d.zone.items zone t.inside

-- the column that was read
pub column_is : (f : Form) (zone : List Span) (costs : List ℤ) (var : ℕ) → IsPriceable f.spans.items zone costs → var < length zone
    → (read column : List Entry) → column ≡ read → read ≡ get_or f.columns.items var read → column ≡ column_from 0 f.rows.items var
column_is f zone costs var p l read column e r =
    let there : var < length f.columns.items =
    omega (arith, l, many_spans f zone costs p, f.wide, f.columns.ok.0, f.spans.ok.0) in
    e ∙ get_or_read f.columns.items var read there r [] ∙ f.by_variables var there

-- the old span that was read
pub from_is : (f : Form) (zone : List Span) (costs : List ℤ) (d : Dive) (var : ℕ) → IsTracked f.rows.items zone costs d → var < length zone
    → (from : Span) → from ≡ get_or d.zone.items var from → from ≡ span_at d.zone.items var
from_is f zone costs d var t l from r =
    get_or_read d.zone.items var from (omega (arith, l, many_narrow f zone costs d t)) r (record { lo = pos 0; hi = pos 0 })

pub to_in_root : (f : Form) (zone : List Span) (costs : List ℤ) (d : Dive) (var : ℕ) (to : Span) → CanMove f zone costs d var to
    → IsSubspan to (span_at f.spans.items var)
to_in_root f zone costs d var to m =
    subspan_trans to (span_at zone var) (span_at f.spans.items var) m.part
    (zone_at_inside zone f.spans.items m.priceable.in_root.inside var m.there)

pub from_in_zone : (f : Form) (zone : List Span) (costs : List ℤ) (d : Dive) (var : ℕ) (to : Span) → CanMove f zone costs d var to
    → IsSubspan (span_at d.zone.items var) (span_at zone var)
from_in_zone f zone costs d var to m =
    zone_at_inside d.zone.items zone m.tracked.inside var (omega (arith, m.there, many_narrow f zone costs d m.tracked))

pub from_in_root : (f : Form) (zone : List Span) (costs : List ℤ) (d : Dive) (var : ℕ) (to : Span) → CanMove f zone costs d var to
    → IsSubspan (span_at d.zone.items var) (span_at f.spans.items var)
from_in_root f zone costs d var to m =
    subspan_trans (span_at d.zone.items var) (span_at zone var) (span_at f.spans.items var)
    (from_in_zone f zone costs d var to m)
    (zone_at_inside zone f.spans.items m.priceable.in_root.inside var m.there)

pub from_proper : (f : Form) (zone : List Span) (costs : List ℤ) (d : Dive) (var : ℕ) (to : Span) → CanMove f zone costs d var to
    → (span_at d.zone.items var).lo ≤ℤ (span_at d.zone.items var).hi
from_proper f zone costs d var to m =
    m.tracked.proper var (record { lo = pos 0; hi = pos 0 }) (omega (arith, m.there, many_narrow f zone costs d m.tracked))

pub move_rows : (f : Form) (zone : List Span) (costs : List ℤ) (d : Dive) (var : ℕ) (to : Span) → CanMove f zone costs d var to
    → (read column : List Entry) → column ≡ read → read ≡ get_or f.columns.items var read
    → (n : ℕ) → length f.rows.items ≤ n → All (λ (e : Entry). e.row < n) column
move_rows f zone costs d var to m read column e r n l =
    entries_named f.rows.items var n column (column_is f zone costs var m.priceable m.there read column e r) l

pub move_short : (f : Form) (zone : List Span) (costs : List ℤ) (d : Dive) (var : ℕ) (to : Span) → CanMove f zone costs d var to
    → (read column : List Entry) → column ≡ read → read ≡ get_or f.columns.items var read → All (IsShortAt to) column
move_short f zone costs d var to m read column e r =
    entries_short f.rows.items f.spans.items var to column (column_is f zone costs var m.priceable m.there read column e r)
    f.kept.sizes m.fits (to_in_root f zone costs d var to m)

pub move_short_from : (f : Form) (zone : List Span) (costs : List ℤ) (d : Dive) (var : ℕ) (to : Span) → CanMove f zone costs d var to
    → (read column : List Entry) → column ≡ read → read ≡ get_or f.columns.items var read
    → (from : Span) → from ≡ get_or d.zone.items var from → All (IsShortAt from) column
move_short_from f zone costs d var to m read column e r from s =
    subst (λ (u : Span). All (IsShortAt u) column) (sym (from_is f zone costs d var m.tracked m.there from s))
    (entries_short f.rows.items f.spans.items var (span_at d.zone.items var) column (column_is f zone costs var m.priceable m.there read column e r)
    f.kept.sizes (from_proper f zone costs d var to m) (from_in_root f zone costs d var to m))

pub lows_short : (f : Form) (zone : List Span) (costs : List ℤ) (d : Dive) → IsPriceable f.spans.items zone costs → IsTracked f.rows.items zone costs d
    → All (λ z. unsigned_abs z < 2 ^ 62) d.lows.items
lows_short f zone costs d p t =
    sums_short end_cost f.rows.items f.spans.items d.zone.items d.lows.items end_cost-within f.kept.sizes t.proper
    (subzone_trans d.zone.items zone f.spans.items t.inside p.in_root.inside) t.lows

pub highs_short : (f : Form) (zone : List Span) (costs : List ℤ) (d : Dive) → IsPriceable f.spans.items zone costs → IsTracked f.rows.items zone costs d
    → All (λ z. unsigned_abs z < 2 ^ 62) d.highs.items
highs_short f zone costs d p t =
    sums_short top_cost f.rows.items f.spans.items d.zone.items d.highs.items top_cost-within f.kept.sizes t.proper
    (subzone_trans d.zone.items zone f.spans.items t.inside p.in_root.inside) t.highs

pub lows_many : (f : Form) (zone : List Span) (costs : List ℤ) (d : Dive) → IsTracked f.rows.items zone costs d → length f.rows.items ≤ vec_len d.lows
lows_many f zone costs d t =
    omega (arith, ap length t.lows, length-map f.rows.items (λ (row : Row). low_reach d.zone.items row.terms), d.lows.ok.0)

pub highs_many : (f : Form) (zone : List Span) (costs : List ℤ) (d : Dive) → IsTracked f.rows.items zone costs d → length f.rows.items ≤ vec_len d.highs
highs_many f zone costs d t =
    omega (arith, ap length t.highs, length-map f.rows.items (λ (row : Row). high_reach d.zone.items row.terms), d.highs.ok.0)

pub cost_short : (f : Form) (zone : List Span) (costs : List ℤ) (d : Dive) (var : ℕ) (to : Span) → CanMove f zone costs d var to
    → unsigned_abs (get_or costs var (pos 0)) * reach to ≤ 2 ^ 123
cost_short f zone costs d var to m =
    omega (
      arith,
      product_inside (unsigned_abs (get_or costs var (pos 0))) to (span_at zone var) m.fits m.part,
      cost_at-le zone costs var m.there,
      m.priceable.sizes,
    )

pub cost_short_from : (f : Form) (zone : List Span) (costs : List ℤ) (d : Dive) (var : ℕ) (to : Span) → CanMove f zone costs d var to
    → (from : Span) → from ≡ get_or d.zone.items var from → unsigned_abs (get_or costs var (pos 0)) * reach from ≤ 2 ^ 123
cost_short_from f zone costs d var to m from s =
    subst (λ (u : Span). unsigned_abs (get_or costs var (pos 0)) * reach u ≤ 2 ^ 123) (sym (from_is f zone costs d var m.tracked m.there from s))
    (omega (
      arith,
      product_inside (unsigned_abs (get_or costs var (pos 0))) (span_at d.zone.items var) (span_at zone var)
          (from_proper f zone costs d var to m) (from_in_zone f zone costs d var to m),
      cost_at-le zone costs var m.there,
      m.priceable.sizes,
    ))

pub least_short : (f : Form) (zone : List Span) (costs : List ℤ) (d : Dive) → IsPriceable f.spans.items zone costs → IsTracked f.rows.items zone costs d
    → unsigned_abs d.least ≤ 2 ^ 123
least_short f zone costs d p t =
    subst (λ z. unsigned_abs z ≤ 2 ^ 123) (sym t.least)
    (omega (
      arith,
      box_least_small d.zone.items zone costs (recursion_from_All (λ (s : Span). s.lo ≤ℤ s.hi) d.zone.items t.proper) t.inside,
      p.sizes,
    ))

-- after the move the running numbers are those of the changed zone
pub moved_lows : (f : Form) (zone : List Span) (costs : List ℤ) (d : Dive) (var : ℕ) (to : Span) → CanMove f zone costs d var to
    → (read column : List Entry) → column ≡ read → read ≡ get_or f.columns.items var read
    → (from : Span) → from ≡ get_or d.zone.items var from
    → (now : List ℤ) → length now ≡ length d.lows.items
    → ((q : ℕ) → get_or now q (pos 0) ≡ get_or d.lows.items q (pos 0) +ℤ sum_at (λ (e : Entry). e.row) (least_change from to) column q)
    → now ≡ map (λ (row : Row). low_reach (set d.zone.items var to) row.terms) f.rows.items
moved_lows f zone costs d var to m read column e r from s now same shifted =
    sums_moved end_cost f.rows.items d.zone.items var to column d.lows.items now
    (omega (arith, m.there, many_narrow f zone costs d m.tracked))
    (column_is f zone costs var m.priceable m.there read column e r)
    m.tracked.lows same
    (λ q. shifted q
    ∙ ap (λ (u : Span). get_or d.lows.items q (pos 0) +ℤ sum_at (λ (e : Entry). e.row) (least_change u to) column q)
    (from_is f zone costs d var m.tracked m.there from s))

pub moved_highs : (f : Form) (zone : List Span) (costs : List ℤ) (d : Dive) (var : ℕ) (to : Span) → CanMove f zone costs d var to
    → (read column : List Entry) → column ≡ read → read ≡ get_or f.columns.items var read
    → (from : Span) → from ≡ get_or d.zone.items var from
    → (now : List ℤ) → length now ≡ length d.highs.items
    → ((q : ℕ) → get_or now q (pos 0) ≡ get_or d.highs.items q (pos 0) +ℤ sum_at (λ (e : Entry). e.row) (top_change from to) column q)
    → now ≡ map (λ (row : Row). high_reach (set d.zone.items var to) row.terms) f.rows.items
moved_highs f zone costs d var to m read column e r from s now same shifted =
    sums_moved top_cost f.rows.items d.zone.items var to column d.highs.items now
    (omega (arith, m.there, many_narrow f zone costs d m.tracked))
    (column_is f zone costs var m.priceable m.there read column e r)
    m.tracked.highs same
    (λ q. shifted q
    ∙ ap (λ (u : Span). get_or d.highs.items q (pos 0) +ℤ sum_at (λ (e : Entry). e.row) (top_change u to) column q)
    (from_is f zone costs d var m.tracked m.there from s))

pub moved_least : (f : Form) (zone : List Span) (costs : List ℤ) (d : Dive) (var : ℕ) (to : Span) → CanMove f zone costs d var to
    → (from : Span) → from ≡ get_or d.zone.items var from
    → (now change : ℤ) → now ≡ d.least +ℤ change → change ≡ end_cost to (get_or costs var (pos 0)) -ℤ end_cost from (get_or costs var (pos 0))
    → now ≡ box_least (set d.zone.items var to) costs
moved_least f zone costs d var to m from s now change e is =
    e
    ∙ ap (λ z. z +ℤ change) m.tracked.least
    ∙ ap (λ z. box_least d.zone.items costs +ℤ z)
    (is
    ∙ ap (λ (u : Span). end_cost to (get_or costs var (pos 0)) -ℤ end_cost u (get_or costs var (pos 0)))
    (from_is f zone costs d var m.tracked m.there from s))
    ∙ sym (box_least-set d.zone.items costs var to (omega (arith, m.there, many_narrow f zone costs d m.tracked)))

-- a column either names a row for which a fact of all its rows holds, or weighs nothing for it
pub named_or_none : (P : ℕ → Type 0) (q : ℕ) (es : List Entry) → AllByRecursion (λ (e : Entry). P e.row) es
    → P q ⊎ ((w : Entry → ℤ) → sum_at (λ (e : Entry). e.row) w es q ≡ pos 0)
named_or_none P q [] h = inr (λ w. refl)
named_or_none P q (e ∷ es) h = by (cases_eq e.row q) (named_or_none P q es h.1)
  where
    by : (e.row ≡ q) ⊎ (e.row ≡ q → ⊥) → P q ⊎ ((w : Entry → ℤ) → sum_at (λ (u : Entry). u.row) w es q ≡ pos 0)
        → P q ⊎ ((w : Entry → ℤ) → sum_at (λ (u : Entry). u.row) w (e ∷ es) q ≡ pos 0)
    by (inl same) rest = inl (subst P same h.0)
    by (inr other) (inl found) = inl found
    by (inr other) (inr none) =
        inr (λ w. ap (λ z. z +ℤ sum_at (λ (u : Entry). u.row) w es q) (if_other e.row q (w e) (pos 0) other)
        ∙ +ℤ_idl (sum_at (λ (u : Entry). u.row) w es q)
        ∙ none w)

-- a row that isn't named in a variable's column reaches as far whatever the variable's span
pub unnamed_reach : (f : Span → ℤ → ℤ) (rows : List Row) (narrow : List Span) (var q : ℕ) (d : Row) (s t : Span) → var < length narrow → q < length rows
    → ((w : Entry → ℤ) → sum_at (λ (e : Entry). e.row) w (column_from 0 rows var) q ≡ pos 0)
    → reach_by f (set narrow var s) (get_or rows q d).terms ≡ reach_by f (set narrow var t) (get_or rows q d).terms
unnamed_reach f rows narrow var q d s t l m none =
    reach_by-column f rows narrow var s q d l m
    ∙ ap (λ z. reach_by f narrow (get_or rows q d).terms +ℤ z) (none (λ e. f s e.coef -ℤ f (span_at narrow var) e.coef) ∙ sym (none (λ e. f t e.coef -ℤ f (span_at narrow var) e.coef)))
    ∙ sym (reach_by-column f rows narrow var t q d l m)

-- each row can be met where those in the column can, and the others could with another span
pub all_can_meet : (rows : List Row) (narrow : List Span) (var : ℕ) (s whole : Span) → var < length narrow
    → All (CanMeetRow (set narrow var whole)) rows
    → All (λ (e : Entry). CanMeetAt rows (set narrow var s) e.row) (column_from 0 rows var)
    → All (CanMeetRow (set narrow var s)) rows
all_can_meet rows narrow var s whole l others named q d m = by
    (named_or_none (CanMeetAt rows (set narrow var s)) q (column_from 0 rows var)
    (recursion_from_All (λ (e : Entry). CanMeetAt rows (set narrow var s) e.row) (column_from 0 rows var) named))
  where
    by : CanMeetAt rows (set narrow var s) q ⊎ ((w : Entry → ℤ) → sum_at (λ (e : Entry). e.row) w (column_from 0 rows var) q ≡ pos 0)
        → CanMeetRow (set narrow var s) (get_or rows q d)
    by (inl found) = found d
    by (inr none) =
        let row : Row = get_or rows q d in
        let same : CanMeetRow (set narrow var whole) (get_or rows q d) = others q d m in
        subst (λ z. CanMeet (get_or rows q d).sense (get_or rows q d).low (get_or rows q d).rhs z (high_reach (set narrow var s) (get_or rows q d).terms))
        (unnamed_reach end_cost rows narrow var q d whole s l m none)
        (subst (λ z. CanMeet (get_or rows q d).sense (get_or rows q d).low (get_or rows q d).rhs (low_reach (set narrow var whole) (get_or rows q d).terms) z)
        (unnamed_reach top_cost rows narrow var q d whole s l m none) same)

-- a row that can't be met leaves no point
pub no_point : (rows : List Row) (narrow : List Span) (q : ℕ) (d : Row) → q < length rows → HasVariablesBelow (length narrow) (get_or rows q d).terms
    → (CanMeetRow narrow (get_or rows q d) → ⊥) → HasNoPoint rows narrow
no_point rows narrow q d l below fails y point =
    fails (can_meet_met narrow y (get_or rows q d) point.inside below (point.meets q d l))

-- the least over the zone undercuts each point
pub covered_by_least : (rows : List Row) (narrow : List Span) (costs : List ℤ) (best : Option ℤ) → length costs ≡ length narrow
    → IsCovered best (box_least narrow costs) → AllCovered rows narrow costs best
covered_by_least rows narrow costs None e h y point = h
covered_by_least rows narrow costs (Some best) e h y point =
    omega (arith, ints, h, box_least-le narrow costs y e point.inside)

-- a fact along an equation of facts
pub coe_along : {P Q : Type 0} → P ≡ Q → P → Q
coe_along e p = subst (λ (X : Type 0). X) e p

-- a row that was read, and its running sums
pub row_reach : (f : Span → ℤ → ℤ) (rows : List Row) (narrow : List Span) (sums : List ℤ) (q : ℕ) (read : ℤ) (d : Row) → q < length rows
    → sums ≡ map (λ (row : Row). reach_by f narrow row.terms) rows → read ≡ get_or sums q read → read ≡ reach_by f narrow (get_or rows q d).terms
row_reach f rows narrow sums q read d l is r =
    get_or_read sums q read (omega (arith, l, ap length is, length-map rows (λ (row : Row). reach_by f narrow row.terms))) r (pos 0)
    ∙ ap (λ zs. get_or zs q (pos 0)) is
    ∙ get_or-map (λ (row : Row). reach_by f narrow row.terms) rows q d (pos 0) l

-- whether a row can be met, by the row and the sums that were read
pub can_meet_read : (f : Form) (zone : List Span) (costs : List ℤ) (d : Dive) → IsTracked f.rows.items zone costs d → (q : ℕ) → q < vec_len f.rows
    → (row : Row) → row ≡ get_or f.rows.items q row → (least most : ℤ) → least ≡ get_or d.lows.items q least → most ≡ get_or d.highs.items q most
    → CanMeet row.sense row.low row.rhs least most ≡ CanMeetRow d.zone.items row
can_meet_read f zone costs d t q l row is least most low high =
    let there : q < length f.rows.items = omega (arith, l, f.rows.ok.0) in
    let same : (e : Row) → row ≡ get_or f.rows.items q e = get_or_read f.rows.items q row there is in
    ap (λ z. CanMeet row.sense row.low row.rhs z most)
    (row_reach end_cost f.rows.items d.zone.items d.lows.items q least row there t.lows low ∙ ap (λ (r : Row). low_reach d.zone.items r.terms) (sym is))
    ∙ ap (λ z. CanMeet row.sense row.low row.rhs (low_reach d.zone.items row.terms) z)
    (row_reach top_cost f.rows.items d.zone.items d.highs.items q most row there t.highs high ∙ ap (λ (r : Row). high_reach d.zone.items r.terms) (sym is))

pub met_at : (f : Form) (zone : List Span) (costs : List ℤ) (d : Dive) → IsTracked f.rows.items zone costs d → (q : ℕ) → q < vec_len f.rows
    → (row : Row) → row ≡ get_or f.rows.items q row → (least most : ℤ) → least ≡ get_or d.lows.items q least → most ≡ get_or d.highs.items q most
    → CanMeet row.sense row.low row.rhs least most → CanMeetAt f.rows.items d.zone.items q
met_at f zone costs d t q l row is least most low high can e =
    subst (λ (r : Row). CanMeetRow d.zone.items r)
    (get_or_read f.rows.items q row (omega (arith, l, f.rows.ok.0)) is e)
    (coe_along (can_meet_read f zone costs d t q l row is least most low high) can)

pub unmet_at : (f : Form) (zone : List Span) (costs : List ℤ) (d : Dive) → IsPriceable f.spans.items zone costs → IsTracked f.rows.items zone costs d
    → (q : ℕ) → q < vec_len f.rows
    → (row : Row) → row ≡ get_or f.rows.items q row → (least most : ℤ) → least ≡ get_or d.lows.items q least → most ≡ get_or d.highs.items q most
    → (CanMeet row.sense row.low row.rhs least most → ⊥) → HasNoPoint f.rows.items d.zone.items
unmet_at f zone costs d p t q l row is least most low high fails =
    let there : q < length f.rows.items = omega (arith, l, f.rows.ok.0) in
    no_point f.rows.items d.zone.items q row there
    (subst (λ n. HasVariablesBelow n (get_or f.rows.items q row).terms)
    (sym (many_narrow f zone costs d t ∙ many_spans f zone costs p))
    (f.kept.places q row there))
    (λ can. fails (coe_along (sym (can_meet_read f zone costs d t q l row is least most low high)) (subst (λ (r : Row). CanMeetRow d.zone.items r) (sym is) can)))
