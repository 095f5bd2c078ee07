-- Laws of what rows can reach in a zone, and of points within narrowed zones.
use Rattle.std.proofs.Common.{◌≡◌, ◌≢◌, refl, sym, ap, ◌∙◌, ℕ, zero, suc, ◌+◌, ◌<◌, Bool, true, false, List, [], ◌∷◌, length, get_or, set, arith, ⊎_elim}
use Rattle.std.proofs.Math.IntN.{ℤ, pos, ◌+ℤ◌, ◌-ℤ◌, ◌*ℤ◌, +ℤ_idl, +ℤ_idr}
use Rattle.std.specs.Prelude.{◌≤ℤ◌, ◌==◌, if◌then◌else◌, All}
use Rattle.std.specs.Int.{int_min, int_max}
use Rattle.std.proofs.lemmas.Int.{ints, clamps}
use Rattle.std.proofs.lemmas.List.{get_or-set_same, get_or-set_other}
use Rattle.std.proofs.lemmas.List.Elements.{recursion_from_All}
use Rattle.std.proofs.lemmas.Bool.{cases_eq}
use Rattle.bp_theory.specs.Sums.{sum_of, sum_at, dot}
use Rattle.bp_theory.specs.Program.{span_at, value_at, IsWithin, IsInside, Meets, MeetsRow, activity}
use Rattle.bp_theory.specs.Decomposition.{HasVariablesBelow}
use Rattle.bp_theory.specs.Bound.{end_cost, box_least}
use Rattle.bp_theory.specs.Trees.{IsSubzone}
use Rattle.bp_theory.specs.declared.Span.{Span}
use Rattle.bp_theory.specs.declared.Term.{Term}
use Rattle.bp_theory.specs.declared.Sense.{Sense}
use Rattle.bp_theory.specs.declared.Sense.TheVariants.{Le, Ge, Eq, In}
use Rattle.bp_theory.specs.declared.Row.{Row}
use Rattle.bp_theory.proofs.SumLaws.{sum_of-add, sum_of-same, sum_of-append, sum_of-le}
use Rattle.bp_theory.proofs.KeyLaws.{if_same, if_other}
use Rattle.bp_theory.proofs.DecompositionProof.{get_or-map_past}
use Rattle.bp_theory.proofs.ZipLaws.{AllZip_at, AllZip-set}
use Rattle.pricing_problem.specs.Ends.{top_cost}
use Rattle.pricing_problem.proofs.EndLaws.{end_cost-le, top_cost-ge, end_cost-one, top_cost-one}
use Rattle.enumeration.specs.Columns.{entry_of, row_entries, column_from}
use Rattle.enumeration.specs.declared.columns.Entry.{Entry}
use Rattle.enumeration.specs.Reach.{reach_by, low_reach, high_reach, CanMeet, CanMeetRow, lows_of, IsSingle}

-- the span at a place that was set
pub span_at-set : (zone : List Span) (j : ℕ) (s : Span) → j < length zone → span_at (set zone j s) j ≡ s
span_at-set zone j s l = get_or-set_same zone j s (record { lo = pos 0; hi = pos 0 }) l

-- and elsewhere
pub span_at-set_other : (zone : List Span) (j k : ℕ) (s : Span) → k ≢ j → span_at (set zone j s) k ≡ span_at zone k
span_at-set_other zone j k s n = get_or-set_other zone j k s (record { lo = pos 0; hi = pos 0 }) n

-- a changed span changes a row's reach by that variable's terms alone
pub reach_by-set : (f : Span → ℤ → ℤ) (zone : List Span) (j : ℕ) (s : Span) (terms : List Term) → j < length zone
    → reach_by f (set zone j s) terms
    ≡ reach_by f zone terms +ℤ sum_of (λ t. if t.var == j then f s t.coef -ℤ f (span_at zone j) t.coef else pos 0) terms
reach_by-set f zone j s terms l =
    sum_of-same
    (λ t. f (span_at (set zone j s) t.var) t.coef)
    (λ t. f (span_at zone t.var) t.coef +ℤ (if t.var == j then f s t.coef -ℤ f (span_at zone j) t.coef else pos 0))
    each
    terms
    ∙ sum_of-add (λ t. f (span_at zone t.var) t.coef) (λ t. if t.var == j then f s t.coef -ℤ f (span_at zone j) t.coef else pos 0) terms
  where
    cancels : (a b : ℤ) → a ≡ b +ℤ (a -ℤ b)
    cancels a b = omega (arith, ints)

    stays : (a : ℤ) → a ≡ a +ℤ pos 0
    stays a = sym (+ℤ_idr a)

    each : (t : Term)
        → f (span_at (set zone j s) t.var) t.coef
        ≡ f (span_at zone t.var) t.coef +ℤ (if t.var == j then f s t.coef -ℤ f (span_at zone j) t.coef else pos 0)
    each t = ⊎_elim
        (λ same.
        ap (λ v. f (span_at (set zone j s) v) t.coef) same
        ∙ ap (λ (u : Span). f u t.coef) (span_at-set zone j s l)
        ∙ cancels (f s t.coef) (f (span_at zone j) t.coef)
        ∙ ap (λ v. f (span_at zone v) t.coef +ℤ (f s t.coef -ℤ f (span_at zone j) t.coef)) (sym same)
        ∙ ap (λ z. f (span_at zone t.var) t.coef +ℤ z) (sym (if_same t.var j (f s t.coef -ℤ f (span_at zone j) t.coef) (pos 0) same)))
        (λ other.
        ap (λ (u : Span). f u t.coef) (span_at-set_other zone j t.var s other)
        ∙ stays (f (span_at zone t.var) t.coef)
        ∙ ap (λ z. f (span_at zone t.var) t.coef +ℤ z) (sym (if_other t.var j (f s t.coef -ℤ f (span_at zone j) t.coef) (pos 0) other)))
        (cases_eq t.var j)

-- the entries of a row weigh as the variable's terms in it
pub row_entries-same : (g : ℤ → ℤ) (q j : ℕ) (terms : List Term)
    → sum_at (λ (e : Entry). e.row) (λ e. g e.coef) (row_entries q j terms) q ≡ sum_of (λ t. if t.var == j then g t.coef else pos 0) terms
row_entries-same g q j [] = refl
row_entries-same g q j (t ∷ ts) = by (t.var == j) (row_entries-same g q j ts)
  where
    by : (b : Bool)
        → sum_at (λ (e : Entry). e.row) (λ e. g e.coef) (row_entries q j ts) q ≡ sum_of (λ t. if t.var == j then g t.coef else pos 0) ts
        → sum_at (λ (e : Entry). e.row) (λ e. g e.coef) (if b then entry_of q t ∷ row_entries q j ts else row_entries q j ts) q
        ≡ (if b then g t.coef else pos 0) +ℤ sum_of (λ t. if t.var == j then g t.coef else pos 0) ts
    by true rest =
        ap (λ z. z +ℤ sum_at (λ (e : Entry). e.row) (λ e. g e.coef) (row_entries q j ts) q) (if_same q q (g t.coef) (pos 0) refl)
        ∙ ap (λ z. g t.coef +ℤ z) rest
    by false rest = rest ∙ sym (+ℤ_idl (sum_of (λ t. if t.var == j then g t.coef else pos 0) ts))

-- and nothing for another row
pub row_entries-other : (g : ℤ → ℤ) (q p j : ℕ) (terms : List Term) → (q ≡ p → ⊥)
    → sum_at (λ (e : Entry). e.row) (λ e. g e.coef) (row_entries q j terms) p ≡ pos 0
row_entries-other g q p j [] n = refl
row_entries-other g q p j (t ∷ ts) n = by (t.var == j) (row_entries-other g q p j ts n)
  where
    by : (b : Bool) → sum_at (λ (e : Entry). e.row) (λ e. g e.coef) (row_entries q j ts) p ≡ pos 0
        → sum_at (λ (e : Entry). e.row) (λ e. g e.coef) (if b then entry_of q t ∷ row_entries q j ts else row_entries q j ts) p ≡ pos 0
    by true rest =
        ap (λ z. z +ℤ sum_at (λ (e : Entry). e.row) (λ e. g e.coef) (row_entries q j ts) p) (if_other q p (g t.coef) (pos 0) n)
        ∙ +ℤ_idl (sum_at (λ (e : Entry). e.row) (λ e. g e.coef) (row_entries q j ts) p)
        ∙ rest
    by false rest = rest

-- a column weighs nothing for rows before its first
pub column_from-before : (g : ℤ → ℤ) (first p j : ℕ) (rows : List Row) → p < first
    → sum_at (λ (e : Entry). e.row) (λ e. g e.coef) (column_from first rows j) p ≡ pos 0
column_from-before g first p j [] l = refl
column_from-before g first p j (row ∷ rows) l =
    sum_of-append (λ (e : Entry). if e.row == p then g e.coef else pos 0) (row_entries first j row.terms) (column_from (suc first) rows j)
    ∙ ap
    (λ z. z +ℤ sum_at (λ (e : Entry). e.row) (λ e. g e.coef) (column_from (suc first) rows j) p)
    (row_entries-other g first p j row.terms (λ e. omega (arith, l, e)))
    ∙ +ℤ_idl (sum_at (λ (e : Entry). e.row) (λ e. g e.coef) (column_from (suc first) rows j) p)
    ∙ column_from-before g (suc first) p j rows (omega arith)

-- a column weighs, for each row, as the variable's terms in it
pub column_from-same : (g : ℤ → ℤ) (first i j : ℕ) (rows : List Row) (d : Row) → i < length rows
    → sum_at (λ (e : Entry). e.row) (λ e. g e.coef) (column_from first rows j) (first + i)
    ≡ sum_of (λ t. if t.var == j then g t.coef else pos 0) (get_or rows i d).terms
column_from-same g first i j [] d l = absurd (omega arith)
column_from-same g first zero j (row ∷ rows) d l =
    ap (sum_at (λ (e : Entry). e.row) (λ e. g e.coef) (column_from first (row ∷ rows) j)) (plain first)
    ∙ sum_of-append (λ (e : Entry). if e.row == first then g e.coef else pos 0) (row_entries first j row.terms) (column_from (suc first) rows j)
    ∙ ap
    (λ z. sum_at (λ (e : Entry). e.row) (λ e. g e.coef) (row_entries first j row.terms) first +ℤ z)
    (column_from-before g (suc first) first j rows (omega arith))
    ∙ +ℤ_idr (sum_at (λ (e : Entry). e.row) (λ e. g e.coef) (row_entries first j row.terms) first)
    ∙ row_entries-same g first j row.terms
  where
    plain : (n : ℕ) → n + 0 ≡ n
    plain n = omega arith
column_from-same g first (suc i) j (row ∷ rows) d l =
    sum_of-append (λ (e : Entry). if e.row == first + suc i then g e.coef else pos 0) (row_entries first j row.terms) (column_from (suc first) rows j)
    ∙ ap
    (λ z. z +ℤ sum_at (λ (e : Entry). e.row) (λ e. g e.coef) (column_from (suc first) rows j) (first + suc i))
    (row_entries-other g first (first + suc i) j row.terms (apart first i))
    ∙ +ℤ_idl (sum_at (λ (e : Entry). e.row) (λ e. g e.coef) (column_from (suc first) rows j) (first + suc i))
    ∙ ap (sum_at (λ (e : Entry). e.row) (λ e. g e.coef) (column_from (suc first) rows j)) (moved first i)
    ∙ column_from-same g (suc first) i j rows d (omega arith)
  where
    moved : (n k : ℕ) → n + suc k ≡ suc n + k
    moved n k = omega arith

    apart : (n k : ℕ) → n ≡ n + suc k → ⊥
    apart n k e = omega (arith, e)

-- a row's reach in a zone with one changed span, by the variable's column
pub reach_by-column : (f : Span → ℤ → ℤ) (rows : List Row) (zone : List Span) (j : ℕ) (s : Span) (q : ℕ) (d : Row) → j < length zone → q < length rows
    → reach_by f (set zone j s) (get_or rows q d).terms
    ≡ reach_by f zone (get_or rows q d).terms
    +ℤ sum_at (λ (e : Entry). e.row) (λ e. f s e.coef -ℤ f (span_at zone j) e.coef) (column_from 0 rows j) q
reach_by-column f rows zone j s q d l m =
    reach_by-set f zone j s (get_or rows q d).terms l
    ∙ ap
    (λ z. reach_by f zone (get_or rows q d).terms +ℤ z)
    (sym (column_from-same (λ a. f s a -ℤ f (span_at zone j) a) 0 q j rows d m)
    ∙ ap (sum_at (λ (e : Entry). e.row) (λ e. f s e.coef -ℤ f (span_at zone j) e.coef) (column_from 0 rows j)) (plain q))
  where
    plain : (n : ℕ) → 0 + n ≡ n
    plain n = omega arith

-- a number of a point lies within its span
pub inside_at : (zone : List Span) (y : List ℤ) → IsInside zone y → (k : ℕ) → k < length zone → IsWithin (span_at zone k) (value_at y k)
inside_at zone y h k l = AllZip_at IsWithin zone y h k (record { lo = pos 0; hi = pos 0 }) (pos 0) l

-- a point's activity lies between the least and the greatest that its zone reaches
pub low_reach-le : (zone : List Span) (y : List ℤ) (terms : List Term) → IsInside zone y → HasVariablesBelow (length zone) terms
    → low_reach zone terms ≤ℤ activity terms y
low_reach-le zone y terms inside below = sum_of-le
    (λ t. end_cost (span_at zone t.var) t.coef)
    (λ t. t.coef *ℤ value_at y t.var)
    terms
    (recursion_from_All (λ t. end_cost (span_at zone t.var) t.coef ≤ℤ (t.coef *ℤ value_at y t.var)) terms each)
  where
    each : All (λ t. end_cost (span_at zone t.var) t.coef ≤ℤ (t.coef *ℤ value_at y t.var)) terms
    each k d l =
        let t : Term = get_or terms k d in
        end_cost-le (span_at zone t.var) t.coef (value_at y t.var) (inside_at zone y inside t.var (below k d l))

pub high_reach-ge : (zone : List Span) (y : List ℤ) (terms : List Term) → IsInside zone y → HasVariablesBelow (length zone) terms
    → activity terms y ≤ℤ high_reach zone terms
high_reach-ge zone y terms inside below = sum_of-le
    (λ t. t.coef *ℤ value_at y t.var)
    (λ t. top_cost (span_at zone t.var) t.coef)
    terms
    (recursion_from_All (λ t. (t.coef *ℤ value_at y t.var) ≤ℤ top_cost (span_at zone t.var) t.coef) terms each)
  where
    each : All (λ t. (t.coef *ℤ value_at y t.var) ≤ℤ top_cost (span_at zone t.var) t.coef) terms
    each k d l =
        let t : Term = get_or terms k d in
        top_cost-ge (span_at zone t.var) t.coef (value_at y t.var) (inside_at zone y inside t.var (below k d l))

-- a row that a point within the zone meets can be met in it
pub can_meet_met : (zone : List Span) (y : List ℤ) (row : Row) → IsInside zone y → HasVariablesBelow (length zone) row.terms → MeetsRow y row → CanMeetRow zone row
can_meet_met zone y row inside below meets =
    by row.sense row.low row.rhs (low_reach zone row.terms) (activity row.terms y) (high_reach zone row.terms)
    (low_reach-le zone y row.terms inside below) (high_reach-ge zone y row.terms inside below) meets
  where
    by : (s : Sense) (low rhs least sum most : ℤ) → least ≤ℤ sum → sum ≤ℤ most → Meets s low rhs sum → CanMeet s low rhs least most
    by Le low rhs least sum most l h m = omega (arith, ints, l, h, m)
    by Ge low rhs least sum most l h m = omega (arith, ints, l, h, m)
    by Eq low rhs least sum most l h m = (omega (arith, ints, h, m.0), omega (arith, ints, l, m.1))
    by In low rhs least sum most l h m = (omega (arith, ints, h, m.0), omega (arith, ints, l, m.1))

value_at-lows : (zone : List Span) (v : ℕ) → value_at (lows_of zone) v ≡ (span_at zone v).lo
value_at-lows zone v = get_or-map_past (λ (s : Span). s.lo) zone v (record { lo = pos 0; hi = pos 0 })

-- where each span has one number, the ends' products are that number's
end_cost-single : (s : Span) (a v : ℤ) → s.lo ≡ s.hi → v ≡ s.lo → end_cost s a ≡ a *ℤ v
end_cost-single s a v e f = by s.lo s.hi e ∙ ap (λ z. a *ℤ z) (sym f)
  where
    by : (lo hi : ℤ) → lo ≡ hi → int_min (a *ℤ lo) (a *ℤ hi) ≡ a *ℤ lo
    by lo hi same = ap (λ z. int_min (a *ℤ lo) (a *ℤ z)) (sym same) ∙ end_cost-one lo a

top_cost-single : (s : Span) (a v : ℤ) → s.lo ≡ s.hi → v ≡ s.lo → top_cost s a ≡ a *ℤ v
top_cost-single s a v e f = by s.lo s.hi e ∙ ap (λ z. a *ℤ z) (sym f)
  where
    by : (lo hi : ℤ) → lo ≡ hi → int_max (a *ℤ lo) (a *ℤ hi) ≡ a *ℤ lo
    by lo hi same = ap (λ z. int_max (a *ℤ lo) (a *ℤ z)) (sym same) ∙ top_cost-one lo a

pub low_reach-single : (zone : List Span) (terms : List Term) → IsSingle zone → low_reach zone terms ≡ activity terms (lows_of zone)
low_reach-single zone terms single = sum_of-same
    (λ t. end_cost (span_at zone t.var) t.coef)
    (λ t. t.coef *ℤ value_at (lows_of zone) t.var)
    (λ t. end_cost-single (span_at zone t.var) t.coef (value_at (lows_of zone) t.var) (single t.var) (value_at-lows zone t.var))
    terms

pub high_reach-single : (zone : List Span) (terms : List Term) → IsSingle zone → high_reach zone terms ≡ activity terms (lows_of zone)
high_reach-single zone terms single = sum_of-same
    (λ t. top_cost (span_at zone t.var) t.coef)
    (λ t. t.coef *ℤ value_at (lows_of zone) t.var)
    (λ t. top_cost-single (span_at zone t.var) t.coef (value_at (lows_of zone) t.var) (single t.var) (value_at-lows zone t.var))
    terms

pub box_least-single : (zone : List Span) (costs : List ℤ) → IsSingle zone → box_least zone costs ≡ dot costs (lows_of zone)
box_least-single [] [] single = refl
box_least-single [] (r ∷ rs) single = refl
box_least-single (s ∷ ss) [] single = refl
box_least-single (s ∷ ss) (r ∷ rs) single =
    ap (λ z. z +ℤ box_least ss rs) (end_cost-single s r s.lo (single 0) refl)
    ∙ ap (λ z. r *ℤ s.lo +ℤ z) (box_least-single ss rs (λ k. single (suc k)))

-- the point of a zone of single numbers lies within it
pub lows_inside : (zone : List Span) → IsSingle zone → IsInside zone (lows_of zone)
lows_inside [] single = tt
lows_inside (s ∷ ss) single =
    (record { above = omega (arith, ints); below = omega (arith, ints, single 0) }, lows_inside ss (λ k. single (suc k)))

-- a row that can be met where each span has one number is met
pub met_single : (zone : List Span) (row : Row) → IsSingle zone → CanMeetRow zone row → MeetsRow (lows_of zone) row
met_single zone row single can =
    by row.sense row.low row.rhs (low_reach zone row.terms) (activity row.terms (lows_of zone)) (high_reach zone row.terms)
    (low_reach-single zone row.terms single) (high_reach-single zone row.terms single) can
  where
    by : (s : Sense) (low rhs least sum most : ℤ) → least ≡ sum → most ≡ sum → CanMeet s low rhs least most → Meets s low rhs sum
    by Le low rhs least sum most l h m = omega (arith, ints, l, h, m)
    by Ge low rhs least sum most l h m = omega (arith, ints, l, h, m)
    by Eq low rhs least sum most l h m = (omega (arith, ints, h, m.0), omega (arith, ints, l, m.1))
    by In low rhs least sum most l h m = (omega (arith, ints, h, m.0), omega (arith, ints, l, m.1))

-- the least over a box with one changed span
pub box_least-set : (zone : List Span) (costs : List ℤ) (j : ℕ) (s : Span) → j < length zone
    → box_least (set zone j s) costs
    ≡ box_least zone costs +ℤ (end_cost s (get_or costs j (pos 0)) -ℤ end_cost (span_at zone j) (get_or costs j (pos 0)))
box_least-set [] costs j s l = absurd (omega arith)
box_least-set (t ∷ ts) [] zero s l = sym (ends_none s t)
  where
    zero_times : (v : ℤ) → pos 0 *ℤ v ≡ pos 0
    zero_times v = omega (arith, ints)

    ends_none : (u w : Span) → pos 0 +ℤ (end_cost u (pos 0) -ℤ end_cost w (pos 0)) ≡ pos 0
    ends_none u w = omega (arith, ints, clamps, zero_times u.lo, zero_times u.hi, zero_times w.lo, zero_times w.hi)
box_least-set (t ∷ ts) [] (suc j) s l = sym (ends_none s (span_at ts j))
  where
    zero_times : (v : ℤ) → pos 0 *ℤ v ≡ pos 0
    zero_times v = omega (arith, ints)

    ends_none : (u w : Span) → pos 0 +ℤ (end_cost u (pos 0) -ℤ end_cost w (pos 0)) ≡ pos 0
    ends_none u w = omega (arith, ints, clamps, zero_times u.lo, zero_times u.hi, zero_times w.lo, zero_times w.hi)
box_least-set (t ∷ ts) (r ∷ rs) zero s l = swapped (end_cost s r) (end_cost t r) (box_least ts rs)
  where
    swapped : (a b c : ℤ) → a +ℤ c ≡ (b +ℤ c) +ℤ (a -ℤ b)
    swapped a b c = omega (arith, ints)
box_least-set (t ∷ ts) (r ∷ rs) (suc j) s l =
    ap (λ z. end_cost t r +ℤ z) (box_least-set ts rs j s (omega arith))
    ∙ grouped (end_cost t r) (box_least ts rs) (end_cost s (get_or rs j (pos 0)) -ℤ end_cost (span_at ts j) (get_or rs j (pos 0)))
  where
    grouped : (a b c : ℤ) → a +ℤ (b +ℤ c) ≡ (a +ℤ b) +ℤ c
    grouped a b c = omega (arith, ints)

-- the least over a box undercuts each of its points
pub box_least-le : (spans : List Span) (costs y : List ℤ) → length costs ≡ length spans → IsInside spans y → box_least spans costs ≤ℤ dot costs y
box_least-le [] [] y e inside = omega (arith, ints)
box_least-le [] (r ∷ rs) y e inside = absurd (omega arith)
box_least-le (s ∷ ss) [] y e inside = absurd (omega arith)
box_least-le (s ∷ ss) (r ∷ rs) [] e inside = absurd inside
box_least-le (s ∷ ss) (r ∷ rs) (x ∷ xs) e inside =
    omega (arith, ints, end_cost-le s r x inside.0, box_least-le ss rs xs (omega arith) inside.1)

-- a point of a zone lies in the zone where a place has its number alone
pub inside_set : (zone : List Span) (y : List ℤ) (j : ℕ) → IsInside zone y
    → IsInside (set zone j (record { lo = value_at y j; hi = value_at y j })) y
inside_set zone y j inside =
    AllZip-set IsWithin zone y inside j (record { lo = value_at y j; hi = value_at y j }) (pos 0) (record { above = omega (arith, ints); below = omega (arith, ints) })

-- a point of a smaller zone lies in the larger
pub inside_larger : (small large : List Span) (y : List ℤ) → IsSubzone small large → IsInside small y → IsInside large y
inside_larger [] [] y sub inside = inside
inside_larger [] (t ∷ ts) y sub inside = absurd sub
inside_larger (s ∷ ss) [] y sub inside = absurd sub
inside_larger (s ∷ ss) (t ∷ ts) [] sub inside = absurd inside
inside_larger (s ∷ ss) (t ∷ ts) (v ∷ vs) sub inside = (
  record { above = omega (arith, ints, sub.0.above, inside.0.above); below = omega (arith, ints, sub.0.below, inside.0.below) },
  inside_larger ss ts vs sub.1 inside.1,
)
