-- The sizes of rows' sums, of multipliers times them, and of their sums.
use Rattle.std.proofs.Common.{◌≡◌, ℕ, zero, suc, ◌+◌, ◌*◌, ◌<◌, ◌≤◌, ◌^◌, ◌==◌, Bool, true, false, if◌then◌else◌, List, [], ◌∷◌, map, length, take, get_or, sum_by, max, refl, sym, ap, subst, ◌∙◌, ⊎_elim, inl, arith}
use Rattle.std.specs.Prelude.{ℤ, pos, ◌+ℤ◌, ◌-ℤ◌, ◌*ℤ◌, negsuc, unsigned_abs}
use Rattle.std.specs.List.{AllByRecursion}
use Rattle.std.specs.List.Sorted.{IsStrictlyIncreasing}
use Rattle.std.proofs.lemmas.Int.{ints, unsigned_abs-mul}
use Rattle.std.proofs.lemmas.Bool.{cases_lt}
use Rattle.std.proofs.Math.Nat.{mul-le-mul_left}
use Rattle.std.proofs.lemmas.List.{length-map}
use Rattle.std.proofs.lemmas.List.Elements.{recursion_from_All}
use Rattle.std.proofs.lemmas.List.Sums.{sum_by-cons, get_or-le-sum_by}
use Rattle.bp_theory.specs.Limits.{most_lines}
use Rattle.bp_theory.specs.Sums.{sum_of}
use Rattle.bp_theory.specs.Program.{Program, coefficient, span_at, reach}
use Rattle.bp_theory.specs.Blocking.{sides_of}
use Rattle.bp_theory.specs.Bound.{side}
use Rattle.bp_theory.specs.Decomposition.{Decomposition, ProofRow, whole_row, link_row, no_row}
use Rattle.bp_theory.specs.Cuts.{row_coefficient, row_side}
use Rattle.bp_theory.specs.declared.Limits.TheVariants.{Large}
use Rattle.bp_theory.specs.declared.Span.{Span}
use Rattle.bp_theory.specs.declared.Term.{Term}
use Rattle.bp_theory.specs.declared.Row.{Row}
use Rattle.bp_theory.proofs.LimitLaws.{few_lines}
use Rattle.bp_theory.proofs.SumLaws.{sum_of-within, sum_of_so_far_within, sum_of_more}
use Rattle.bp_model.specs.Tidy.{sum_limit, pair_limit}
use Rattle.cut_sums.specs.Cutting.{IsWhole, IsCutOver}
use Rattle.cut_sums.specs.Rows.{program_of, rows_in, sum_in, low_activity, row_low, entry_demand, IsRows, IsSmall, IsBounded, IsBoundedRow, IsBoundedEntry, AreEntries}
use Rattle.cut_sums.specs.declared.rows.Rows.{Rows}
use Rattle.bp_theory.specs.declared.Cut.{Cut}
use Rattle.bp_theory.specs.Decomposition.{link_count}
use Rattle.bp_theory.proofs.DecompositionProof.{get_or-map_past}
use Rattle.cut_sums.proofs.RowLemmas.{row_behind, entries_bounded}

-- a product of numbers of these sizes
pub product_within : (u z : ℤ) → unsigned_abs u ≤ 2 ^ 20 → unsigned_abs z ≤ 2 ^ 62 → unsigned_abs (u *ℤ z) ≤ 2 ^ 82
product_within u z hu hz =
    let right = mul-le-mul_left (unsigned_abs u) hz in
    omega (arith, unsigned_abs-mul u z, right)

-- the terms of one variable are within the sizes of all
at_within : (v : ℕ) (ts : List Term)
    → sum_by (λ (t : Term). unsigned_abs (if t.var == v then t.coef else pos 0)) ts ≤ sum_by (λ (t : Term). unsigned_abs t.coef) ts
at_within v [] = omega arith
at_within v (t ∷ ts) =
    let f : Term → ℕ = λ t. unsigned_abs (if t.var == v then t.coef else pos 0) in
    let g : Term → ℕ = λ t. unsigned_abs t.coef in
    omega (arith, sum_by-cons f t ts, sum_by-cons g t ts, at_within v ts, by (t.var == v))
  where
    by : (b : Bool) → unsigned_abs (if b then t.coef else pos 0) ≤ unsigned_abs t.coef
    by true = omega arith
    by false = omega arith

-- the sizes of coefficients are within what their sums may be
sizes_within : (spans : List Span) (ts : List Term) → sum_by (λ (t : Term). unsigned_abs t.coef) ts ≤ sum_limit spans ts
sizes_within spans [] = omega arith
sizes_within spans (t ∷ ts) =
    let f : Term → ℕ = λ t. unsigned_abs t.coef in
    let g : Term → ℕ = λ t. unsigned_abs t.coef * reach (span_at spans t.var) in
    let one : unsigned_abs t.coef * 1 ≤ unsigned_abs t.coef * reach (span_at spans t.var) = mul-le-mul_left (unsigned_abs t.coef) (omega arith) in
    omega (arith, sum_by-cons f t ts, sum_by-cons g t ts, sizes_within spans ts, one)

-- the sums of a bounded row are small
pub row_small : (p : Program) (row : Row) → IsBounded p row → sum_limit p.spans row.terms < 2 ^ 62
row_small p row h =
    let act : max (unsigned_abs row.low) (unsigned_abs row.rhs) + sum_limit p.spans row.terms < 2 ^ 62 = h.activity in
    omega (arith, act)

pub small_terms : (p : Program) (row : Row) → IsBounded p row → IsSmall row.terms
small_terms p row h = omega (arith, row_small p row h, sizes_within p.spans row.terms)

-- the coefficient of a variable in the first of small terms
coefficient_within : (ts : List Term) (v i : ℕ) → IsSmall ts → unsigned_abs (coefficient (take i ts) v) ≤ 2 ^ 62
coefficient_within ts v i h =
    let within : unsigned_abs (coefficient (take i ts) v) ≤ sum_by (λ (t : Term). unsigned_abs (if t.var == v then t.coef else pos 0)) ts =
    sum_of_so_far_within (λ (t : Term). if t.var == v then t.coef else pos 0) ts i in
    omega (arith, h, at_within v ts, within)

whole_coefficient_within : (ts : List Term) (v : ℕ) → IsSmall ts → unsigned_abs (coefficient ts v) ≤ 2 ^ 62
whole_coefficient_within ts v h =
    let within : unsigned_abs (coefficient ts v) ≤ sum_by (λ (t : Term). unsigned_abs (if t.var == v then t.coef else pos 0)) ts =
    sum_of-within (λ (t : Term). if t.var == v then t.coef else pos 0) ts in
    omega (arith, h, at_within v ts, within)

-- the same times a multiplier
pub so_far_within : (ts : List Term) (u : ℤ) (i v : ℕ) → IsSmall ts → unsigned_abs u ≤ 2 ^ 20 → unsigned_abs (u *ℤ coefficient (take i ts) v) ≤ 2 ^ 82
so_far_within ts u i v h size = product_within u (coefficient (take i ts) v) size (coefficient_within ts v i h)

-- ---- sums at the lower ends

low_size : (spans : List Span) (t : Term) → unsigned_abs (t.coef *ℤ (span_at spans t.var).lo) ≤ unsigned_abs t.coef * reach (span_at spans t.var)
low_size spans t =
    let most : unsigned_abs (span_at spans t.var).lo ≤ reach (span_at spans t.var) = omega arith in
    omega (arith, unsigned_abs-mul t.coef ((span_at spans t.var).lo), mul-le-mul_left (unsigned_abs t.coef) most)

lows_within : (spans : List Span) (ts : List Term)
    → sum_by (λ (t : Term). unsigned_abs (t.coef *ℤ (span_at spans t.var).lo)) ts ≤ sum_limit spans ts
lows_within spans [] = omega arith
lows_within spans (t ∷ ts) =
    let f : Term → ℕ = λ t. unsigned_abs (t.coef *ℤ (span_at spans t.var).lo) in
    let g : Term → ℕ = λ t. unsigned_abs t.coef * reach (span_at spans t.var) in
    omega (arith, sum_by-cons f t ts, sum_by-cons g t ts, lows_within spans ts, low_size spans t)

pub low_within : (spans : List Span) (ts : List Term) → unsigned_abs (low_activity spans ts) ≤ sum_limit spans ts
low_within spans ts = omega (arith, lows_within spans ts, sum_of-within (λ (t : Term). t.coef *ℤ (span_at spans t.var).lo) ts)

-- one more term keeps the sum so far within what the terms allow
pub low_more : (spans : List Span) (ts : List Term) (i : ℕ) (d : Term) (sum more : ℤ) → i < length ts
    → sum ≡ low_activity spans (take i ts) → more ≡ (get_or ts i d).coef *ℤ (span_at spans (get_or ts i d).var).lo → sum_limit spans ts < 2 ^ 62
    → (sum +ℤ more ≡ low_activity spans (take (i + 1) ts)) × (unsigned_abs (sum +ℤ more) < 2 ^ 62)
low_more spans ts i d sum more l so_far next small =
    let f : Term → ℤ = λ t. t.coef *ℤ (span_at spans t.var).lo in
    let step : sum +ℤ more ≡ low_activity spans (take (i + 1) ts) = omega (arith, ints, sum_of_more f ts i d l, so_far, next) in
    (step, omega (arith, ints, step, sum_of_so_far_within f ts (i + 1), lows_within spans ts, small))

-- ---- sums of rows

-- a sum of so many numbers of a size
sum_within : {X : Type 0} (f : X → ℤ) (xs : List X) → AllByRecursion (λ x. unsigned_abs (f x) ≤ 2 ^ 82) xs → unsigned_abs (sum_of f xs) ≤ length xs * 2 ^ 82
sum_within f [] h = omega arith
sum_within f (x ∷ xs) h = omega (arith, ints, h.0, sum_within f xs h.1)

-- and of the first of them
so_far_of : {X : Type 0} (f : X → ℤ) (xs : List X) (i : ℕ) → AllByRecursion (λ x. unsigned_abs (f x) ≤ 2 ^ 82) xs
    → unsigned_abs (sum_of f (take i xs)) ≤ length xs * 2 ^ 82
so_far_of f [] zero h = omega arith
so_far_of f [] (suc i) h = omega arith
so_far_of f (x ∷ xs) zero h = omega arith
so_far_of f (x ∷ xs) (suc i) h = omega (arith, ints, h.0, so_far_of f xs i h.1)

entry_within : (p : Program) (row : ProofRow) (u : ℤ) (v : ℕ) → unsigned_abs u ≤ 2 ^ 20 → IsBoundedRow p row → unsigned_abs (u *ℤ row_coefficient row v) ≤ 2 ^ 82
entry_within p (whole_row row) u v size h = product_within u (coefficient row.terms v) size (whole_coefficient_within row.terms v (small_terms p row h))
entry_within p (link_row w k) u v size h = absurd h
entry_within p no_row u v size h = absurd h

-- the coefficient of a variable in the sum of the first rows
pub sum_in_within : (p : Program) (rows : List ProofRow) (ms : List (ℕ × ℤ)) (i v : ℕ) → AreEntries p rows ms
    → unsigned_abs (sum_in rows (take i ms) v) ≤ 2 ^ 116
sum_in_within p rows ms i v h =
    let f : ℕ × ℤ → ℤ = λ m. m.1 *ℤ row_coefficient (get_or rows m.0 no_row) v in
    omega (arith, so_far_of f ms i (each ms (recursion_from_All (IsBoundedEntry p rows) ms h.each)), h.few)
  where
    each : (ms : List (ℕ × ℤ)) → AllByRecursion (IsBoundedEntry p rows) ms
        → AllByRecursion (λ m. unsigned_abs (m.1 *ℤ row_coefficient (get_or rows m.0 no_row) v) ≤ 2 ^ 82) ms
    each [] h = tt
    each (m ∷ ms) h = (entry_within p (get_or rows m.0 no_row) m.1 v h.0.size h.0.row, each ms h.1)

-- ---- what rows demand

side_within : (p : Program) (row : Row) (u : ℤ) → IsBounded p row → unsigned_abs (side (sides_of row) u -ℤ low_activity p.spans row.terms) ≤ 2 ^ 62
side_within p row u h = by u
  where
    act : max (unsigned_abs row.low) (unsigned_abs row.rhs) + sum_limit p.spans row.terms < 2 ^ 62
    act = h.activity

    by : (u : ℤ) → unsigned_abs (side (sides_of row) u -ℤ low_activity p.spans row.terms) ≤ 2 ^ 62
    by (pos zero) = omega (arith, ints, act, low_within p.spans row.terms)
    by (pos (suc n)) = omega (arith, ints, act, low_within p.spans row.terms)
    by (negsuc n) = omega (arith, ints, act, low_within p.spans row.terms)

demand_within : (p : Program) (row : ProofRow) (u : ℤ) → unsigned_abs u ≤ 2 ^ 20 → IsBoundedRow p row → unsigned_abs (u *ℤ (row_side row u -ℤ row_low p row)) ≤ 2 ^ 82
demand_within p (whole_row row) u size h = product_within u (side (sides_of row) u -ℤ low_activity p.spans row.terms) size (side_within p row u h)
demand_within p (link_row v k) u size h = absurd h
demand_within p no_row u size h = absurd h

demands_each : (p : Program) (rows : List ProofRow) (ms : List (ℕ × ℤ)) → AllByRecursion (IsBoundedEntry p rows) ms
    → AllByRecursion (λ m. unsigned_abs (entry_demand p rows m) ≤ 2 ^ 82) ms
demands_each p rows [] h = tt
demands_each p rows (m ∷ ms) h = (demand_within p (get_or rows m.0 no_row) m.1 h.0.size h.0.row, demands_each p rows ms h.1)

-- all rows together
pub demands_within : (p : Program) (rows : List ProofRow) (ms : List (ℕ × ℤ)) → AreEntries p rows ms → unsigned_abs (sum_of (entry_demand p rows) ms) ≤ 2 ^ 104
demands_within p rows ms h =
    omega (arith, sum_within (entry_demand p rows) ms (demands_each p rows ms (recursion_from_All (IsBoundedEntry p rows) ms h.each)), h.few)

-- one more row
pub demand_more : (p : Program) (rows : List ProofRow) (ms : List (ℕ × ℤ)) (i : ℕ) (sum more : ℤ) → AreEntries p rows ms → i < length ms
    → sum ≡ sum_of (entry_demand p rows) (take i ms) → more ≡ entry_demand p rows (get_or ms i (0, pos 0))
    → (sum +ℤ more ≡ sum_of (entry_demand p rows) (take (i + 1) ms)) × (unsigned_abs (sum +ℤ more) ≤ 2 ^ 116)
demand_more p rows ms i sum more h l so_far next =
    let step : sum +ℤ more ≡ sum_of (entry_demand p rows) (take (i + 1) ms) = omega (arith, ints, sum_of_more (entry_demand p rows) ms i (0, pos 0) l, so_far, next) in
    (step, omega (arith, ints, step, so_far_of (entry_demand p rows) ms (i + 1) (demands_each p rows ms (recursion_from_All (IsBoundedEntry p rows) ms h.each)), h.few))

-- what an entry's row demands, from its parts
pub above_is : (p : Program) (rows : List ProofRow) (m : ℕ × ℤ) (row : Row) (spans : List Span) (above : ℤ) → IsBoundedEntry p rows m
    → get_or rows m.0 no_row ≡ whole_row row → IsBounded p row → spans ≡ p.spans
    → above ≡ side (sides_of row) m.1 -ℤ low_activity spans row.terms
    → (m.1 *ℤ above ≡ entry_demand p rows m) × (unsigned_abs (m.1 *ℤ above) ≤ 2 ^ 82)
above_is p rows m row spans above entry row_is bounded spans_are told =
    let is : above ≡ side (sides_of row) m.1 -ℤ low_activity p.spans row.terms =
    told ∙ ap (λ (s : List Span). side (sides_of row) m.1 -ℤ low_activity s row.terms) spans_are in
    let whole : m.1 *ℤ above ≡ entry_demand p rows m =
    ap (λ z. m.1 *ℤ z) is ∙ ap (λ (r : ProofRow). m.1 *ℤ (row_side r m.1 -ℤ row_low p r)) (sym row_is) in
    (whole, subst (λ (z : ℤ). unsigned_abs z ≤ 2 ^ 82) (sym whole) (demand_within p (get_or rows m.0 no_row) m.1 entry.size entry.row))

-- ---- the entries of a cut are few

-- numbers that ascend below a number are no more than that
few_below : (xs : List ℕ) (n : ℕ) → IsStrictlyIncreasing xs → ((k : ℕ) → k < length xs → get_or xs k 0 < n) → length xs ≤ n
few_below xs n h below = by (length xs) refl
  where
    at_least : (k : ℕ) → k < length xs → k ≤ get_or xs k 0
    at_least zero l = omega arith
    at_least (suc k) l =
        let before = at_least k (omega arith) in
        let next : k + 1 ≡ suc k = omega arith in
        let step : get_or xs k 0 < get_or xs (k + 1) 0 = h k (omega arith) in
        omega (arith, before, step, ap (λ m. get_or xs m 0) next)

    by : (m : ℕ) → length xs ≡ m → length xs ≤ n
    by zero e = omega (arith, e)
    by (suc m) e =
        let l : m < length xs = omega (arith, e) in
        let first = at_least m l in
        let last = below m l in
        omega (arith, e, first, last)

-- a row that a cut combines is below the rows' number
whole_below : (s : Rows) (i : ℕ) → IsRows s → IsWhole (get_or (rows_in s) i no_row) → i < 1048831
whole_below s i h w = ⊎_elim
    (λ own. omega (arith, own, few))
    (λ past.
    let of = row_behind p d s.earlier.now i h.formed.places past w in
    omega (arith, few, of.behind, of.there, h.few))
    (cases_lt i (length p.rows))
  where
    p : Program
    p = program_of s

    d : Decomposition
    d = s.b.now.dec

    few : length p.rows + link_count p d ≤ most_lines Large
    few = ⊎_elim
        (λ over. absurd (h.formed.moderate (inl over)))
        (λ l. omega (arith, l, few_lines p.limits))
        (cases_lt (most_lines p.limits) (length p.rows + link_count p d))

-- the entries of a cut
pub entries_are : (s : Rows) (cut : Cut) → IsRows s → IsCutOver (rows_in s) cut → AreEntries (program_of s) (rows_in s) cut.rows
entries_are s cut h over =
    let keys : List ℕ = map (λ (m : ℕ × ℤ). m.0) cut.rows in
    let long : length keys ≡ length cut.rows = length-map cut.rows (λ (m : ℕ × ℤ). m.0) in
    let below : (k : ℕ) → k < length keys → get_or keys k 0 < 1048831 =
    λ k l. subst (λ n. n < 1048831) (sym (get_or-map_past (λ (m : ℕ × ℤ). m.0) cut.rows k (0, pos 0)))
    (whole_below s (get_or cut.rows k (0, pos 0)).0 h (over.whole k (0, pos 0) (omega (arith, l, long)))) in record {
      few = omega (arith, long, few_below keys 1048831 over.small.ascend below);
      each = entries_bounded s cut h over;
    }

-- a coefficient that leaves 62 bits alone
pub over_alone : (spans : List Span) (es : List (ℕ × ℤ)) (size i : ℕ) (d : ℕ × ℤ) → i < length es → size ≡ unsigned_abs (get_or es i d).1 → 2 ^ 62 ≤ size
    → 2 ^ 62 ≤ pair_limit spans es
over_alone spans es size i d l is large =
    let g : ℕ × ℤ → ℕ = λ e. unsigned_abs e.1 * reach (span_at spans e.0) in
    let e : ℕ × ℤ = get_or es i d in
    let one : unsigned_abs e.1 * 1 ≤ unsigned_abs e.1 * reach (span_at spans e.0) = mul-le-mul_left (unsigned_abs e.1) (omega arith) in
    omega (arith, is, large, one, get_or-le-sum_by g es i d l)
