-- Laws of a search's move: one span changed.
use Rattle.std.proofs.Common.{◌≡◌, refl, sym, ap, subst, ◌∙◌, ℕ, zero, suc, ◌+◌, ◌*◌, ◌^◌, ◌<◌, ◌≤◌, Bool, true, false, List, [], ◌∷◌, ◌++◌, map, length, get_or, set, arith, inl, inr}
use Rattle.std.proofs.Math.IntN.{ℤ, pos, ◌+ℤ◌, ◌-ℤ◌}
use Rattle.std.proofs.Math.Nat.{mul-le-mul_left}
use Rattle.std.specs.Prelude.{◌≤ℤ◌, ◌==◌, if◌then◌else◌, ◌⊎◌, unsigned_abs, sum_by, FitsSigned}
use Rattle.std.specs.Int.{w128}
use Rattle.std.specs.List.{AllByRecursion}
use Rattle.std.proofs.lemmas.Int.{ints, fits_signed_from_abs}
use Rattle.std.proofs.lemmas.Bool.{cases_lt, eqb-true}
use Rattle.std.proofs.lemmas.List.{get_or_past, get_or-map, length-map, ext_get_or}
use Rattle.std.proofs.lemmas.List.Sums.{sum_by-cons, sum_by-le-sum_by}
use Rattle.bp_theory.specs.Sums.{sum_at}
use Rattle.bp_theory.specs.Program.{span_at, reach}
use Rattle.bp_theory.specs.Bound.{end_cost, box_least}
use Rattle.bp_theory.specs.Trees.{IsSubzone, IsSubspan, IsProper}
use Rattle.bp_theory.specs.declared.Span.{Span}
use Rattle.bp_theory.specs.declared.Term.{Term}
use Rattle.bp_theory.specs.declared.Sense.TheVariants.{Le}
use Rattle.bp_theory.specs.declared.Row.{Row}
use Rattle.bp_theory.proofs.SumLaws.{sum_of-within}
use Rattle.bp_theory.proofs.ZipLaws.{AllZip_at, AllZip-length}
use Rattle.pricing_problem.specs.Form.{term_size, row_size, cost_size}
use Rattle.pricing_problem.proofs.EndLaws.{end_cost-within}
use Rattle.enumeration.specs.Columns.{entry_of, row_entries, column_from}
use Rattle.enumeration.specs.Shifts.{IsShortAt}
use Rattle.enumeration.specs.Reach.{reach_by}
use Rattle.enumeration.specs.declared.columns.Entry.{Entry}
use Rattle.enumeration.proofs.ReachLaws.{reach_by-column}

-- facts of the elements of joined lists
pub all-append : {X : Type 0} (P : X → Type 0) (xs ys : List X) → AllByRecursion P xs → AllByRecursion P ys → AllByRecursion P (xs ++ ys)
all-append P [] ys h k = k
all-append P (x ∷ xs) ys h k = (h.0, all-append P xs ys h.1 k)

-- a column's entries name rows that are there
pub column_rows : (n first j : ℕ) (rows : List Row) → first + length rows ≤ n → AllByRecursion (λ (e : Entry). e.row < n) (column_from first rows j)
column_rows n first j [] l = tt
column_rows n first j (row ∷ rows) l =
    all-append (λ (e : Entry). e.row < n) (row_entries first j row.terms) (column_from (suc first) rows j)
    (entries row.terms)
    (column_rows n (suc first) j rows (omega arith))
  where
    entries : (ts : List Term) → AllByRecursion (λ (e : Entry). e.row < n) (row_entries first j ts)
    entries [] = tt
    entries (t ∷ ts) = by (t.var == j) (entries ts)
      where
        by : (b : Bool) → AllByRecursion (λ (e : Entry). e.row < n) (row_entries first j ts)
            → AllByRecursion (λ (e : Entry). e.row < n) (if b then entry_of first t ∷ row_entries first j ts else row_entries first j ts)
        by true rest = (omega arith, rest)
        by false rest = rest

-- a column's entries keep their products below 2 to the 62 in the root span
pub column_short : (spans : List Span) (first j : ℕ) (rows : List Row) → AllByRecursion (λ (row : Row). row_size spans row < 2 ^ 62) rows
    → AllByRecursion (IsShortAt (span_at spans j)) (column_from first rows j)
column_short spans first j [] h = tt
column_short spans first j (row ∷ rows) h =
    all-append (IsShortAt (span_at spans j)) (row_entries first j row.terms) (column_from (suc first) rows j)
    (entries row.terms (omega (arith, h.0)))
    (column_short spans (suc first) j rows h.1)
  where
    entries : (ts : List Term) → sum_by (term_size spans) ts < 2 ^ 62 → AllByRecursion (IsShortAt (span_at spans j)) (row_entries first j ts)
    entries [] l = tt
    entries (t ∷ ts) l = by (t.var == j) (λ e. eqb_same e) (entries ts (omega (arith, l, sum_by-cons (term_size spans) t ts)))
      where
        eqb_same : (t.var == j) ≡ true → unsigned_abs t.coef * reach (span_at spans j) < 2 ^ 62
        eqb_same e =
            subst (λ v. unsigned_abs t.coef * reach (span_at spans v) < 2 ^ 62) (eqb-true t.var j e)
            (omega (arith, l, sum_by-cons (term_size spans) t ts))

        by : (b : Bool) → (b ≡ true → unsigned_abs t.coef * reach (span_at spans j) < 2 ^ 62)
            → AllByRecursion (IsShortAt (span_at spans j)) (row_entries first j ts)
            → AllByRecursion (IsShortAt (span_at spans j)) (if b then entry_of first t ∷ row_entries first j ts else row_entries first j ts)
        by true short rest = (short refl, rest)
        by false short rest = rest

-- a smaller span reaches no further
pub reach_inside : (s t : Span) → s.lo ≤ℤ s.hi → IsSubspan s t → reach s ≤ reach t
reach_inside s t p h = omega (arith, ints, p, h.above, h.below)

pub product_inside : (a : ℕ) (s t : Span) → s.lo ≤ℤ s.hi → IsSubspan s t → a * reach s ≤ a * reach t
product_inside a s t p h = mul-le-mul_left a (reach_inside s t p h)

-- at each place of a smaller zone
pub reach_at_inside : (narrow zone : List Span) → IsProper narrow → IsSubzone narrow zone → (k : ℕ) → reach (span_at narrow k) ≤ reach (span_at zone k)
reach_at_inside narrow zone proper inside k = by (cases_lt k (length narrow))
  where
    past : length narrow ≤ k → reach (span_at narrow k) ≤ reach (span_at zone k)
    past l =
        let e : span_at narrow k ≡ record { lo = pos 0; hi = pos 0 } = get_or_past narrow k (record { lo = pos 0; hi = pos 0 }) l in
        let f : span_at zone k ≡ record { lo = pos 0; hi = pos 0 } =
        get_or_past zone k (record { lo = pos 0; hi = pos 0 }) (omega (arith, l, AllZip-length IsSubspan narrow zone inside)) in
        omega (arith, ap reach e, ap reach f)

    by : (k < length narrow) ⊎ (length narrow ≤ k) → reach (span_at narrow k) ≤ reach (span_at zone k)
    by (inl l) = reach_inside (span_at narrow k) (span_at zone k)
        (proper k (record { lo = pos 0; hi = pos 0 }) l)
        (AllZip_at IsSubspan narrow zone inside k (record { lo = pos 0; hi = pos 0 }) (record { lo = pos 0; hi = pos 0 }) l)
    by (inr l) = past l

-- what a row reaches in a smaller zone stays within its size
pub reach_by_small : (f : Span → ℤ → ℤ) (narrow spans : List Span) (terms : List Term)
    → ((s : Span) (r : ℤ) → unsigned_abs (f s r) ≤ unsigned_abs r * reach s)
    → ((k : ℕ) → reach (span_at narrow k) ≤ reach (span_at spans k))
    → unsigned_abs (reach_by f narrow terms) ≤ sum_by (term_size spans) terms
reach_by_small f narrow spans terms within further =
    omega (
      arith,
      sum_of-within (λ t. f (span_at narrow t.var) t.coef) terms,
      sum_by-le-sum_by (λ t. unsigned_abs (f (span_at narrow t.var) t.coef)) (term_size spans) terms each,
    )
  where
    each : (t : Term) → unsigned_abs (f (span_at narrow t.var) t.coef) ≤ unsigned_abs t.coef * reach (span_at spans t.var)
    each t = omega (arith, within (span_at narrow t.var) t.coef, mul-le-mul_left (unsigned_abs t.coef) (further t.var))

-- the cost of a place stays within the size of the costs
pub cost_at-le : (zone : List Span) (costs : List ℤ) (j : ℕ) → j < length zone
    → unsigned_abs (get_or costs j (pos 0)) * reach (span_at zone j) ≤ cost_size zone costs
cost_at-le [] costs j l = absurd (omega arith)
cost_at-le (s ∷ ss) [] j l = omega arith
cost_at-le (s ∷ ss) (r ∷ rs) zero l = omega arith
cost_at-le (s ∷ ss) (r ∷ rs) (suc j) l = omega (arith, cost_at-le ss rs j (omega arith))

-- the least over a smaller box stays within the size of the costs
pub box_least_small : (narrow zone : List Span) (costs : List ℤ) → AllByRecursion (λ (s : Span). s.lo ≤ℤ s.hi) narrow → IsSubzone narrow zone
    → unsigned_abs (box_least narrow costs) ≤ cost_size zone costs
box_least_small [] [] costs p h = omega arith
box_least_small [] (t ∷ ts) costs p h = absurd h
box_least_small (s ∷ ss) [] costs p h = absurd h
box_least_small (s ∷ ss) (t ∷ ts) [] p h = omega arith
box_least_small (s ∷ ss) (t ∷ ts) (r ∷ rs) p h =
    added (end_cost s r) (box_least ss rs) (unsigned_abs r * reach t) (cost_size ts rs)
    (omega (arith, end_cost-within s r, product_inside (unsigned_abs r) s t p.0 h.0))
    (box_least_small ss ts rs p.1 h.1)
  where
    added : (a b : ℤ) (m n : ℕ) → unsigned_abs a ≤ m → unsigned_abs b ≤ n → unsigned_abs (a +ℤ b) ≤ m + n
    added a b m n h k = omega (arith, ints)

-- the running sums of rows after a move
pub sums_moved : (f : Span → ℤ → ℤ) (rows : List Row) (narrow : List Span) (j : ℕ) (to : Span) (column : List Entry) (before now : List ℤ)
    → j < length narrow → column ≡ column_from 0 rows j
    → before ≡ map (λ (row : Row). reach_by f narrow row.terms) rows
    → length now ≡ length before
    → ((q : ℕ) → get_or now q (pos 0) ≡ get_or before q (pos 0) +ℤ sum_at (λ (e : Entry). e.row) (λ e. f to e.coef -ℤ f (span_at narrow j) e.coef) column q)
    → now ≡ map (λ (row : Row). reach_by f (set narrow j to) row.terms) rows
sums_moved f rows narrow j to column before now l is had same shifted =
    ext_get_or (pos 0) now (map (λ (row : Row). reach_by f (set narrow j to) row.terms) rows) lengths each
  where
    many : length now ≡ length rows
    many = same ∙ ap length had ∙ length-map rows (λ (row : Row). reach_by f narrow row.terms)

    lengths : length now ≡ length (map (λ (row : Row). reach_by f (set narrow j to) row.terms) rows)
    lengths = many ∙ sym (length-map rows (λ (row : Row). reach_by f (set narrow j to) row.terms))

    none : Row
    none = record { sense = Le; low = pos 0; rhs = pos 0; terms = [] }

    each : (q : ℕ) → q < length now → get_or now q (pos 0) ≡ get_or (map (λ (row : Row). reach_by f (set narrow j to) row.terms) rows) q (pos 0)
    each q m =
        let there : q < length rows = omega (arith, m, many) in
        shifted q
        ∙ ap (λ (es : List Entry). get_or before q (pos 0) +ℤ sum_at (λ (e : Entry). e.row) (λ e. f to e.coef -ℤ f (span_at narrow j) e.coef) es q) is
        ∙ ap (λ z. z +ℤ sum_at (λ (e : Entry). e.row) (λ e. f to e.coef -ℤ f (span_at narrow j) e.coef) (column_from 0 rows j) q)
        (ap (λ zs. get_or zs q (pos 0)) had ∙ get_or-map (λ (row : Row). reach_by f narrow row.terms) rows q none (pos 0) there)
        ∙ sym (reach_by-column f rows narrow j to q none l there)
        ∙ sym (get_or-map (λ (row : Row). reach_by f (set narrow j to) row.terms) rows q none (pos 0) there)

-- differences and sums of costs fit
pub cost_change_fits : (new old a b : ℤ) → new ≡ a → old ≡ b → unsigned_abs a ≤ 2 ^ 123 → unsigned_abs b ≤ 2 ^ 123 → FitsSigned w128 (new -ℤ old)
cost_change_fits new old a b e f h k = fits_signed_from_abs w128 (new -ℤ old) (omega (arith, ints, e, f, h, k))

pub cost_change_small : (result new old a b : ℤ) → result ≡ new -ℤ old → new ≡ a → old ≡ b → unsigned_abs a ≤ 2 ^ 123 → unsigned_abs b ≤ 2 ^ 123
    → unsigned_abs result ≤ 2 ^ 124
cost_change_small result new old a b r e f h k = omega (arith, ints, r, e, f, h, k)

pub cost_sum_fits : (a b : ℤ) → unsigned_abs a ≤ 2 ^ 123 → unsigned_abs b ≤ 2 ^ 124 → FitsSigned w128 (a +ℤ b)
cost_sum_fits a b h k = fits_signed_from_abs w128 (a +ℤ b) (omega (arith, ints, h, k))
