-- Laws of the sums with which a search begins.
use Rattle.std.proofs.Common.{◌≡◌, sym, ap, subst, ◌∙◌, ℕ, zero, suc, ◌+◌, ◌*◌, ◌^◌, ◌<◌, ◌≤◌, List, [], ◌∷◌, map, length, get_or, set, take, arith, ⊎_elim}
use Rattle.std.proofs.Math.IntN.{ℤ, pos, ◌+ℤ◌, ◌*ℤ◌}
use Rattle.std.proofs.Math.Nat.{mul-le-mul_left}
use Rattle.std.specs.Prelude.{unsigned_abs, sum_by, FitsSigned, All}
use Rattle.std.specs.Int.{w128}
use Rattle.std.proofs.lemmas.Int.{ints, clamps, fits_signed_from_abs}
use Rattle.std.proofs.lemmas.Bool.{cases_lt}
use Rattle.std.proofs.lemmas.List.{ext_get_or, get_or-map, length-map, get_or_read, get_or-set_same, get_or-set_other}
use Rattle.std.proofs.lemmas.List.Sums.{get_or-le-sum_by, sum_by-take-le}
use Rattle.bp_theory.specs.Program.{span_at, reach}
use Rattle.bp_theory.specs.Bound.{end_cost, box_least}
use Rattle.bp_theory.specs.Decomposition.{HasVariablesBelow}
use Rattle.bp_theory.specs.Trees.{IsSubzone, IsProper}
use Rattle.bp_theory.specs.declared.Span.{Span}
use Rattle.bp_theory.specs.declared.Term.{Term}
use Rattle.bp_theory.specs.declared.Sense.TheVariants.{Le}
use Rattle.bp_theory.specs.declared.Row.{Row}
use Rattle.bp_theory.proofs.SumLaws.{sum_of_more}
use Rattle.pricing_problem.specs.Form.{term_size, cost_size}
use Rattle.pricing_problem.proofs.EndLaws.{end_cost-within}
use Rattle.enumeration.specs.Reach.{reach_by}
use Rattle.enumeration.proofs.MoveLaws.{reach_at_inside, reach_by_small, cost_at-le}

-- a term's products in a zone are short
pub term_short : (zone spans : List Span) (terms : List Term) (i : ℕ) (d : Term) → IsProper zone → IsSubzone zone spans → sum_by (term_size spans) terms < 2 ^ 62
    → i < length terms → unsigned_abs (get_or terms i d).coef * reach (span_at zone (get_or terms i d).var) < 2 ^ 62
term_short zone spans terms i d proper inside small l =
    omega (
      arith,
      small,
      get_or-le-sum_by (term_size spans) terms i d l,
      mul-le-mul_left (unsigned_abs (get_or terms i d).coef) (reach_at_inside zone spans proper inside (get_or terms i d).var),
    )

-- the sum so far and one end more fit
pub row_sum_fits : (f : Span → ℤ → ℤ) (zone spans : List Span) (terms : List Term) (i : ℕ) (sum end : ℤ)
    → ((s : Span) (r : ℤ) → unsigned_abs (f s r) ≤ unsigned_abs r * reach s)
    → IsProper zone → IsSubzone zone spans → sum_by (term_size spans) terms < 2 ^ 62
    → sum ≡ reach_by f zone (take i terms) → unsigned_abs end < 2 ^ 62 → FitsSigned w128 (sum +ℤ end)
row_sum_fits f zone spans terms i sum end within proper inside small is short =
    fits_signed_from_abs w128 (sum +ℤ end)
    (added sum end
    (subst (λ z. unsigned_abs z < 2 ^ 62) (sym is)
    (omega (
      arith,
      small,
      reach_by_small f zone spans (take i terms) within (reach_at_inside zone spans proper inside),
      sum_by-take-le (term_size spans) terms i,
    )))
    short)
  where
    added : (a b : ℤ) → unsigned_abs a < 2 ^ 62 → unsigned_abs b < 2 ^ 62 → unsigned_abs (a +ℤ b) < 2 ^ 127
    added a b h k = omega (arith, ints)

-- a loop's step: one term more
pub reach_by_more : (f : Span → ℤ → ℤ) (zone : List Span) (terms : List Term) (i : ℕ) (d : Term) (new sum end : ℤ) → i < length terms
    → new ≡ sum +ℤ end → sum ≡ reach_by f zone (take i terms) → end ≡ f (span_at zone (get_or terms i d).var) (get_or terms i d).coef
    → new ≡ reach_by f zone (take (i + 1) terms)
reach_by_more f zone terms i d new sum end l e s is =
    e
    ∙ ap (λ z. z +ℤ end) s
    ∙ ap (λ z. reach_by f zone (take i terms) +ℤ z) is
    ∙ sym (sum_of_more (λ t. f (span_at zone t.var) t.coef) terms i d l)

-- the least over the first spans and one more
pub box_least_more : (zone : List Span) (costs : List ℤ) (k : ℕ) → k < length zone
    → box_least (take (k + 1) zone) costs ≡ box_least (take k zone) costs +ℤ end_cost (span_at zone k) (get_or costs k (pos 0))
box_least_more zone costs k l = ap (λ n. box_least (take n zone) costs) (one k) ∙ by zone costs k l
  where
    one : (n : ℕ) → n + 1 ≡ suc n
    one n = omega arith

    none : (s : Span) → pos 0 ≡ pos 0 +ℤ end_cost s (pos 0)
    none s = omega (arith, ints, clamps, zero_times s.lo, zero_times s.hi)
      where
        zero_times : (v : ℤ) → pos 0 *ℤ v ≡ pos 0
        zero_times v = omega (arith, ints)

    start : (a : ℤ) → a +ℤ pos 0 ≡ pos 0 +ℤ a
    start a = omega (arith, ints)

    grouped : (a b c : ℤ) → a +ℤ (b +ℤ c) ≡ (a +ℤ b) +ℤ c
    grouped a b c = omega (arith, ints)

    by : (ss : List Span) (rs : List ℤ) (n : ℕ) → n < length ss
        → box_least (take (suc n) ss) rs ≡ box_least (take n ss) rs +ℤ end_cost (span_at ss n) (get_or rs n (pos 0))
    by [] rs n m = absurd (omega arith)
    by (s ∷ ss) [] zero m = none s
    by (s ∷ ss) [] (suc n) m = none (span_at ss n)
    by (s ∷ ss) (r ∷ rs) zero m = start (end_cost s r)
    by (s ∷ ss) (r ∷ rs) (suc n) m =
        ap (λ z. end_cost s r +ℤ z) (by ss rs n (omega arith))
        ∙ grouped (end_cost s r) (box_least (take n ss) rs) (end_cost (span_at ss n) (get_or rs n (pos 0)))

-- it stays within the size of the costs
pub box_least_so_far : (zone : List Span) (costs : List ℤ) (k : ℕ) → unsigned_abs (box_least (take k zone) costs) ≤ cost_size zone costs
box_least_so_far [] costs k = none k
  where
    none : (n : ℕ) → unsigned_abs (box_least (take n []) costs) ≤ 0
    none zero = omega arith
    none (suc n) = omega arith
box_least_so_far (s ∷ ss) costs zero = omega arith
box_least_so_far (s ∷ ss) [] (suc k) = omega arith
box_least_so_far (s ∷ ss) (r ∷ rs) (suc k) =
    added (end_cost s r) (box_least (take k ss) rs) (unsigned_abs r * reach s) (cost_size ss rs) (end_cost-within s r) (box_least_so_far ss rs k)
  where
    added : (a b : ℤ) (m n : ℕ) → unsigned_abs a ≤ m → unsigned_abs b ≤ n → unsigned_abs (a +ℤ b) ≤ m + n
    added a b m n h k = omega (arith, ints)

pub cost_fits : (zone : List Span) (costs : List ℤ) (k : ℕ) → k < length zone → cost_size zone costs ≤ 2 ^ 123
    → unsigned_abs (get_or costs k (pos 0)) * reach (span_at zone k) < 2 ^ 127
cost_fits zone costs k l small = omega (arith, small, cost_at-le zone costs k l)

pub cost_total_fits : (zone : List Span) (costs : List ℤ) (k : ℕ) (sum end : ℤ) → k < length zone → cost_size zone costs ≤ 2 ^ 123
    → sum ≡ box_least (take k zone) costs → end ≡ end_cost (span_at zone k) (get_or costs k (pos 0)) → FitsSigned w128 (sum +ℤ end)
cost_total_fits zone costs k sum end l small s e =
    fits_signed_from_abs w128 (sum +ℤ end)
    (added sum end
    (subst (λ z. unsigned_abs z ≤ 2 ^ 123) (sym s) (omega (arith, small, box_least_so_far zone costs k)))
    (subst (λ z. unsigned_abs z ≤ 2 ^ 123) (sym e)
    (omega (arith, small, cost_at-le zone costs k l, end_cost-within (span_at zone k) (get_or costs k (pos 0))))))
  where
    added : (a b : ℤ) → unsigned_abs a ≤ 2 ^ 123 → unsigned_abs b ≤ 2 ^ 123 → unsigned_abs (a +ℤ b) < 2 ^ 127
    added a b h k = omega (arith, ints)

-- a list that has a row's value at each place is the map
pub map_from_places : (g : List Term → ℤ) (rows : List Row) (sums : List ℤ) → length sums ≡ length rows
    → ((i : ℕ) (d : Row) → i < length rows → get_or sums i (pos 0) ≡ g (get_or rows i d).terms) → sums ≡ map (λ (row : Row). g row.terms) rows
map_from_places g rows sums same each =
    ext_get_or (pos 0) sums (map (λ (row : Row). g row.terms) rows) (same ∙ sym (length-map rows (λ (row : Row). g row.terms)))
    (λ i l.
    let none : Row = record { sense = Le; low = pos 0; rhs = pos 0; terms = [] } in
    let there : i < length rows = omega (arith, l, same) in
    each i none there ∙ sym (get_or-map (λ (row : Row). g row.terms) rows i none (pos 0) there))

-- a zone lies in itself
pub zone_itself : (zone : List Span) → IsSubzone zone zone
zone_itself [] = tt
zone_itself (s ∷ ss) = (record { above = omega (arith, ints); below = omega (arith, ints) }, zone_itself ss)

-- the terms of a row that was read name places
pub read_places : (rows : List Row) (n m : ℕ) → All (λ (row : Row). HasVariablesBelow n row.terms) rows → m ≡ n → (q : ℕ) → q < length rows
    → (row : Row) → row ≡ get_or rows q row → (terms : List Term) → terms ≡ row.terms → HasVariablesBelow m terms
read_places rows n m places same q l row is terms of =
    subst (λ k. HasVariablesBelow k terms) (sym same)
    (subst (λ (ts : List Term). HasVariablesBelow n ts) (sym of)
    (subst (λ (r : Row). HasVariablesBelow n r.terms) (sym is) (places q row l)))

-- sums of the first so many rows, with that of one more
pub sum_set : (rows : List Row) (sums : List ℤ) (f : List Term → ℤ) (n : ℕ) (v s : ℤ) (row : Row) (terms : List Term)
    → n < length rows → length sums ≡ length rows → row ≡ get_or rows n row → terms ≡ row.terms → v ≡ s → s ≡ f terms
    → ((i : ℕ) (d : Row) → i < n → get_or sums i (pos 0) ≡ f (get_or rows i d).terms)
    → (i : ℕ) (d : Row) → i < n + 1 → get_or (set sums n v) i (pos 0) ≡ f (get_or rows i d).terms
sum_set rows sums f n v s row terms l many read is same sum before i d m = ⊎_elim
    (λ less. get_or-set_other sums n i v (pos 0) (λ e. omega (arith, less, e)) ∙ before i d less)
    (λ more. let e : i ≡ n = omega (arith, m, more) in
    ap (λ k. get_or (set sums n v) k (pos 0)) e
    ∙ get_or-set_same sums n v (pos 0) (omega (arith, l, many))
    ∙ same ∙ sum ∙ ap f is
    ∙ ap (λ (r : Row). f r.terms) (get_or_read rows n row l read d)
    ∙ ap (λ k. f (get_or rows k d).terms) (sym e))
    (cases_lt i n)
