-- How large the sums at a point inside the spans can be.
use Rattle.std.proofs.Common.{◌≡◌, ℕ, ◌+◌, ◌*◌, ◌<◌, ◌≤◌, ◌^◌, List, [], ◌∷◌, length, get_or, sum_by, All, sym, ap, subst, arith}
use Rattle.std.specs.Prelude.{ℤ, pos, unsigned_abs, ◌*ℤ◌, ◌+ℤ◌}
use Rattle.std.specs.List.{AllByRecursion}
use Rattle.std.proofs.lemmas.Int.{ints, unsigned_abs-mul}
use Rattle.std.proofs.lemmas.List.Sums.{sum_by-cons}
use Rattle.std.proofs.lemmas.List.Elements.{recursion_from_All, All-from_recursion}
use Rattle.std.proofs.Math.Nat.{mul-le-mul_left}
use Rattle.bp_theory.specs.Program.{Program, IsWithin, IsInside, IsFeasible, reach, span_at, value_at, activity, cost, activity_limit, KeepsActivity}
use Rattle.bp_theory.specs.Decomposition.{HasVariablesBelow}
use Rattle.bp_theory.specs.declared.Span.{Span}
use Rattle.bp_theory.specs.declared.Term.{Term}
use Rattle.bp_theory.specs.declared.Row.{Row}
use Rattle.bp_theory.proofs.ZipLaws.{AllZip_at, AllZip-length}
use Rattle.bp_theory.proofs.SumLaws.{sum_of-within}
use Rattle.bp_model.specs.Named.{NamedProgram, IsKept, cost_limit}
use Rattle.bp_theory.specs.declared.Sense.TheVariants.{Le}
use Rattle.bp_model.specs.declared.points.Miss.{Miss}
use Rattle.bp_model.specs.declared.points.Miss.TheVariants.{Length, Bound, Row as Missed}
use Rattle.bp_model.specs.Miss.{CanSum, IsFirstMiss}

-- a number within a span is within the span's reach
pub within_reach : (s : Span) (v : ℤ) → IsWithin s v → unsigned_abs v ≤ reach s
within_reach s v h = omega (arith, ints, h.above, h.below)

-- a term at a point inside the spans
term_within : (spans : List Span) (x : List ℤ) (t : Term) → IsInside spans x → t.var < length spans
    → unsigned_abs (t.coef *ℤ value_at x t.var) ≤ unsigned_abs t.coef * reach (span_at spans t.var)
term_within spans x t inside there =
    let here = AllZip_at IsWithin spans x inside t.var (record { lo = pos 0; hi = pos 0 }) (pos 0) there in
    omega (arith, unsigned_abs-mul t.coef (value_at x t.var), mul-le-mul_left (unsigned_abs t.coef) (within_reach (span_at spans t.var) (value_at x t.var) here))

-- terms at a point inside the spans
sum_within : (spans : List Span) (x : List ℤ) (terms : List Term) → IsInside spans x → AllByRecursion (λ t. t.var < length spans) terms
    → sum_by (λ t. unsigned_abs (t.coef *ℤ value_at x t.var)) terms ≤ sum_by (λ t. unsigned_abs t.coef * reach (span_at spans t.var)) terms
sum_within spans x [] inside below = omega arith
sum_within spans x (t ∷ ts) inside below =
    omega (
      arith,
      term_within spans x t inside below.0,
      sum_within spans x ts inside below.1,
      sum_by-cons (λ (t : Term). unsigned_abs (t.coef *ℤ value_at x t.var)) t ts,
      sum_by-cons (λ (t : Term). unsigned_abs t.coef * reach (span_at spans t.var)) t ts,
    )

-- what is below the limit at the spans can be summed at each point inside
pub can_sum : (spans : List Span) (x : List ℤ) (terms : List Term) (more : ℕ) → IsInside spans x → HasVariablesBelow (length spans) terms
    → more + sum_by (λ t. unsigned_abs t.coef * reach (span_at spans t.var)) terms < 2 ^ 62 → CanSum x terms
can_sum spans x terms more inside below small = record {
  below = subst (λ n. HasVariablesBelow n terms) (AllZip-length IsWithin spans x inside) below;
  small = omega (arith, sum_within spans x terms inside (recursion_from_All (λ t. t.var < length spans) terms below), small);
}

-- a kept program's rows can be summed at each point inside
pub rows_can_sum : (m : NamedProgram) (x : List ℤ) → IsKept m → IsInside m.program.spans x → All (λ row. CanSum x row.terms) m.program.rows
rows_can_sum m x kept inside = λ k d l.
    let row : Row = get_or m.program.rows k d in
    can_sum m.program.spans x row.terms _ inside (kept.closed.rows k d l) (kept.row_activity k d l)

-- a kept program's costs can be summed at each point inside
pub costs_can_sum : (m : NamedProgram) (x : List ℤ) → IsKept m → IsInside m.program.spans x → CanSum x m.program.costs
costs_can_sum m x kept inside = can_sum m.program.spans x m.program.costs _ inside kept.closed.costs kept.cost_activity

-- the cost at a point inside keeps the limit
pub cost_small : (m : NamedProgram) (x : List ℤ) → IsKept m → IsInside m.program.spans x → unsigned_abs (cost m.program x) < 2 ^ 62
cost_small m x kept inside =
    let terms = m.program.costs in
    omega (
      arith,
      ints,
      kept.cost_activity,
      sum_of-within (λ t. t.coef *ℤ value_at x t.var) terms,
      sum_within m.program.spans x terms inside (recursion_from_All (λ t. t.var < length m.program.spans) terms kept.closed.costs),
    )

-- what is wrong with a point tells that it isn't feasible
pub miss_is_infeasible : (p : Program) (x : List ℤ) (m : Miss) → IsFirstMiss p x m → IsFeasible p x → ⊥
miss_is_infeasible p x Length wrong f = wrong (sym (AllZip-length IsWithin p.spans x f.inside))
miss_is_infeasible p x (Bound v) wrong f =
    wrong.1.outside (AllZip_at IsWithin p.spans x f.inside v (record { lo = pos 0; hi = pos 0 }) (pos 0) wrong.1.there)
miss_is_infeasible p x (Missed row) wrong f =
    let none : Row = record { sense = Le; low = pos 0; rhs = pos 0; terms = [] } in
    wrong.1.missed none (f.rows row none wrong.1.there)
