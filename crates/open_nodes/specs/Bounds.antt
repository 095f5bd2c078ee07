-- The costs at the better ends of spans.
use Rattle.std.specs.Prelude.{ℕ, ◌+◌, ◌*◌, List, ℤ, ◌+ℤ◌, unsigned_abs, sum_by}
use Rattle.bp_theory.specs.Sums.{sum_of}
use Rattle.bp_theory.specs.Program.{span_at, reach}
use Rattle.bp_theory.specs.Bound.{end_cost}
use Rattle.bp_theory.specs.declared.Span.{Span}
use Rattle.bp_theory.specs.declared.Term.{Term}

-- the cost of a term at the better end of its variable's span
abbrev pub better_cost : List Span → Term → ℤ
better_cost spans t = end_cost (span_at spans t.var) t.coef

-- the costs at the better ends, and the constant
abbrev pub better_total : ℤ → List Term → List Span → ℤ
better_total constant terms spans = constant +ℤ sum_of (better_cost spans) terms

-- the greatest magnitude of the constant together with that of the costs' sums
abbrev pub total_limit : ℤ → List Term → List Span → ℕ
total_limit constant terms spans = unsigned_abs constant + sum_by (λ t. unsigned_abs t.coef * reach (span_at spans t.var)) terms
