use Rattle.std.proofs.Common.{ℕ, ◌<◌, get_or}
use Rattle.std.specs.Prelude.{◌≤ℤ◌}
use Rattle.bp_theory.specs.declared.Span.{Span}
use Rattle.node_bound.proofs.fork.first_open.Given as goal

abbrev pub invariant-loop-i : goal.invariant-loop-i
invariant-loop-i l = (k : ℕ) (d : Span) → k < l.i → (get_or l.spans k d).hi ≤ℤ (get_or l.spans k d).lo
