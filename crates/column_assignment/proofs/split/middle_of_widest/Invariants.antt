use Rattle.std.proofs.Common.{◌≡◌, ℕ, ◌<◌, get_or}
use Rattle.std.specs.Prelude.{◌≤ℤ◌, MatchOption}
use Rattle.bp_theory.specs.Trees.{IsSoundSplit}
use Rattle.bp_theory.specs.declared.Span.{Span}
use Rattle.column_assignment.proofs.split.middle_of_widest.Given as goal

abbrev pub invariant-loop-var : goal.invariant-loop-var
invariant-loop-var l =
    MatchOption l.best ((l.widest ≡ 0) × ((k : ℕ) (d : Span) → k < l.var → (get_or l.spans k d).hi ≤ℤ (get_or l.spans k d).lo)) (λ e. IsSoundSplit l.spans e.0 e.1)
