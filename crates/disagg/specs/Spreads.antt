-- What weights of columns give: a point where they are whole and add up, and a split.
use Rattle.std.specs.Prelude.{◌≡◌, List, length, ℤ, MatchOption}
use Rattle.bp_theory.specs.Trees.{IsSoundSplit}
use Rattle.bp_theory.specs.declared.Span.{Span}
use Rattle.search_laws.specs.declared.UsedColumn.{UsedColumn}
use Rattle.search_laws.specs.Spread.{IsSpread}
use Rattle.block_program.specs.Blocked.{BlockedProgram}
use Rattle.block_class.specs.Classes.{Grouping}
use Rattle.column_assignment.specs.Deals.{IsPointZone}
use Rattle.disagg.specs.declared.answer.Spread.{Spread}

-- the point is there exactly where there is a spread, and the split exactly where a span has two numbers
pub record IsSpreadOut (b : BlockedProgram) (zone : List Span) (g : Grouping) (used : List UsedColumn) (s : Spread) : Type 0 where
  pub point_is : MatchOption s.point ((x : List ℤ) → IsSpread b.blocking g.classes g.firsts used x → ⊥)
      (λ x. IsSpread b.blocking g.classes g.firsts used x × (length x ≡ length b.named.program.spans))
  pub split_is : MatchOption s.split (IsPointZone zone) (λ e. IsSoundSplit zone e.0 e.1)
