use Rattle.std.proofs.Common.{◌≡◌, ℕ, ◌<◌, get_or, length}
use Rattle.bp_theory.specs.Program.{value_at}
use Rattle.block_program.specs.Blocked.{HasCopyAt}
use Rattle.column_assignment.specs.Deals.{point_at}
use Rattle.column_assignment.proofs.point.dealt_point.Given as goal

abbrev pub invariant-loop-var : goal.invariant-loop-var
invariant-loop-var l = record {
  each : length l.point.items ≡ l.var;
  numbers : (v : ℕ) → v < l.var → (at : ℕ × ℕ) × HasCopyAt l.b.blocking.blocks v at
      × (value_at l.point.items v ≡ value_at (point_at l.used (get_or l.columns at.0 0)) at.1);
}
