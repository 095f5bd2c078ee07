use Rattle.std.proofs.Common.{ℕ, ◌<◌, get_or}
use Rattle.bp_theory.specs.Program.{MeetsRow}
use Rattle.bp_theory.specs.declared.Row.{Row}
use Rattle.bp_model.proofs.points.first_missed.Given as goal

abbrev pub invariant-loop-i : goal.invariant-loop-i
invariant-loop-i l = (k : ℕ) (d : Row) → k < l.i → MeetsRow l.point (get_or l.rows k d)
