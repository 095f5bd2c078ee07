use Rattle.std.proofs.Common.{◌≡◌, ℕ, ◌<◌, pos, get_or}
use Rattle.std.specs.Prelude.{◌*ℤ◌}
use Rattle.search_laws.specs.Master.{one_weight}
use Rattle.search_laws.specs.Spread.{class_blocks}
use Rattle.column_assignment.proofs.whole.add_up.Given as goal

abbrev pub invariant-loop-class : goal.invariant-loop-class
invariant-loop-class l = (k : ℕ) → k < l.class → get_or l.totals k (pos 0) ≡ pos one_weight *ℤ pos (class_blocks l.classes.classes k)
