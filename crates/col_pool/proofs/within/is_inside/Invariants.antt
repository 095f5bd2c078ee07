use Rattle.std.proofs.Common.{ℕ, ◌<◌, get_or}
use Rattle.std.specs.Prelude.{ℤ}
use Rattle.bp_theory.specs.Program.{IsWithin}
use Rattle.bp_theory.specs.declared.Span.{Span}
use Rattle.col_pool.proofs.within.is_inside.Given as goal

abbrev pub invariant-loop-i : goal.invariant-loop-i
invariant-loop-i l = (k : ℕ) (d : Span) (e : ℤ) → k < l.i → IsWithin (get_or l.zone k d) (get_or l.point k e)
