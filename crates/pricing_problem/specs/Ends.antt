-- What a factor times the numbers of a span can reach.
use Rattle.std.specs.Prelude.{ℤ, ◌*ℤ◌}
use Rattle.std.specs.Int.{int_max}
use Rattle.bp_theory.specs.declared.Span.{Span}

-- the greatest of a factor times a number of a span: at one of its ends
abbrev pub top_cost : Span → ℤ → ℤ
top_cost s r = int_max (r *ℤ s.lo) (r *ℤ s.hi)
