-- By how much a variable's entries change what rows can reach.
use Rattle.std.specs.Prelude.{◌<◌, ◌*◌, ◌-ℤ◌, unsigned_abs, ℤ}
use Rattle.bp_theory.specs.Limits.{number_limit}
use Rattle.bp_theory.specs.Program.{reach}
use Rattle.bp_theory.specs.Bound.{end_cost}
use Rattle.bp_theory.specs.declared.Span.{Span}
use Rattle.pricing_problem.specs.Ends.{top_cost}
use Rattle.enumeration.specs.declared.columns.Entry.{Entry}

-- an entry's products with numbers of a span stay below the limit of numbers
abbrev pub IsShortAt : Span → Entry → Type 0
IsShortAt s e = unsigned_abs e.coef * reach s < number_limit

-- by how much the least of an entry's products changes from one span to another
abbrev pub least_change : (from to : Span) → Entry → ℤ
least_change from to e = end_cost to e.coef -ℤ end_cost from e.coef

-- by how much the greatest changes
abbrev pub top_change : (from to : Span) → Entry → ℤ
top_change from to e = top_cost to e.coef -ℤ top_cost from e.coef
