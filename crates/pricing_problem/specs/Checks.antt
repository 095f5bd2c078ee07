-- Parts of what a pricer asks for.
use Rattle.std.specs.Prelude.{◌^◌, ◌<◌, List, length, ◌≤ℤ◌}
use Rattle.bp_theory.specs.Limits.{number_limit}
use Rattle.bp_theory.specs.Decomposition.{HasVariablesBelow}
use Rattle.bp_theory.specs.declared.Span.{Span}
use Rattle.bp_theory.specs.declared.Row.{Row}
use Rattle.pricing_problem.specs.Form.{row_size}

-- a row's terms name places of spans, and its sums stay below 2 to the 62
abbrev pub IsFitting : List Span → Row → Type 0
IsFitting spans row = HasVariablesBelow (length spans) row.terms × (row_size spans row < number_limit)

-- a span has a number and lies inside another
abbrev pub IsProperPart : (span root : Span) → Type 0
IsProperPart span root = (root.lo ≤ℤ span.lo) × (span.lo ≤ℤ span.hi) × (span.hi ≤ℤ root.hi)
