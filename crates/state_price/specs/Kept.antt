-- What a pricer keeps.
use Rattle.std.specs.Prelude.{List, ℤ}
use Rattle.bp_theory.specs.declared.Span.{Span}
use Rattle.bp_theory.specs.declared.Row.{Row}
use Rattle.state_price.specs.Arranged.{block_point}
use Rattle.state_price.specs.declared.pricer.StatePricer.{StatePricer}

-- the rows that its points meet
abbrev pub rows_of : StatePricer → List Row
rows_of pricer = pricer.rows.items

-- the root spans
abbrev pub spans_of : StatePricer → List Span
spans_of pricer = pricer.spans.items

-- the point that it keeps
abbrev pub kept_point : StatePricer → List ℤ
kept_point pricer = block_point pricer.arranged pricer.work.point.items
