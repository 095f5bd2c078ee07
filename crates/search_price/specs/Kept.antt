-- What a pricer keeps.
use Rattle.std.specs.Prelude.{List, ℤ}
use Rattle.bp_theory.specs.declared.Span.{Span}
use Rattle.bp_theory.specs.declared.Row.{Row}
use Rattle.search_price.specs.declared.pricer.SearchPricer.{SearchPricer}

-- the rows that its points meet
abbrev pub rows_of : SearchPricer → List Row
rows_of pricer = pricer.form.rows.items

-- the root spans
abbrev pub spans_of : SearchPricer → List Span
spans_of pricer = pricer.form.spans.items

-- the point that it keeps
abbrev pub kept_point : SearchPricer → List ℤ
kept_point pricer = pricer.dive.point.items
