-- What a graph in an order of a block's variables has to do with the block.
use Rattle.std.specs.Prelude.{List, ℤ, Option, Some, None}
use Rattle.bp_theory.specs.declared.Span.{Span}
use Rattle.bp_theory.specs.declared.Row.{Row}
use Rattle.variable_order.specs.Orders.{rows_by, spans_by}
use Rattle.state_price.specs.declared.arranged.Arranged.{Arranged}

-- rows as a graph has them: by an order, if there is one, else as they are
abbrev pub graph_rows : Option Arranged → List Row → List Row
graph_rows None rows = rows
graph_rows (Some arranged) rows = rows_by arranged.order.places.items rows

-- and spans
abbrev pub graph_spans : Option Arranged → List Span → List Span
graph_spans None spans = spans
graph_spans (Some arranged) spans = spans_by arranged.order.vars.items spans

-- the point of a block, of numbers that a way of its graph has
abbrev pub block_point : Option Arranged → (way : List ℤ) → List ℤ
block_point None way = way
block_point (Some arranged) way = arranged.point.items
