use Rattle.std.proofs.Common.{◌≡◌, map, take}
use Rattle.variable_order.specs.Orders.{row_by}
use Rattle.variable_order.proofs.order.renamed_rows.Given as goal

abbrev pub invariant-loop-row : goal.invariant-loop-row
invariant-loop-row l = l.renamed.items ≡ map (row_by l.places.items) (take l.row-index l.rows)
