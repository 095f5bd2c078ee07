-- Laws of ways of a graph in an order.
use Rattle.std.proofs.Common.{◌≡◌, ℕ, List, length}
use Rattle.std.proofs.Math.IntN.{ℤ}
use Rattle.std.specs.Prelude.{Bool, true, false}
use Rattle.std.specs.Bool.{OnTrue}
use Rattle.bp_theory.specs.Program.{IsInside}
use Rattle.bp_theory.specs.Bound.{IsPoint}
use Rattle.bp_theory.specs.declared.Span.{Span}
use Rattle.bp_theory.specs.declared.Row.{Row}
use Rattle.layer_graph.specs.Graphs.{IsWay, IsFaithful}
use Rattle.layer_graph.specs.declared.graph.Arc.{Arc}
use Rattle.shortest_path.proofs.PriceLaws.{way_meets}
use Rattle.variable_order.specs.Orders.{IsOrder, rows_by, spans_by, numbers_by}
use Rattle.variable_order.proofs.OrderLaws.{point_back}

-- a way of a graph in an order, inside a zone, is a point of the block in its own order
pub way_back : (t : Bool) (steps : List (List Arc)) (count : ℕ) (vars places : List ℕ) (rows : List Row) (spans zone : List Span) (ys : List ℤ) → IsOrder count vars places
    → length zone ≡ count → IsFaithful (rows_by places rows) (spans_by vars spans) steps → OnTrue t (IsWay steps 0 ys) → OnTrue t (IsInside (spans_by vars zone) ys)
    → OnTrue t (IsPoint rows zone (numbers_by places ys))
way_back true steps count vars places rows spans zone ys o many g way inside =
    point_back count vars places rows zone ys o many (record { inside = inside; meets = way_meets (rows_by places rows) (spans_by vars spans) steps ys g way })
way_back false steps count vars places rows spans zone ys o many g way inside = tt
