-- The sizes of what a pass keeps.
use Rattle.std.specs.Prelude.{◌≡◌, length, All}
use Rattle.shortest_path.specs.Short.{AreCells}
use Rattle.layer_graph.specs.declared.graph.Graph.{Graph}
use Rattle.shortest_path.specs.declared.pass.Work.{Work}

-- a cell and a pick of each layer for each node, in 64 bits a cell for the dead node too, and a place for each variable
pub record HasRoom (graph : Graph) (work : Work) : Type 0 where
  pub now : length work.now.items ≡ graph.wide
  pub next : length work.next.items ≡ graph.wide
  pub short_now : AreCells graph.wide work.short_now.items
  pub short_next : AreCells graph.wide work.short_next.items
  pub many : length work.picks.items ≡ length graph.steps.items
  pub picks : All (λ row. length row ≡ graph.wide) work.picks.items
  pub point : length work.point.items ≡ length graph.steps.items
