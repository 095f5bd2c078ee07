use Rattle.std.specs.Prelude.{IfSome, ◌≡◌}
use Rattle.block_pricers.specs.Forms.{forms_in}
use Rattle.block_pricers.specs.Works.{forms_of}
use Rattle.cert_format.specs.Sketch.{tree_of}
use Rattle.cert_line_check.specs.Steps.{steps_of, moves}
use Rattle.tree_load.proofs.Loading.{IsLoading}
use Rattle.tree_load.proofs.nodes.load_node.Given as goal

abbrev pub invariant-loop-step : goal.invariant-loop-step
invariant-loop-step l = record {
  loading : IsLoading l.b l.best (tree_of l.sketch) l.fn.at l.nodes.items (steps_of l.ahead.items) l.walk;
  made_for : IfSome l.work (λ made. forms_of made ≡ forms_in l.b);
}

abbrev pub decreases-loop-step : goal.decreases-loop-step
decreases-loop-step l = moves (steps_of l.ahead.items)
