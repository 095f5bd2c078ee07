use Rattle.std.proofs.Common.{length}
use Rattle.state_graph.proofs.LayerLaws.{IsSoFar}
use Rattle.state_graph.proofs.columns.layers_from.Given as goal

abbrev pub invariant-loop-var : goal.invariant-loop-var
invariant-loop-var l = IsSoFar (length l.rows) l.spans l.dense l.var l.layers.items l.hulls l.twins
