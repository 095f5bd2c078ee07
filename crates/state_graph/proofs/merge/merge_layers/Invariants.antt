use Rattle.state_graph.proofs.MergeLaws.{IsMergedFrom}
use Rattle.state_graph.proofs.merge.merge_layers.Given as goal

abbrev pub invariant-loop-k : goal.invariant-loop-k
invariant-loop-k l = IsMergedFrom l.fn.steps.items l.steps.items l.k l.behind.items l.fn.wide
