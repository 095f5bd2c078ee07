use Rattle.shortest_path.proofs.PairLaws.{IsLaid}
use Rattle.shortest_path.proofs.pairs.pairs_in.Given as goal

abbrev pub invariant-loop-k : goal.invariant-loop-k
invariant-loop-k l = IsLaid l.graph.wide l.graph.steps.items l.lists.items l.k l.nodes
