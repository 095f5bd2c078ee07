use Rattle.knapsack_table.proofs.SplitLaws.{first_fits}
use Rattle.knapsack_table.proofs.splits.DoublesIterator.next.Goals as goal

pub overflow_cast-part : goal.overflow_cast-part
overflow_cast-part c = record { fits = first_fits c.self.inside.first c.self.inside.count c.if-self-gt0.true c.self.invariant }
