use Rattle.std.proofs.Common.{◌≡◌}
use Rattle.node_memory.proofs.budget.PricingBudget.leave_out.Given as goal

abbrev pub invariant-loop-other : goal.invariant-loop-other
invariant-loop-other l = l.self.work ≡ l.fn.self.work
