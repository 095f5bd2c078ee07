use Rattle.std.proofs.Common.{◌≡◌}
use Rattle.block_pricers.specs.Works.{forms_of}
use Rattle.node_memory.proofs.budget.PricingBudget.round.Given as goal

abbrev pub invariant-loop : goal.invariant-loop
invariant-loop l = forms_of l.self.work ≡ forms_of l.fn.self.work
