use Rattle.std.proofs.Common.{◌≤◌, subst}
use Rattle.knapsack_table.specs.Rooms.{count_of}
use Rattle.knapsack_table.proofs.FormLaws.{cells_are}
use Rattle.knap_price.proofs.pricer.KnapPlan.price.Goals as goal

pub price_zone-requires-clause-cells : goal.price_zone-requires-clause-cells
price_zone-requires-clause-cells c =
    subst (λ n. n ≤ count_of c.args.cells.now) (cells_are c.args.self.now.form) c.requires.cells
