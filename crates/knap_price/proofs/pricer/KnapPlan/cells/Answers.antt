use Rattle.std.proofs.Common.{◌∙◌, sym}
use Rattle.knapsack_table.proofs.FormLaws.{cells_are}
use Rattle.knap_price.proofs.pricer.KnapPlan.cells.Goals as goal

pub returns : goal.returns
returns c = c.cells.ensures ∙ sym (cells_are c.args.self.now.form)
