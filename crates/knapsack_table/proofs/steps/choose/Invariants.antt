use Rattle.knapsack_table.specs.Choices.{IsChosen}
use Rattle.knapsack_table.specs.Tables.{no_way, row_from}
use Rattle.knapsack_table.proofs.steps.choose.Given as goal

abbrev pub invariant-loop-weight : goal.invariant-loop-weight
invariant-loop-weight l = IsChosen no_way (row_from l.cells l.start) l.row l.base l.weight l.best
