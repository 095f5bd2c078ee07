use Rattle.std.proofs.Common.{sym, subst}
use Rattle.knapsack_table.specs.Taken.{IsTaken}
use Rattle.block_pricers.specs.Pricers.{rows_of, spans_of, IsFitting}
use Rattle.block_pricers.specs.declared.pricers.BlockPricer.{BlockPricer}
use Rattle.block_pricers.proofs.pricers.BlockPricer.cells.Goals as goal

pub returns-in-Search : goal.returns-in-Search
returns-in-Search c = λ taken.
    absurd (subst (λ (p : BlockPricer). IsFitting p → IsTaken (rows_of p) (spans_of p) → ⊥) (sym c.in-Search.is) (λ none some. none some) c.requires taken)

pub returns-in-States : goal.returns-in-States
returns-in-States c = λ taken.
    absurd (subst (λ (p : BlockPricer). IsFitting p → IsTaken (rows_of p) (spans_of p) → ⊥) (sym c.in-States.is) (λ none some. none some) c.requires taken)
