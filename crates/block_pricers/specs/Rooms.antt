-- The room that pricing a block takes.
use Rattle.std.specs.Prelude.{◌≡◌, List, length, ℤ}
use Rattle.bp_theory.specs.declared.Span.{Span}
use Rattle.block_pricers.specs.Pricers.{spans_of}
use Rattle.block_pricers.specs.declared.pricers.BlockPricer.{BlockPricer}

-- a cost and a span for each variable of the pricer's block
pub record HasRoom (pricer : BlockPricer) (costs : List ℤ) (spans : List Span) : Type 0 where
  pub each_cost : length costs ≡ length (spans_of pricer)
  pub each_span : length spans ≡ length (spans_of pricer)
