use Rattle.pricing_problem.specs.Form.{AreOf}
use Rattle.knap_price.specs.Kept.{rows_of, spans_of}
use Rattle.column_generation.proofs.partition.price_by_table.Given as goal

abbrev pub invariant-loop : goal.invariant-loop
invariant-loop l = AreOf l.block (rows_of l.pricer) (spans_of l.pricer)
