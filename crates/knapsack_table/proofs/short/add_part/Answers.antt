use Rattle.std.proofs.Common.{◌∙◌, refl, ◌*◌, arith}
use Rattle.std.proofs.Math.IntN.{pos, ◌*ℤ◌}
use Rattle.std.specs.Int.{w64}
use mir.Val.{of_z, to_z}
use Rattle.pricing_problem.proofs.Passed.{passed_short}
use Rattle.knapsack_table.specs.Tables.{row_from}
use Rattle.knapsack_table.proofs.TableLaws.{relaxing_more, part_of_relaxing}
use Rattle.knapsack_table.proofs.short.add_part.Goals as goal

pub loop-weight-preserved : goal.loop-weight-preserved
loop-weight-preserved c = record {
  len = c.relax.ensures.len ∙ c.loop-weight.invariant.len;
  relaxing = relaxing_more (c.args.item.now.weight * c.args.units) c.args.top c.loop-weight.weight c.args.start
      (to_z w64 (of_z w64 c.cost_of-gain.result)) _ (row_from c.args.cells.now c.args.start) c.loop-weight.cells c.relax.new.cells
      c.loop-weight-test.true refl c.loop-weight.invariant.relaxing c.relax.ensures.lesser c.relax.ensures.others;
  below = λ k l. c.relax.ensures.others k (λ e. omega (arith, e, l)) ∙ c.loop-weight.invariant.below k l;
}

pub returns-clause-part : goal.returns-clause-part
returns-clause-part c =
    part_of_relaxing (c.args.item.now.weight * c.args.units) c.args.top c.loop-weight.weight (to_z w64 (of_z w64 c.cost_of-gain.result))
    (c.args.item.now.cost *ℤ pos c.args.units) (row_from c.args.cells.now c.args.start) (row_from c.loop-weight.cells c.args.start) c.loop-weight-test.false
    (passed_short c.cost_of-gain.result c.cost_of-gain.type_inv ∙ c.cost_of-gain.ensures.value) c.loop-weight.invariant.relaxing
