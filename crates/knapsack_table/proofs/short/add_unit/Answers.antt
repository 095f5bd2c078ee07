use Rattle.std.proofs.Common.{◌≡◌, ◌∙◌, refl, ◌+◌, ◌*◌, subst, ℕ, arith}
use Rattle.std.specs.Int.{w64}
use mir.Val.{of_z, to_z}
use Rattle.pricing_problem.proofs.Passed.{passed_short}
use Rattle.knapsack_table.specs.Tables.{row_from}
use Rattle.knapsack_table.proofs.TableLaws.{IsJoining, joining_more, tried_joined}
use Rattle.knapsack_table.proofs.short.add_unit.Goals as goal

pub loop-weight-preserved : goal.loop-weight-preserved
loop-weight-preserved c = record {
  len = c.join.ensures.len ∙ c.loop-weight.invariant.len;
  joining = joining_more c.args.item.now.weight c.args.top c.loop-weight.weight c.args.start (c.args.start + (c.args.top + 1))
      (to_z w64 (of_z w64 c.cost_of-gain.result)) _ (row_from c.args.cells.now c.args.start) c.loop-weight.cells c.join.new.cells
      c.loop-weight.auto.weight (omega arith) (omega (arith, c.loop-weight-test.true)) refl
      (λ k t. c.loop-weight.invariant.below (c.args.start + k) (omega (arith, t)))
      c.loop-weight.invariant.joining c.join.ensures.lesser c.join.ensures.others;
  below = λ k l. c.join.ensures.others k (λ e. omega (arith, e, l)) ∙ c.loop-weight.invariant.below k l;
}

pub returns-clause-tried : goal.returns-clause-tried
returns-clause-tried c =
    tried_joined c.args.item.now c.args.top c.loop-weight.weight (to_z w64 (of_z w64 c.cost_of-gain.result))
    (row_from c.args.cells.now c.args.start) (row_from c.loop-weight.cells (c.args.start + (c.args.top + 1)))
    c.requires.one (omega (arith, c.loop-weight-test.false)) (passed_short c.cost_of-gain.result c.cost_of-gain.type_inv ∙ c.cost_of-gain.ensures.value)
    (subst (λ n. IsJoining n c.args.top c.loop-weight.weight (to_z w64 (of_z w64 c.cost_of-gain.result)) (row_from c.args.cells.now c.args.start)
    (row_from c.loop-weight.cells (c.args.start + (c.args.top + 1)))) (whole c.args.item.now.weight) c.loop-weight.invariant.joining)
  where
    whole : (n : ℕ) → n ≡ n * 1
    whole n = omega arith
