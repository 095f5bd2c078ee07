use Rattle.std.proofs.Common.{◌-◌, pos, arith}
use Rattle.knapsack_table.proofs.TableLaws.{worth_size-at, worth_size-drop}
use Rattle.knapsack_table.proofs.short.size_of.Goals as goal

pub size_of_item-sum-requires : goal.size_of_item-sum-requires
size_of_item-sum-requires c =
    omega (
      arith,
      c.requires,
      worth_size-at c.args.items.now (c.loop-k.k - 1) (record { weight = 0; width = 0; cost = pos 0 }) (omega (arith, c.loop-k-test.true, c.loop-k.auto.k)),
    )

pub overflow_add-sum : goal.overflow_add-sum
overflow_add-sum c =
    omega (
      arith,
      c.requires,
      c.loop-k.invariant,
      c.size_of_item-sum.ensures,
      worth_size-at c.args.items.now (c.loop-k.k - 1) (record { weight = 0; width = 0; cost = pos 0 }) (omega (arith, c.loop-k-test.true, c.loop-k.auto.k)),
      worth_size-drop c.args.items.now c.loop-k.k,
    )
