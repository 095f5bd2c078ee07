use Rattle.std.proofs.Common.{◌-◌, pos, arith}
use Rattle.knapsack_table.proofs.TableLaws.{full_load-at, full_load-drop}
use Rattle.knapsack_table.proofs.steps.whole_load.Goals as goal

pub overflow_mul-sum : goal.overflow_mul-sum
overflow_mul-sum c =
    omega (
      arith,
      c.requires,
      full_load-at c.args.items.now (c.loop-k.k - 1) (record { weight = 0; width = 0; cost = pos 0 }) (omega (arith, c.loop-k-test.true, c.loop-k.auto.k)),
      full_load-drop c.args.items.now (c.loop-k.k - 1),
    )

pub overflow_add-sum : goal.overflow_add-sum
overflow_add-sum c =
    omega (
      arith,
      c.requires,
      c.loop-k.invariant,
      full_load-at c.args.items.now (c.loop-k.k - 1) (record { weight = 0; width = 0; cost = pos 0 }) (omega (arith, c.loop-k-test.true, c.loop-k.auto.k)),
      full_load-drop c.args.items.now (c.loop-k.k - 1),
      full_load-drop c.args.items.now c.loop-k.k,
    )
