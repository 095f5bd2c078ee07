use Rattle.std.proofs.Common.{◌+◌, ◌-◌, ◌/◌, ◌<◌, ℕ, length, arith}
use Rattle.reduced_costs.proofs.PickedLemmas.{is_among, is_apart, below_middle, above_middle}
use Rattle.reduced_costs.proofs.picked.has.Goals as goal

pub returns-then-here-number : goal.returns-then-here-number
returns-then-here-number c =
    let i : ℕ = c.loop-from.from + (c.loop-from.to - c.loop-from.from) / 2 in
    is_among c.args.numbers.now c.args.number i (omega (arith, c.loop-from-test.true, c.loop-from.invariant.1)) c.if-here-number.true

pub loop-from-preserved-then-here-number-2 : goal.loop-from-preserved-then-here-number-2
loop-from-preserved-then-here-number-2 c =
    let i : ℕ = c.loop-from.from + (c.loop-from.to - c.loop-from.from) / 2 in
    let there : i < length c.args.numbers.now = omega (arith, c.loop-from-test.true, c.loop-from.invariant.1) in (
      omega (arith, c.loop-from-test.true),
      c.loop-from.invariant.1,
      below_middle c.args.numbers.now c.args.number i c.requires there c.if-here-number-2.true,
      c.loop-from.invariant.3,
    )

pub loop-from-preserved : goal.loop-from-preserved
loop-from-preserved c =
    let i : ℕ = c.loop-from.from + (c.loop-from.to - c.loop-from.from) / 2 in
    let there : i < length c.args.numbers.now = omega (arith, c.loop-from-test.true, c.loop-from.invariant.1) in (
      omega arith,
      omega (arith, there),
      c.loop-from.invariant.2,
      above_middle c.args.numbers.now c.args.number i c.requires there c.if-here-number.false c.if-here-number-2.false,
    )

pub returns : goal.returns
returns c =
    is_apart c.args.numbers.now c.args.number c.loop-from.from c.loop-from.invariant.2
    (λ k low l. c.loop-from.invariant.3 k (omega (arith, low, c.loop-from-test.false)) l)
