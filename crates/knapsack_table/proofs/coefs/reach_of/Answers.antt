use Rattle.std.proofs.Common.{pos, arith}
use Rattle.knapsack_table.proofs.CoefLaws.{term_reach_short, reach_so_far}
use Rattle.knapsack_table.proofs.coefs.reach_of.Goals as goal

pub reach_of_term-sum-requires-clause-small : goal.reach_of_term-sum-requires-clause-small
reach_of_term-sum-requires-clause-small c =
    term_reach_short c.args.spans.now c.args.terms.now c.loop-term.term-index (record { var = 0; coef = pos 0 }) c.requires.small c.loop-term-test.true

pub overflow_add-sum : goal.overflow_add-sum
overflow_add-sum c =
    omega (
      arith,
      c.reach_of_term-sum.ensures,
      term_reach_short c.args.spans.now c.args.terms.now c.loop-term.term-index (record { var = 0; coef = pos 0 }) c.requires.small c.loop-term-test.true,
      c.loop-term.invariant,
      reach_so_far c.args.spans.now c.args.terms.now c.loop-term.term-index c.requires.small,
    )
