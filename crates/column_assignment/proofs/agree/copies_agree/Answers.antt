-- Where a block doesn't agree, not all do.
use Rattle.std.proofs.Common.{sym, ap, subst, ℕ, ◌<◌, [], length, arith, true≢false}
use Rattle.bp_theory.specs.Blocking.{Block}
use Rattle.search_laws.specs.Spread.{block_at}
use Rattle.column_assignment.specs.Deals.{HasNumbers, point_at}
use Rattle.column_assignment.proofs.agree.copies_agree.Goals as goal

pub returns-then-not-block_agrees : goal.returns-then-not-block_agrees
returns-then-not-block_agrees c =
    let none : Block = record { copies = []; rows = [] } in
    let there : c.loop-block.block < length c.args.b.now.blocking.blocks = omega (arith, c.loop-block-test.true, c.blocks-block-end.ensures.blocks) in (
      (λ no. absurd (true≢false (sym no))),
      (λ all. absurd (true≢false (sym (c.if-not-block_agrees.ensures.1
          (subst (λ (k : Block). HasNumbers c.args.point.now k (point_at c.args.used.now c.column_of-column.result)) (sym (c.block.ensures.block none))
          (subst (λ n. HasNumbers c.args.point.now (block_at c.args.b.now.blocking c.loop-block.block) (point_at c.args.used.now n)) (sym c.column_of-column.ensures) (all c.loop-block.block there))))))),
    )
