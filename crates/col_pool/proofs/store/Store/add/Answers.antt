-- A list of another length is no point of the block, nor is one that its pool refuses, unless it is full.
use Rattle.std.proofs.Common.{refl, []}
use Rattle.bp_theory.specs.Blocking.{Block}
use Rattle.bp_theory.specs.Program.{IsInside}
use Rattle.bp_model.specs.Miss.{IsFirstOutside, IsFirstMissed}
use Rattle.col_pool.specs.Pools.{HasPoolFault, root_block}
use Rattle.col_pool.proofs.StoreLemmas.{own_point, as_long, none_outside, none_missed}
use Rattle.col_pool.proofs.store.Store.add.Goals as goal

abbrev none : Block
none = record { copies = []; rows = [] }

pub returns-then-point-vars-clause-added : goal.returns-then-point-vars-clause-added
returns-then-point-vars-clause-added c =
    let b = c.args.b.now in (
      refl,
      λ p. absurd (c.if-point-vars.true (as_long b.named.program.spans c.block-block.result.now (root_block b c.args.self.now.owner).block c.args.point.now
          c.vars.result.now (c.block-block.ensures.block none) c.vars.ensures p)),
    )

pub returns-in-Err-Outside-clause-added : goal.returns-in-Err-Outside-clause-added
returns-in-Err-Outside-clause-added c =
    let b = c.args.b.now in
    let k = c.block-block.result.now in
    let fault : HasPoolFault k c.args.self.now.pool c.args.point.now c.in-Err-Outside.field-0 = c.in-Err-Outside.ensures.fault in
    let outside : IsFirstOutside k.spans c.args.point.now c.in-Err-Outside.field-0-0 = rw c.in-Err-Outside.field-0-is at fault in (
      c.in-Err-Outside.ensures.same,
      λ p. absurd (none_outside k.block.rows k.spans c.args.point.now c.in-Err-Outside.field-0-0 outside
          (own_point b.named.program.spans k (root_block b c.args.self.now.owner).block c.args.point.now (c.block-block.ensures.block none)
          c.block-block.ensures.spans p)),
    )

pub returns-in-Err-Row-clause-added : goal.returns-in-Err-Row-clause-added
returns-in-Err-Row-clause-added c =
    let b = c.args.b.now in
    let k = c.block-block.result.now in
    let fault : HasPoolFault k c.args.self.now.pool c.args.point.now c.in-Err-Row.field-0 = c.in-Err-Row.ensures.fault in
    let missed : IsInside k.spans c.args.point.now × IsFirstMissed k.block.rows c.args.point.now c.in-Err-Row.field-0-0 = rw c.in-Err-Row.field-0-is at fault in (
      c.in-Err-Row.ensures.same,
      λ p. absurd (none_missed k.block.rows k.spans c.args.point.now c.in-Err-Row.field-0-0 missed.1
          (own_point b.named.program.spans k (root_block b c.args.self.now.owner).block c.args.point.now (c.block-block.ensures.block none)
          c.block-block.ensures.spans p)),
    )
