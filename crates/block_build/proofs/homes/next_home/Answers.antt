use Rattle.std.proofs.Common.{◌≡◌, ℕ, List, true, subst, arith}
use Rattle.std.specs.Prelude.{ℤ}
use Rattle.std.proofs.lemmas.List.{take_all}
use Rattle.block_build.specs.Homes.{has_block, IsNext}
use Rattle.block_build.proofs.HomeLemmas.{next_more, none_among_none}
use Rattle.block_build.proofs.homes.next_home.Goals as goal

pub loop-entry-init : goal.loop-entry-init
loop-entry-init c = none_among_none c.args.places.now c.args.from

pub loop-entry-preserved : goal.loop-entry-preserved
loop-entry-preserved c =
    next_more c.args.places.now c.args.column.now c.loop-entry.entry-index c.args.from _ c.loop-entry.next c.block_at.result c.nearer-next.result c.loop-entry-test.true
    c.block_at.ensures c.nearer-next.ensures c.loop-entry.invariant

pub returns : goal.returns
returns c =
    subst (λ (es : List (ℕ × ℤ)). IsNext (λ k. has_block c.args.places.now es k ≡ true) c.args.from c.loop-entry.next)
    (take_all c.loop-entry.entry-index c.args.column.now (omega (arith, c.loop-entry-test.false))) c.loop-entry.invariant
