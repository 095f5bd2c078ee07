use Rattle.std.proofs.Common.{sym, subst, ◌<◌}
use Rattle.std.specs.Prelude.{Option}
use Rattle.enumeration.specs.declared.frame.Node.{Node}
use Rattle.enumeration.proofs.LevelLaws.{left_ahead, ahead_less}
use Rattle.enumeration.proofs.search.explore.Goals as goal

pub loop-next-smaller : goal.loop-next-smaller
loop-next-smaller c =
    subst (λ (next : Option Node). left_ahead c.args.problem.now.zone.now c.args.order.now c.next_after-next.new.frames.items c.next_after-next.result
    < left_ahead c.args.problem.now.zone.now c.args.order.now c.loop-next.frames.items next)
    (sym c.in-Some.is)
    (ahead_less c.args.problem.now.zone.now c.args.order.now c.loop-next.frames.items c.next_after-next.new.frames.items c.in-Some.node.level c.next_after-next.result
    c.next_after-next.ensures.less)
