use Rattle.std.proofs.Common.{sym, subst, ◌<◌, arith}
use Rattle.std.proofs.Math.Numerals.{add-one}
use Rattle.enumeration.specs.Levels.{IsBelow, left_from}
use Rattle.enumeration.proofs.SearchLaws.{narrowed_single}
use Rattle.enumeration.proofs.LevelLaws.{below_narrowed, below_better, behind_less}
use Rattle.enumeration.proofs.TurnLaws.{some_both}
use Rattle.enumeration.proofs.search.next_after.Goals as goal

pub returns-then-not-node-clause-less : goal.returns-then-not-node-clause-less
returns-then-not-node-clause-less c =
    some_both c.next_behind.result c.next_behind.ensures.no_more c.next_behind.ensures.no_more
    (λ next h g. behind_less c.args.problem.now.zone.now c.args.order.now c.args.frames.now.items c.args.node.now.level
    (left_from c.args.problem.now.zone.now c.args.order.now c.next_behind.new.frames.items next.level) h)

pub record-requires-clause-one : goal.record-requires-clause-one
record-requires-clause-one c =
    narrowed_single c.args.problem.now.zone.now c.args.dive.now.zone.items c.args.order.now c.args.node.now.level (omega (arith, c.if-node-order.true))
    (below_narrowed c.args.problem.now.form.now.rows.items c.args.problem.now.zone.now c.args.problem.now.costs.now c.args.problem.now.relaxed.now.costs.items c.args.order.now c.args.frames.now.items c.args.dive.now.best c.args.node.now.level c.args.dive.now.zone.items c.requires.at_node.below)

pub next_behind-requires-then-node-order-clause-below : goal.next_behind-requires-then-node-order-clause-below
next_behind-requires-then-node-order-clause-below c =
    subst (IsBelow c.args.problem.now.form.now.rows.items c.args.problem.now.zone.now c.args.problem.now.costs.now c.args.problem.now.relaxed.now.costs.items c.args.order.now c.args.frames.now.items c.record.new.dive.best c.args.node.now.level) (sym c.record.ensures.zone)
    (below_better c.args.problem.now.form.now.rows.items c.args.problem.now.zone.now c.args.problem.now.costs.now c.args.problem.now.relaxed.now.costs.items c.args.order.now c.args.frames.now.items c.args.dive.now.best c.record.new.dive.best c.args.node.now.level c.args.dive.now.zone.items
    c.record.ensures.no_worse c.requires.at_node.below)

pub returns-in-Some-clause-less : goal.returns-in-Some-clause-less
returns-in-Some-clause-less c =
    subst (λ n. left_from c.args.problem.now.zone.now c.args.order.now c.enter.new.frames.items n < left_from c.args.problem.now.zone.now c.args.order.now c.args.frames.now.items c.args.node.now.level)
    (sym (add-one c.args.node.now.level)) c.in-Some.ensures.less

pub returns-in-None-clause-less : goal.returns-in-None-clause-less
returns-in-None-clause-less c =
    some_both c.next_behind-in-None.result c.next_behind-in-None.ensures.no_more c.next_behind-in-None.ensures.no_more
    (λ next h g. behind_less c.args.problem.now.zone.now c.args.order.now c.args.frames.now.items c.args.node.now.level
    (left_from c.args.problem.now.zone.now c.args.order.now c.next_behind-in-None.new.frames.items next.level) (omega (arith, h, c.in-None.ensures.left)))
