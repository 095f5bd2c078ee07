use Rattle.std.proofs.Common.{◌+◌, refl}
use Rattle.open_nodes.proofs.Script.{script_begins, script_keeps, script_changes, script_ends}
use Rattle.open_nodes.proofs.changes.changes_between.Goals as goal

pub loop-old-init : goal.loop-old-init
loop-old-init c = script_begins c.args.had.now c.args.now.now c.new-changes.result c.new-changes.ensures

pub loop-old-preserved-in-Some : goal.loop-old-preserved-in-Some
loop-old-preserved-in-Some c =
    script_keeps c.args.had.now c.args.now.now c.loop-old.changes c.loop-old.keep (c.loop-old.keep + 1) c.loop-old.old.now c.loop-old.new.now
    c.in-Some.before.now c.in-Some.rest.now c.loop-old.invariant c.in-Some.ensures refl

pub loop-old-preserved : goal.loop-old-preserved
loop-old-preserved c =
    script_changes c.args.had.now c.args.now.now c.loop-old.changes c.push.new.self c.loop-old.keep c.loop-old.old.now c.loop-old.new.now
    c.passed-old.result.now c.in-Some-next_change.rest.now c.in-Some-next_change.change c.loop-old.invariant c.in_ok-push.ensures.added
    c.in-Some-next_change.ensures.keep c.in-Some-next_change.ensures.placed c.passed-old.ensures

pub returns-then-is_end : goal.returns-then-is_end
returns-then-is_end c =
    script_ends c.args.had.now c.args.now.now c.loop-old.changes c.loop-old.keep c.loop-old.old.now c.loop-old.new.now c.loop-old.invariant
    (c.is_end.ensures c.if-is_end.true).0 (c.is_end.ensures c.if-is_end.true).1
