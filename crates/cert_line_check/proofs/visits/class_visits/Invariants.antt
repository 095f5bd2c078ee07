use Rattle.std.proofs.Common.{◌≤◌, length}
use Rattle.cert_line_check.specs.Counting.{AreCutBelow, AreSeen}
use Rattle.cert_line_check.proofs.visits.class_visits.Given as goal

abbrev pub invariant-loop-number : goal.invariant-loop-number
invariant-loop-number l =
    AreSeen l.classes.classes l.classes.firsts l.proof.picked l.number l.seen.items
    × AreCutBelow l.b.named.program.spans l.b.blocking l.zone l.proof.picked l.number l.sum × (l.number ≤ length l.b.blocking.blocks)
