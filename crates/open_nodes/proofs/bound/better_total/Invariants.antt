use Rattle.std.proofs.Common.{◌≡◌, take}
use Rattle.open_nodes.specs.Bounds.{better_total}
use Rattle.open_nodes.proofs.bound.better_total.Given as goal

abbrev pub invariant-loop-term : goal.invariant-loop-term
invariant-loop-term l = l.sum ≡ better_total l.constant (take l.term-index l.terms) l.spans
