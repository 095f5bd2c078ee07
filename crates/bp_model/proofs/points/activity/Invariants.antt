use Rattle.std.proofs.Common.{◌≡◌, take}
use Rattle.bp_theory.specs.Program.{activity}
use Rattle.bp_model.proofs.points.activity.Given as goal

abbrev pub invariant-loop-term : goal.invariant-loop-term
invariant-loop-term l = l.sum ≡ activity (take l.term-index l.terms) l.point
