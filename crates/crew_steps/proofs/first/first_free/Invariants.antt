use Rattle.std.proofs.Common.{ℕ, ◌<◌}
use Rattle.crew_steps.specs.Hands.{IsHeldAt}
use Rattle.crew_steps.proofs.first.first_free.Given as goal

abbrev pub invariant-loop-place : goal.invariant-loop-place
invariant-loop-place l = (p : ℕ) → p < l.place → IsHeldAt l.grove l.hands p
