use Rattle.std.proofs.Common.{◌≡◌, ◌<◌, ℕ, Some, None, get_or}
use Rattle.crew_steps.specs.declared.hand.Hand.{Hand}
use Rattle.crew_steps.proofs.hand.is_held.Given as goal

abbrev pub invariant-loop-hand : goal.invariant-loop-hand
invariant-loop-hand l = (k : ℕ) (hand : Hand) → k < l.hand-index → get_or l.hands k None ≡ Some hand → hand.turn.path ≡ l.path → ⊥
