use Rattle.std.proofs.Common.{◌≡◌, None, replicate}
use Rattle.crew_steps.proofs.hand.no_hands.Given as goal

abbrev pub invariant-loop : goal.invariant-loop
invariant-loop l = l.hands.items ≡ replicate l.counter None
