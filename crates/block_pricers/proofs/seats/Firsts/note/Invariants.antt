use Rattle.std.proofs.Common.{◌≡◌}
use Rattle.block_pricers.proofs.seats.Firsts.note.Given as goal

abbrev pub invariant-loop-step : goal.invariant-loop-step
invariant-loop-step l = l.self.list.items ≡ l.initial.self.list.items
