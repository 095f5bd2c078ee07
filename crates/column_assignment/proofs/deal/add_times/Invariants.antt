use Rattle.std.proofs.Common.{◌≡◌, ◌++◌, replicate}
use Rattle.column_assignment.proofs.deal.add_times.Given as goal

abbrev pub invariant-loop : goal.invariant-loop
invariant-loop l = l.deck ≡ l.initial.deck ++ replicate l.counter l.place
