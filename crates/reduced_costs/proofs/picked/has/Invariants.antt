use Rattle.std.proofs.Common.{ℕ, ◌-◌, ◌<◌, ◌≤◌, length, get_or}
use Rattle.reduced_costs.proofs.picked.has.Given as goal

abbrev pub invariant-loop-from : goal.invariant-loop-from
invariant-loop-from l =
    (l.from ≤ l.to) × (l.to ≤ length l.numbers) × ((k : ℕ) → k < l.from → get_or l.numbers k 0 < l.number)
    × ((k : ℕ) → l.to ≤ k → k < length l.numbers → l.number < get_or l.numbers k 0)

abbrev pub decreases-loop-from : goal.decreases-loop-from
decreases-loop-from l = l.to - l.from
