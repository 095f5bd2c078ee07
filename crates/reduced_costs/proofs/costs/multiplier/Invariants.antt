use Rattle.std.proofs.Common.{ℕ, ◌-◌, ◌<◌, ◌≤◌, length}
use Rattle.reduced_costs.proofs.MultLemmas.{key}
use Rattle.reduced_costs.proofs.costs.multiplier.Given as goal

abbrev pub invariant-loop-from : goal.invariant-loop-from
invariant-loop-from l =
    (l.from ≤ l.to) × (l.to ≤ length l.mults) × ((k : ℕ) → k < l.from → key l.mults k < l.row)
    × ((k : ℕ) → l.to ≤ k → k < length l.mults → l.row < key l.mults k)

abbrev pub decreases-loop-from : goal.decreases-loop-from
decreases-loop-from l = l.to - l.from
