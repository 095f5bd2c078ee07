use Rattle.std.proofs.Common.{◌≡◌, ◌-◌, ◌++◌, map, take, drop}
use Rattle.hash_index.proofs.index.lower.Given as goal

abbrev pub invariant-loop-i : goal.invariant-loop-i
invariant-loop-i l = l.numbers ≡ map (λ n. n - 1) (take l.i l.initial.numbers) ++ drop l.i l.initial.numbers
