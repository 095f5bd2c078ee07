use Rattle.std.proofs.Common.{◌≢◌, map, get_or}
use Rattle.hash_index.specs.Numbers.{mixed}
use Rattle.hash_index.proofs.WalkLemmas.{IsWalk}
use Rattle.hash_index.proofs.number_set.contains.Given as goal

abbrev pub invariant-loop-last : goal.invariant-loop-last
invariant-loop-last l = IsWalk l.index (map mixed l.numbers) (mixed l.number) (λ k. get_or l.numbers k 0 ≢ l.number) l.last

abbrev pub decreases-loop-last : goal.decreases-loop-last
decreases-loop-last l = l.last
