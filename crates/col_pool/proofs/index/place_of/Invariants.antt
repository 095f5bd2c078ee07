use Rattle.std.proofs.Common.{map}
use Rattle.hash_index.proofs.WalkLemmas.{IsWalk}
use Rattle.col_pool.specs.Indexed.{hash_of}
use Rattle.col_pool.proofs.FoundLemmas.{IsOtherAt}
use Rattle.col_pool.proofs.index.place_of.Given as goal

abbrev pub invariant-loop-last : goal.invariant-loop-last
invariant-loop-last l = IsWalk l.index (map hash_of l.columns) (hash_of l.column) (IsOtherAt l.columns l.column) l.last

abbrev pub decreases-loop-last : goal.decreases-loop-last
decreases-loop-last l = l.last
