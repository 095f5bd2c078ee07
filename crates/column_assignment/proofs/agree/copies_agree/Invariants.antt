use Rattle.std.proofs.Common.{ℕ, ◌<◌, get_or}
use Rattle.search_laws.specs.Spread.{block_at}
use Rattle.column_assignment.specs.Deals.{HasNumbers, point_at}
use Rattle.column_assignment.proofs.agree.copies_agree.Given as goal

abbrev pub invariant-loop-block : goal.invariant-loop-block
invariant-loop-block l = (j : ℕ) → j < l.block → HasNumbers l.point (block_at l.b.blocking j) (point_at l.used (get_or l.columns j 0))
