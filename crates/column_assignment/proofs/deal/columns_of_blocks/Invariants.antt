use Rattle.std.proofs.Common.{◌≡◌, ℕ, ◌<◌, [], take, get_or, length}
use Rattle.std.specs.Prelude.{◌==◌, count_by}
use Rattle.search_laws.specs.Spread.{class_at, rank}
use Rattle.column_assignment.proofs.deal.columns_of_blocks.Given as goal

abbrev pub invariant-loop-block : goal.invariant-loop-block
invariant-loop-block l = record {
  many : length l.ranks.items ≡ length l.decks;
  ranks : (k : ℕ) → k < length l.ranks.items → get_or l.ranks.items k 0 ≡ count_by (λ c. c == k) (take l.block l.classes.classes);
  each : length l.columns.items ≡ l.block;
  columns : (j : ℕ) → j < l.block → get_or l.columns.items j 0 ≡ get_or (get_or l.decks (class_at l.classes.classes j) []) (rank l.classes.classes j) 0;
}
