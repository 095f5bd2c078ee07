use Rattle.std.proofs.Common.{◌≡◌, ℕ, ◌<◌, [], take, get_or, length}
use Rattle.search_laws.specs.Spread.{class_points}
use Rattle.column_assignment.specs.Deals.{points_at}
use Rattle.column_assignment.proofs.deal.decks.Given as goal

abbrev pub invariant-loop-place : goal.invariant-loop-place
invariant-loop-place l = record {
  many : length l.decks.items ≡ length l.classes.firsts;
  points : (k : ℕ) → k < length l.classes.firsts → points_at l.used (get_or l.decks.items k []) ≡ class_points (take l.place l.used) k;
}
