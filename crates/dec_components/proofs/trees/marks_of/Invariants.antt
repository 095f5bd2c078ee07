use Rattle.std.proofs.Common.{◌≡◌, ◌<◌, ℕ, true, length, get_or}
use Rattle.dec_components.proofs.trees.marks_of.Given as goal

abbrev pub invariant-loop-row : goal.invariant-loop-row
invariant-loop-row l = record {
  each : length l.marks.items ≡ l.rows;
  marked : (k : ℕ) → k < l.row-index → get_or l.marks.items (get_or l.master k 0) true ≡ true;
  listed : (r : ℕ) → r < length l.marks.items → get_or l.marks.items r true ≡ true → (k : ℕ) × (k < length l.master) × (get_or l.master k 0 ≡ r);
}
