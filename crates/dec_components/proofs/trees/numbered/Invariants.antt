use Rattle.std.proofs.Common.{◌≡◌, ◌≤◌, ℕ, List, length}
use Rattle.bp_theory.specs.Program.{Program}
use Rattle.dec_components.specs.Forest.{AreMarks, IsTied, IsNumbered}
use Rattle.dec_components.proofs.trees.numbered.Given as goal

abbrev pub invariant-loop-row : goal.invariant-loop-row
invariant-loop-row l = record {
  each : length l.found.places.items ≡ l.row;
  few : l.found.blocks ≤ l.row;
  numbered : (p : Program) (master : List ℕ) → AreMarks p master l.marks → IsTied p master l.parents → IsNumbered p master l.parents l.found.places.items l.found.blocks;
}
