use Rattle.std.proofs.Common.{◌≡◌, ◌≤◌, ◌<◌, ℕ, List, length}
use Rattle.bp_theory.specs.Program.{Program}
use Rattle.dec_components.specs.Forest.{IsParent, AreParents, AreTied, KeepsTied, KeepsRoots, IsForest}
use Rattle.dec_components.proofs.join.root_of.Given as goal

abbrev pub invariant-climb : goal.invariant-climb
invariant-climb l = record {
  there : l.row < length l.parents;
  below : l.row ≤ l.from;
  forest : IsForest l.parents;
  keeps : KeepsTied l.initial.parents l.parents;
  tied : AreTied l.parents l.from l.row;
  sound : (p : Program) (master : List ℕ) → AreParents p master l.initial.parents → AreParents p master l.parents;
  roots : KeepsRoots l.initial.parents l.parents;
  joined : (p : Program) (master : List ℕ) → AreParents p master l.initial.parents → IsParent p master l.from l.row;
}

abbrev pub decreases-climb : goal.decreases-climb
decreases-climb l = l.row
