-- Branch trees whose splits may be those of a class.
use Rattle.std.specs.Prelude.{ℕ, ◌≤◌, IsTrue, true, false, List, [], ◌∷◌, ◌++◌, length, ℤ, slice_set}
use Rattle.std.specs.Int.{int_min}
use Rattle.bp_theory.specs.Program.{span_at}
use Rattle.bp_theory.specs.Blocking.{Blocking}
use Rattle.bp_theory.specs.Trees.{Leaf, low_part, high_part, IsSoundSplit}
use Rattle.bp_theory.specs.declared.Span.{Span}
use Rattle.bp_theory.specs.declared.Proof.{Proof}
use Rattle.search_laws.specs.Spread.{block_at}
use Rattle.stronger_laws.specs.Alike.{variables_of, is_among, home, siblings}

-- a tree of splits: shut and open leaves with their proofs, splits of a variable's span behind a number, and splits
-- after which either one variable is above the number, or no sibling is
pub data ClassTree : Type 0 where
  shut_leaf : Proof → ClassTree
  open_leaf : Proof → ClassTree
  split : (var : ℕ) (at : ℤ) (low high : ClassTree) → ClassTree
  class_split : (var : ℕ) (at : ℤ) (low high : ClassTree) → ClassTree

-- the zone where a variable is at most a number, all else as before
abbrev pub capped : List Span → ℕ → ℤ → List Span
capped zone v at = slice_set zone v (record { lo = (span_at zone v).lo; hi = int_min (span_at zone v).hi at })

-- the zone where each of these variables is
abbrev pub all_capped : List Span → List ℕ → ℤ → List Span
all_capped zone [] at = zone
all_capped zone (v ∷ vs) at = all_capped (capped zone v at) vs at

-- the zone where no sibling is above a number
abbrev pub class_low_part : Blocking → List Span → ℕ → ℤ → List Span
class_low_part b zone v at = all_capped zone (siblings b zone v) at

-- a class split is sound where the split of the variable is, and the variable has a sibling beside itself
pub record IsSoundClassSplit (b : Blocking) (zone : List Span) (v : ℕ) (at : ℤ) : Type 0 where
  pub sound : IsSoundSplit zone v at
  pub copied : IsTrue (is_among v (variables_of (block_at b (home b v))))
  pub several : 2 ≤ length (siblings b zone v)

-- each split is sound in its node's zone
abbrev pub HasSoundNodes : Blocking → ClassTree → List Span → Type 0
HasSoundNodes b (shut_leaf proof) zone = Unit {0}
HasSoundNodes b (open_leaf proof) zone = Unit {0}
HasSoundNodes b (split v at low high) zone =
    IsSoundSplit zone v at × HasSoundNodes b low (low_part zone v at) × HasSoundNodes b high (high_part zone v at)
HasSoundNodes b (class_split v at low high) zone =
    IsSoundClassSplit b zone v at × HasSoundNodes b low (class_low_part b zone v at) × HasSoundNodes b high (high_part zone v at)

-- the leaves of a tree in preorder, with their zones
abbrev pub class_leaves : Blocking → ClassTree → List Span → List Leaf
class_leaves b (shut_leaf proof) zone = record { zone = zone; proof = proof; is_open = false } ∷ []
class_leaves b (open_leaf proof) zone = record { zone = zone; proof = proof; is_open = true } ∷ []
class_leaves b (split v at low high) zone = class_leaves b low (low_part zone v at) ++ class_leaves b high (high_part zone v at)
class_leaves b (class_split v at low high) zone =
    class_leaves b low (class_low_part b zone v at) ++ class_leaves b high (high_part zone v at)
