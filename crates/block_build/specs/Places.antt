-- Where variables have copies.
use Rattle.std.specs.Prelude.{◌≡◌, ◌⊎◌, ℕ, ◌<◌, ◌≤◌, List, length, slice_index_or}
use Rattle.bp_theory.specs.Blocking.{Block}
use Rattle.block_program.specs.Blocked.{HasCopyAt}

-- a variable stands at a place of a block's variables, and that is noted
pub record IsNotedHere (block : ℕ) (vars : List ℕ) (v : ℕ) (new : ℕ × ℕ) : Type 0 where
  pub block_is : new.0 ≡ block
  pub within : new.1 < length vars
  pub var : (d : ℕ) → slice_index_or vars new.1 d ≡ v

-- a variable isn't among a block's, and what was noted stands
pub record IsNotedElsewhere (vars : List ℕ) (v : ℕ) (old new : ℕ × ℕ) : Type 0 where
  pub unchanged : new ≡ old
  pub absent : (i d : ℕ) → i < length vars → slice_index_or vars i d ≡ v → ⊥

-- what is noted of a variable after a block
abbrev pub IsNoted : ℕ → List ℕ → ℕ → ℕ × ℕ → ℕ × ℕ → Type 0
IsNoted block vars v old new = IsNotedHere block vars v new ⊎ IsNotedElsewhere vars v old new

-- the first copy of a variable in blocks from a number on
pub record IsFirstFrom (first : ℕ) (blocks : List Block) (v : ℕ) (at : ℕ × ℕ) : Type 0 where
  pub copy : HasCopyAt blocks v at
  pub least : (other : ℕ × ℕ) → first ≤ other.0 → HasCopyAt blocks v other → at.0 ≤ other.0
