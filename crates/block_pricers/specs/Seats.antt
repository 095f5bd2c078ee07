-- Blocks of one form share a desk: each block's seat is the number of its desk, and each desk is that of a first block.
use Rattle.std.specs.Prelude.{◌≡◌, ℕ, ◌<◌, ◌⊎◌, ◌++◌, ◌∷◌, [], List, length, All, slice_index_or}
use Rattle.block_pricers.specs.Forms.{BlockForm, form_at}

-- the desk of this number is that of a first block that has the form of a block
pub record IsSeat (forms : List BlockForm) (firsts : List ℕ) (block seat : ℕ) : Type 0 where
  pub there : seat < length firsts
  pub same : form_at forms (slice_index_or firsts seat 0) ≡ form_at forms block

-- so many blocks have seats
pub record AreSeated (forms : List BlockForm) (k : ℕ) (seats firsts : List ℕ) : Type 0 where
  pub each : length seats ≡ k
  pub made : All (λ j. j < length forms) firsts
  pub seat : (j : ℕ) → j < k → IsSeat forms firsts j (slice_index_or seats j 0)

-- first blocks are as they were, or one block more is one
abbrev pub AreGrown : (before : List ℕ) (block : ℕ) (now : List ℕ) → Type 0
AreGrown before block now = (now ≡ before) ⊎ (now ≡ before ++ (block ∷ []))
