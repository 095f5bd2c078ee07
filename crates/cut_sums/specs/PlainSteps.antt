-- The plain cuts among the rows and multipliers up to one: two of each row, in order.
use Rattle.std.specs.Prelude.{◌≡◌, ◌⊎◌, ℕ, ◌+◌, ◌*◌, ◌≤◌, ◌<◌, List, length, ℤ, pos, negsuc, All, Contains, Option, Some, None, slice_index_or}
use Rattle.bp_theory.specs.Program.{Program}
use Rattle.bp_theory.specs.Decomposition.{Decomposition, ProofRow, whole_row, link_row, no_row}
use Rattle.bp_theory.specs.declared.Cut.{Cut}
use Rattle.cut_sums.specs.Plain.{Sharpens, IsPlain, entry_of}

-- 1 for a negative multiplier, which comes behind a positive one
abbrev pub half : ℤ → ℕ
half (pos n) = 0
half (negsuc n) = 1

-- the rank of a row and a multiplier among all of them
abbrev pub rank_of : ℕ × ℤ → ℕ
rank_of m = 2 * m.0 + half m.1

-- a multiplier of a plain cut
abbrev pub IsUnit : ℤ → Type 0
IsUnit u = (u ≡ pos 1) ⊎ (u ≡ negsuc 0)

-- a divisor gives the cuts of a row that proofs may name
abbrev pub SharpensRow : ProofRow → ℕ → Type 0
SharpensRow (whole_row row) q = Sharpens row q
SharpensRow (link_row v k) q = ⊥
SharpensRow no_row q = ⊥

-- the plain cut of a row and a multiplier, or none where there is none
abbrev pub IsPlainOf : Program → Decomposition → ℕ × ℤ → Option Cut → Type 0
IsPlainOf p d m None = (cut : Cut) → IsPlain p d cut → entry_of cut ≡ m → ⊥
IsPlainOf p d m (Some cut) = IsPlain p d cut × (entry_of cut ≡ m)

-- the first plain cuts among those below a rank, at most so many
pub record AreFirstBelow (p : Program) (d : Decomposition) (most at : ℕ) (cuts : List Cut) : Type 0 where
  pub few : length cuts ≤ most
  pub plain : All (IsPlain p d) cuts
  pub below : All (λ c. rank_of (entry_of c) < at) cuts
  pub order : (i j : ℕ) (c e : Cut) → i < j → j < length cuts
      → rank_of (entry_of (slice_index_or cuts i c)) < rank_of (entry_of (slice_index_or cuts j e))
  pub all_first : (cut : Cut) → IsPlain p d cut → rank_of (entry_of cut) < at
      → Contains cuts cut ⊎ ((length cuts ≡ most) × All (λ c. rank_of (entry_of c) < rank_of (entry_of cut)) cuts)
