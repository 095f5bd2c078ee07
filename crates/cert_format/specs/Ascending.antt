-- Pairs of a row and a multiplier in the order of rows.
use Rattle.std.specs.Prelude.{◌≡◌, ℕ, suc, ◌<◌, List, [], ◌∷◌, length, ℤ, pos, map, if◌then◌else◌, nat_lt, slice_index_or}

-- the rows of pairs
abbrev pub rows_of : List (ℕ × ℤ) → List ℕ
rows_of pairs = map (λ (pair : ℕ × ℤ). pair.0) pairs

-- how many pairs at the head have lower rows
abbrev pub lower : ℕ → List (ℕ × ℤ) → ℕ
lower row [] = 0
lower row (pair ∷ pairs) = if nat_lt pair.0 row then suc (lower row pairs) else 0

-- a row's pair stands at a place
abbrev pub StandsAt : ℕ → List (ℕ × ℤ) → ℕ → Type 0
StandsAt row pairs at = (at < length pairs) × ((slice_index_or pairs at (0, pos 0)).0 ≡ row)
