-- The blocks in whose rows variables stand, and the link rows of their further copies.
use Rattle.std.specs.Prelude.{◌≡◌, ◌⊎◌, ℕ, ◌+◌, ◌*◌, ◌<◌, ◌≤◌, true, Bool, List, [], map, filter, drop, take, length, Option, Some, None, ℤ, pos, slice_index_or, sum_by}
use Rattle.std.specs.List.{range_with_len, list_any}
use Rattle.bp_theory.specs.Limits.{number_limit}
use Rattle.bp_theory.specs.Program.{Program, reach, span_at}
use Rattle.bp_theory.specs.declared.Span.{Span}
use Rattle.bp_theory.specs.Decomposition.{Decomposition, is_block, is_in, is_first}

-- whether a column has an entry in a row of a block
abbrev pub has_block : List (Option ℕ) → List (ℕ × ℤ) → ℕ → Bool
has_block places column k = list_any (λ (e : ℕ × ℤ). is_block k (slice_index_or places e.0 None)) column

-- the blocks that a column shows, ascending
abbrev pub shown_homes : (blocks : ℕ) → List (Option ℕ) → List (ℕ × ℤ) → List ℕ
shown_homes blocks places column = filter (has_block places column) (range_with_len 0 blocks)

-- the least number from one on of those that have a property, or none
abbrev pub IsNext : (ℕ → Type 0) → ℕ → Option ℕ → Type 0
IsNext P from None = (k : ℕ) → P k → k < from
IsNext P from (Some n) = (from ≤ n) × P n × ((k : ℕ) → P k → from ≤ k → n ≤ k)

-- what is the nearer of what was found and a further place
abbrev pub IsNearer : (found place : Option ℕ) → (from : ℕ) → Option ℕ → Type 0
IsNearer found None from nearer = nearer ≡ found
IsNearer None (Some k) from nearer = ((k < from) × (nearer ≡ None)) ⊎ ((from ≤ k) × (nearer ≡ Some k))
IsNearer (Some n) (Some k) from nearer =
    ((k < from) × (nearer ≡ Some n)) ⊎ ((n ≤ k) × (nearer ≡ Some n)) ⊎ ((from ≤ k) × (k < n) × (nearer ≡ Some k))

-- the blocks in whose rows a variable stands, ascending: it has a copy in each
abbrev pub homes_in : Program → Decomposition → ℕ → List ℕ
homes_in p d v = filter (is_in p d v) (range_with_len 0 d.blocks)

-- the homes of all variables
abbrev pub AreHomes : Program → Decomposition → List (List ℕ) → Type 0
AreHomes p d homes = (length homes ≡ length p.spans) × ((v : ℕ) → v < length p.spans → slice_index_or homes v [] ≡ homes_in p d v)

-- how many further copies there are
abbrev pub further : List ℕ → ℕ
further homes = length (drop 1 homes)

-- the number of each variable's first link row, behind so many rows
abbrev pub AreLinks : (rows : ℕ) → List (List ℕ) → List ℕ → Type 0
AreLinks rows homes links =
    (length links ≡ length homes) × ((v : ℕ) → v < length homes → slice_index_or links v 0 ≡ rows + sum_by further (take v homes))

-- the coefficients of a first copy in so many link rows
abbrev pub link_entries : (first count : ℕ) → List (ℕ × ℤ)
link_entries first count = map (λ i. (i, pos 1)) (range_with_len first count)

-- a block has a copy of a variable: it is one of its homes, or the variable has none and the block is its own
abbrev pub IsHeld : Program → Decomposition → ℕ → ℕ → Type 0
IsHeld p d v k =
    ((k < d.blocks) × (is_in p d v k ≡ true)) ⊎ ((k ≡ d.blocks) × (is_first p d v d.blocks ≡ true))

-- the difference of two numbers of a span may leave 62 bits
abbrev pub IsWide : Span → Type 0
IsWide span = number_limit ≤ 2 * reach span

-- some variable with a further copy has a wide span
abbrev pub HasWideCopies : List (List ℕ) → List Span → Type 0
HasWideCopies homes spans = (v : ℕ) × (v < length homes) × (1 < length (slice_index_or homes v [])) × IsWide (span_at spans v)
