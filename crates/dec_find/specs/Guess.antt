-- Decompositions that are chosen for a program.
use Rattle.std.specs.Prelude.{◌≡◌, ◌⊎◌, ℕ, ◌≤◌, Bool, false, List, length, filter, slice_index_or}
use Rattle.std.specs.List.{range_with_len}
use Rattle.bp_theory.specs.Limits.{most_blocks}
use Rattle.bp_theory.specs.Program.{Program}
use Rattle.bp_theory.specs.Decomposition.{Decomposition}
use Rattle.bp_model.specs.Dec.{plain_of}
use Rattle.dec_components.specs.Joined.{IsFound, HasTooMany}

-- the rows of a program that are marked, by number; those past the last mark are not
abbrev pub marked_rows : Program → (marks : List Bool) → List ℕ
marked_rows p marks = filter (λ r. slice_index_or marks r false) (range_with_len 0 (length p.rows))

-- the decomposition of a program beside master rows, or where that has too many blocks the one with master rows alone
abbrev pub IsFoundOrPlain : Program → (master : List ℕ) → Decomposition → Type 0
IsFoundOrPlain p master d = (IsFound p master d × (d.blocks ≤ most_blocks p.limits)) ⊎ (HasTooMany p master × (d ≡ plain_of p))

-- the decomposition of a program beside some master rows
abbrev pub IsGuess : Program → Decomposition → Type 0
IsGuess p d = (master : List ℕ) × IsFound p master d
