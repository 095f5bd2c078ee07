-- The parts of a block, row by row and variable by variable.
use Rattle.std.specs.Prelude.{◌≡◌, ◌≢◌, ◌<◌, ◌==◌, ℕ, suc, Bool, true, false, List, [], ◌∷◌, ◌++◌, map, filter, length, Option, Some, None, ℤ, pos, if◌then◌else◌, slice_index_or, replicate}
use Rattle.std.specs.List.{range_with_len, list_any, zip}
use Rattle.std.specs.Ordering.{int_eq}
use Rattle.bp_theory.specs.Program.{coefficient}
use Rattle.bp_theory.specs.Blocking.{sides_of}
use Rattle.bp_theory.specs.declared.MasterRow.{MasterRow}
use Rattle.bp_theory.specs.declared.Row.{Row}
use Rattle.bp_theory.specs.declared.Sense.TheVariants.{Eq}

-- whether a list is empty
abbrev pub is_empty : {X : Type 0} → List X → Bool
is_empty [] = true
is_empty (x ∷ xs) = false

-- the coefficient of a variable in a master row, 0 in a block's row
abbrev pub master_coefficient : ℕ → Row → Option ℕ → ℤ
master_coefficient v row None = coefficient row.terms v
master_coefficient v row (Some k) = pos 0

-- the coefficients of a variable in master rows that aren't 0, with the rows' numbers from one on
abbrev pub coefs_from : ℕ → ℕ → List Row → List (Option ℕ) → List (ℕ × ℤ)
coefs_from v i [] places = []
coefs_from v i (row ∷ rows) [] = []
coefs_from v i (row ∷ rows) (place ∷ places) =
    if int_eq (master_coefficient v row place) (pos 0)
    then coefs_from v (suc i) rows places
    else (i, master_coefficient v row place) ∷ coefs_from v (suc i) rows places

-- the variables that have a block among their homes, and those that have no home, in order
abbrev pub at_home : ℕ → List (List ℕ) → List ℕ
at_home k homes = filter (λ v. list_any (λ j. j == k) (slice_index_or homes v [])) (range_with_len 0 (length homes))

abbrev pub homeless : List (List ℕ) → List ℕ
homeless homes = filter (λ v. is_empty (slice_index_or homes v [])) (range_with_len 0 (length homes))

-- one of a variable's homes isn't that of its list
abbrev pub IsOneElse : List ℕ → Option ℕ → Type 0
IsOneElse homes list = (i : ℕ) × (i < length homes) × ((d : ℕ) → list ≢ Some (slice_index_or homes i d))

-- a listed variable has a home elsewhere
abbrev pub IsElsewhere : List (List ℕ) → ℕ × Option ℕ → Type 0
IsElsewhere homes e = IsOneElse (slice_index_or homes e.0 []) e.1

-- the first listed variable that has a home elsewhere
pub record IsFirstElsewhere (homes : List (List ℕ)) (listed : List (ℕ × Option ℕ)) (v : ℕ) : Type 0 where
  pub place : ℕ
  pub there : place < length listed
  pub var : (e : ℕ × Option ℕ) → (slice_index_or listed place e).0 ≡ v
  pub misplaced : (e : ℕ × Option ℕ) → IsElsewhere homes (slice_index_or listed place e)
  pub first : (k : ℕ) (e : ℕ × Option ℕ) → k < place → IsElsewhere homes (slice_index_or listed k e) → ⊥

-- the sides of a row that proofs may name
abbrev pub named_sides : Row → Option ℕ → Option MasterRow
named_sides row None = Some (sides_of row)
named_sides row (Some k) = None

-- the sides of a link row: both copies have one number
abbrev pub link_sides : MasterRow
link_sides = record { sense = Eq; low = pos 0; rhs = pos 0 }

-- the sides of the rows that proofs may name: of the program's, of so many link rows, and of cuts
abbrev pub all_sides : List Row → List (Option ℕ) → ℕ → List Row → List (Option MasterRow)
all_sides rows places links cuts =
    map (λ e. named_sides e.0 e.1) (zip rows places) ++ replicate links (Some link_sides) ++ map (λ cut. Some (sides_of cut)) cuts
