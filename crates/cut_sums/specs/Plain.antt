-- The plain cuts of a program in blocks: one master row, divided by the greatest common divisor of its coefficients.
use Rattle.std.specs.Prelude.{◌≡◌, ◌⊎◌, ℕ, ◌≤◌, ◌<◌, unsigned_abs, List, [], ◌∷◌, length, ℤ, pos, negsuc, ◌<ℤ◌, All, Contains, slice_index_or}
use Rattle.std.specs.Int.{◌∣◌}
use Rattle.bp_theory.specs.Limits.{greatest_divisor}
use Rattle.bp_theory.specs.Program.{Program, KeepsActivity}
use Rattle.bp_theory.specs.Bound.{SignFitsSense}
use Rattle.bp_theory.specs.Decomposition.{Decomposition, whole_row, no_row, proof_rows}
use Rattle.bp_theory.specs.Cuts.{cut_row}
use Rattle.bp_theory.specs.declared.Term.{Term}
use Rattle.bp_theory.specs.declared.Row.{Row}
use Rattle.bp_theory.specs.declared.Cut.{Cut}

-- a number divides each coefficient
abbrev pub DividesEach : ℕ → List Term → Type 0
DividesEach q terms = All (λ t. q ∣ unsigned_abs t.coef) terms

-- the greatest common divisor of coefficients
pub record IsDivisor (terms : List Term) (q : ℕ) : Type 0 where
  pub divides : DividesEach q terms
  pub greatest : (n : ℕ) → DividesEach n terms → n ∣ q

-- a divisor that gives a row's cuts: the greatest of its coefficients, from 2 to the limit, where a side isn't a multiple of it
pub record Sharpens (row : Row) (q : ℕ) : Type 0 where
  pub divisor : IsDivisor row.terms q
  pub low : 2 ≤ q
  pub high : q ≤ greatest_divisor
  pub side : (q ∣ unsigned_abs row.low) × (q ∣ unsigned_abs row.rhs) → ⊥

-- a plain cut: one master row times 1 or -1, where the sign fits and the sums of the cut's row keep the limit
pub record IsPlain (p : Program) (d : Decomposition) (cut : Cut) : Type 0 where
  pub number : ℕ
  pub mult : ℤ
  pub unit : (mult ≡ pos 1) ⊎ (mult ≡ negsuc 0)
  pub combines : cut.rows ≡ (number, mult) ∷ []
  pub row : Row
  pub master : slice_index_or (proof_rows p d []) number no_row ≡ whole_row row
  pub sharpens : Sharpens row cut.q
  pub sign : SignFitsSense row.sense mult
  pub kept : KeepsActivity p (cut_row p (proof_rows p d []) cut)

-- the row and the multiplier of a cut of one row
abbrev pub entry_of : Cut → ℕ × ℤ
entry_of cut = slice_index_or cut.rows 0 (0, pos 0)

-- the order of plain cuts: by rows, and of one row first that by 1
abbrev pub ComesBefore : Cut → Cut → Type 0
ComesBefore c e =
    ((entry_of c).0 < (entry_of e).0) ⊎ (((entry_of c).0 ≡ (entry_of e).0) × ((entry_of e).1 <ℤ (entry_of c).1))

-- the first plain cuts, at most so many, in order: all of them where there is room, and else none that is left out comes before one that is there
pub record AreFirstPlain (p : Program) (d : Decomposition) (most : ℕ) (cuts : List Cut) : Type 0 where
  pub few : length cuts ≤ most
  pub plain : All (IsPlain p d) cuts
  pub order : (i j : ℕ) (c e : Cut) → i < j → j < length cuts → ComesBefore (slice_index_or cuts i c) (slice_index_or cuts j e)
  pub all_first : (cut : Cut) → IsPlain p d cut → Contains cuts cut ⊎ ((length cuts ≡ most) × All (λ c. ComesBefore c cut) cuts)
