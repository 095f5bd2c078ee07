-- The rows that cuts combine, what they are bounded by, and their sums at the lower ends of the spans.
use Rattle.std.specs.Prelude.{◌≡◌, ℕ, ◌+◌, ◌<◌, ◌≤◌, unsigned_abs, sum_by, List, length, ℤ, pos, ◌-ℤ◌, ◌*ℤ◌, All, slice_index_or}
use Rattle.bp_theory.specs.Limits.{number_limit, greatest_divisor}
use Rattle.bp_theory.specs.Sums.{sum_of}
use Rattle.bp_theory.specs.Program.{Program, KeepsActivity, span_at}
use Rattle.bp_theory.specs.Decomposition.{ProofRow, whole_row, link_row, no_row, proof_rows, link_count, HasVariablesBelow}
use Rattle.bp_theory.specs.Cuts.{row_coefficient, row_side}
use Rattle.bp_theory.specs.declared.Span.{Span}
use Rattle.bp_theory.specs.declared.Term.{Term}
use Rattle.bp_theory.specs.declared.Row.{Row}
use Rattle.block_program.specs.Blocked.{IsFormed}
use Rattle.cut_sums.specs.Cutting.{IsEarlierCut}
use Rattle.cut_sums.specs.declared.rows.Rows.{Rows}

-- the program of rows, the rows that proofs may name, and one of them
abbrev pub program_of : Rows → Program
program_of s = s.b.now.named.program

abbrev pub rows_in : Rows → List ProofRow
rows_in s = proof_rows s.b.now.named.program s.b.now.dec s.earlier.now

abbrev pub row_in : Rows → ℕ → ProofRow
row_in s number = slice_index_or (rows_in s) number no_row

-- rows of a program in blocks and of earlier cuts, with the number of the first cut
pub record IsRows (s : Rows) : Type 0 where
  pub formed : IsFormed s.b.now
  pub few : length s.earlier.now ≤ 255
  pub earlier : All (IsEarlierCut s.b.now.named.program) s.earlier.now
  pub first : s.first ≡ length s.b.now.named.program.rows + link_count s.b.now.named.program s.b.now.dec

-- a row of a program's variables whose sums keep the limit
pub record IsBounded (p : Program) (row : Row) : Type 0 where
  pub below : HasVariablesBelow (length p.spans) row.terms
  pub activity : KeepsActivity p row

-- terms whose coefficients are small together
abbrev pub IsSmall : List Term → Type 0
IsSmall terms = sum_by (λ t. unsigned_abs t.coef) terms < number_limit

-- a bounded row among those that proofs may name
abbrev pub IsBoundedRow : Program → ProofRow → Type 0
IsBoundedRow p (whole_row row) = IsBounded p row
IsBoundedRow p (link_row v k) = ⊥
IsBoundedRow p no_row = ⊥

-- a small multiplier of a bounded row
pub record IsBoundedEntry (p : Program) (rows : List ProofRow) (m : ℕ × ℤ) : Type 0 where
  pub size : unsigned_abs m.1 ≤ greatest_divisor
  pub row : IsBoundedRow p (slice_index_or rows m.0 no_row)

-- the entries of a cut: few small multipliers of bounded rows
pub record AreEntries (p : Program) (rows : List ProofRow) (ms : List (ℕ × ℤ)) : Type 0 where
  pub few : length ms ≤ 1048831
  pub each : All (IsBoundedEntry p rows) ms

-- the coefficient of a variable in the sum of the rows of entries, each times its multiplier
abbrev pub sum_in : List ProofRow → List (ℕ × ℤ) → ℕ → ℤ
sum_in rows ms v = sum_of (λ m. m.1 *ℤ row_coefficient (slice_index_or rows m.0 no_row) v) ms

-- a sum of terms where each variable is at the lower end of its span
abbrev pub low_activity : List Span → List Term → ℤ
low_activity spans terms = sum_of (λ t. t.coef *ℤ (span_at spans t.var).lo) terms

-- the sum of a row that proofs may name where each variable is at the lower end of its span
abbrev pub row_low : Program → ProofRow → ℤ
row_low p (whole_row row) = low_activity p.spans row.terms
row_low p (link_row v k) = pos 0
row_low p no_row = pos 0

-- what an entry's row demands above the lower ends, times its multiplier
abbrev pub entry_demand : Program → List ProofRow → ℕ × ℤ → ℤ
entry_demand p rows m =
    m.1 *ℤ (row_side (slice_index_or rows m.0 no_row) m.1 -ℤ row_low p (slice_index_or rows m.0 no_row))
