-- What a model is made of, and what it is refused for.
use Rattle.std.specs.Prelude.{◌≡◌, ℕ, ◌+◌, ◌<◌, ◌≤◌, ◌^◌, unsigned_abs, sum_by, Bool, List, length, ℤ, pos, ◌≤ℤ◌, ◌<ℤ◌, All, Option, None, Some, slice_index_or}
use Rattle.bp_theory.specs.Limits.{most_digits, most_rows, most_terms, most_variables, number_limit}
use Rattle.std.specs.List.{AllZip}
use Rattle.bp_theory.specs.Program.{Program, coefficient, span_at, KeepsActivity}
use Rattle.bp_theory.specs.Decomposition.{HasVariablesBelow, IsTidyFrom}
use Rattle.bp_theory.specs.Digits.{zone_bits}
use Rattle.bp_theory.specs.declared.Span.{Span}
use Rattle.bp_theory.specs.declared.Term.{Term}
use Rattle.bp_theory.specs.declared.Row.{Row}
use Rattle.bp_model.specs.Named.{NamedProgram, cost_limit, HasSmallEnds}
use Rattle.bp_model.specs.declared.parts.Parts.{Parts}
use Rattle.bp_model.specs.declared.parts.ModelFault.{ModelFault}
use Rattle.bp_model.specs.declared.parts.ModelFault.TheVariants.{Crossed, Bits, Activity, Limit, NoMemory}

-- the parts fit together: as many names as spans and rows, fewer than 2 ^ 32 of each, and the terms' variables are there
pub record AreFitting (parts : Parts) : Type 0 where
  pub named : length parts.names ≡ length parts.spans
  pub row_named : length parts.row_names ≡ length parts.rows
  pub variables : length parts.spans < 2 ^ 32
  pub rows : length parts.rows < 2 ^ 32
  pub few_costs : length parts.costs < 2 ^ 32
  pub few_terms : All (λ row. length row.terms < 2 ^ 32) parts.rows
  pub costs : HasVariablesBelow (length parts.spans) parts.costs
  pub terms : All (λ row. HasVariablesBelow (length parts.spans) row.terms) parts.rows

-- the terms of one variable add up: the same coefficients, in order of variables and without zeros
pub record IsTidied (terms sums : List Term) : Type 0 where
  pub tidy : IsTidyFrom 0 sums
  pub same : (v : ℕ) → coefficient sums v ≡ coefficient terms v

-- a row with its terms added up
pub record IsTidiedRow (row tidy : Row) : Type 0 where
  pub sense : tidy.sense ≡ row.sense
  pub low : tidy.low ≡ row.low
  pub rhs : tidy.rhs ≡ row.rhs
  pub terms : IsTidied row.terms tidy.terms

-- the named program that parts make
pub record Makes (parts : Parts) (m : NamedProgram) : Type 0 where
  pub names : m.names ≡ parts.names
  pub row_names : m.row_names ≡ parts.row_names
  pub spans : m.program.spans ≡ parts.spans
  pub rows : AllZip IsTidiedRow parts.rows m.program.rows
  pub costs : IsTidied parts.costs m.program.costs
  pub constant : m.program.constant ≡ parts.constant
  pub maximises : m.program.maximises ≡ parts.maximises
  pub limits : m.program.limits ≡ parts.limits

-- how many terms are written in the objective and the rows
abbrev pub written_terms : Parts → ℕ
written_terms parts = length parts.costs + sum_by (λ row. length row.terms) parts.rows

-- the first crossed variable
pub record IsFirstCrossed (spans : List Span) (v : ℕ) : Type 0 where
  pub there : v < length spans
  pub crossed : (span_at spans v).hi <ℤ (span_at spans v).lo
  pub first : (k : ℕ) → k < v → (span_at spans k).lo ≤ℤ (span_at spans k).hi

-- no variable is crossed
abbrev pub NoneCrossed : List Span → Type 0
NoneCrossed spans = All (λ s. s.lo ≤ℤ s.hi) spans

-- the first row, of the program that the parts make, whose sums may leave 62 bits
pub record IsFirstLarge (p : Program) (row : ℕ) : Type 0 where
  pub there : row < length p.rows
  pub large : (d : Row) → KeepsActivity p (slice_index_or p.rows row d) → ⊥
  pub first : (k : ℕ) (d : Row) → k < row → KeepsActivity p (slice_index_or p.rows k d)

-- too many variables, rows or written terms, or a span's end past the numbers of texts
pub data IsOverLimit (parts : Parts) : Type 0 where
  variables : most_variables parts.limits < length parts.spans → IsOverLimit parts
  rows : most_rows parts.limits < length parts.rows → IsOverLimit parts
  terms : most_terms parts.limits < written_terms parts → IsOverLimit parts
  ends : (All HasSmallEnds parts.spans → ⊥) → IsOverLimit parts

-- the numbers of variables, rows and written terms and the spans' ends keep the limits
pub record IsWithinLimits (parts : Parts) : Type 0 where
  pub variables : length parts.spans ≤ most_variables parts.limits
  pub rows : length parts.rows ≤ most_rows parts.limits
  pub terms : written_terms parts ≤ most_terms parts.limits
  pub ends : All HasSmallEnds parts.spans

-- the first fault of parts, in order: a crossed span, the bits, an activity (of the objective first), a limit
abbrev pub HasModelFault : Parts → ModelFault → Type 0
HasModelFault parts (Crossed v) = IsFirstCrossed parts.spans v
HasModelFault parts Bits = NoneCrossed parts.spans × (most_digits parts.limits < zone_bits parts.spans)
HasModelFault parts (Activity None) =
    NoneCrossed parts.spans × (zone_bits parts.spans ≤ most_digits parts.limits)
    × ((m : NamedProgram) × Makes parts m × (number_limit ≤ cost_limit m.program))
HasModelFault parts (Activity (Some row)) =
    NoneCrossed parts.spans × (zone_bits parts.spans ≤ most_digits parts.limits)
    × ((m : NamedProgram) × Makes parts m × (cost_limit m.program < number_limit) × IsFirstLarge m.program row)
HasModelFault parts Limit =
    NoneCrossed parts.spans × (zone_bits parts.spans ≤ most_digits parts.limits)
    × ((m : NamedProgram) × Makes parts m × (cost_limit m.program < number_limit) × All (KeepsActivity m.program) m.program.rows)
    × IsOverLimit parts
HasModelFault parts NoMemory = Unit {0}
