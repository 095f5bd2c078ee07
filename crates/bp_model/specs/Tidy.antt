-- Terms added up: sums by variable, their limits at spans, and what the steps of making a model tell.
use Rattle.std.specs.Prelude.{◌≡◌, ℕ, ◌+◌, ◌*◌, ◌<◌, ◌≤◌, ◌^◌, unsigned_abs, sum_by, max, not, List, map, filter, take, length, ℤ, pos, All, Option, None, Some, slice_index_or}
use Rattle.bp_theory.specs.Limits.{most_digits, number_limit}
use Rattle.std.specs.List.{AllZip}
use Rattle.std.specs.Ordering.{int_eq}
use Rattle.bp_theory.specs.Program.{span_at, reach}
use Rattle.bp_theory.specs.Digits.{zone_bits}
use Rattle.bp_theory.specs.declared.Limits.{Limits}
use Rattle.bp_theory.specs.declared.Span.{Span}
use Rattle.bp_theory.specs.declared.Term.{Term}
use Rattle.bp_theory.specs.declared.Row.{Row}
use Rattle.bp_model.specs.Named.{NamedProgram}
use Rattle.bp_model.specs.Parts.{IsTidied, IsTidiedRow, IsFirstCrossed, NoneCrossed, AreFitting, IsWithinLimits}
use Rattle.bp_model.specs.declared.parts.Parts.{Parts}
use Rattle.bp_model.specs.declared.parts.ModelFault.{ModelFault}
use Rattle.bp_model.specs.declared.parts.ModelFault.TheVariants.{Crossed, Bits, Activity, Limit, NoMemory}

-- a variable with its sum, as a term
abbrev pub as_term : ℕ × ℤ → Term
as_term e = record { var = e.0; coef = e.1 }

-- the sums that aren't 0
abbrev pub nonzero : List (ℕ × ℤ) → List (ℕ × ℤ)
nonzero sums = filter (λ e. not (int_eq e.1 (pos 0))) sums

-- the greatest magnitude of a sum of terms at points within spans
abbrev pub sum_limit : List Span → List Term → ℕ
sum_limit spans terms = sum_by (λ t. unsigned_abs t.coef * reach (span_at spans t.var)) terms

-- the same of sums by variable
abbrev pub pair_limit : List Span → List (ℕ × ℤ) → ℕ
pair_limit spans sums = sum_by (λ e. unsigned_abs e.1 * reach (span_at spans e.0)) sums

-- the added terms, together with a magnitude, may leave 62 bits
pub record IsLarge (spans : List Span) (base : ℕ) (terms : List Term) : Type 0 where
  pub sums : List Term
  pub tidied : IsTidied terms sums
  pub large : number_limit ≤ base + sum_limit spans sums

-- the added terms, which together with a magnitude stay within 62 bits
pub record IsSmall (spans : List Span) (base : ℕ) (terms sums : List Term) : Type 0 where
  pub tidied : IsTidied terms sums
  pub small : base + sum_limit spans sums < number_limit

-- the greater magnitude of a row's sides
abbrev pub row_base : Row → ℕ
row_base row = max (unsigned_abs row.low) (unsigned_abs row.rhs)

-- a row with its terms added up, which stays within 62 bits
pub record IsSmallRow (spans : List Span) (row tidy : Row) : Type 0 where
  pub tidied : IsTidiedRow row tidy
  pub small : row_base tidy + sum_limit spans tidy.terms < number_limit

-- the first row whose sums may leave 62 bits, with the rows before it added up
pub record IsLargeAt (spans : List Span) (rows : List Row) (row : ℕ) : Type 0 where
  pub there : row < length rows
  pub before : List Row
  pub small : AllZip (IsSmallRow spans) (take row rows) before
  pub large : (d : Row) → IsLarge spans (row_base (slice_index_or rows row d)) (slice_index_or rows row d).terms

-- what is wrong with rows
abbrev pub HasRowsFault : List Span → List Row → ModelFault → Type 0
HasRowsFault spans rows (Crossed v) = ⊥
HasRowsFault spans rows Bits = ⊥
HasRowsFault spans rows (Activity None) = ⊥
HasRowsFault spans rows (Activity (Some row)) = IsLargeAt spans rows row
HasRowsFault spans rows Limit = ⊥
HasRowsFault spans rows NoMemory = Unit {0}

-- what is wrong with costs
abbrev pub HasCostsFault : List Span → ℤ → List Term → ModelFault → Type 0
HasCostsFault spans constant costs (Crossed v) = ⊥
HasCostsFault spans constant costs Bits = ⊥
HasCostsFault spans constant costs (Activity None) = IsLarge spans (unsigned_abs constant) costs
HasCostsFault spans constant costs (Activity (Some row)) = ⊥
HasCostsFault spans constant costs Limit = ⊥
HasCostsFault spans constant costs NoMemory = Unit {0}

-- what is wrong with spans under limits
abbrev pub HasSpansFault : Limits → List Span → ModelFault → Type 0
HasSpansFault limits spans (Crossed v) = IsFirstCrossed spans v
HasSpansFault limits spans Bits = NoneCrossed spans × (most_digits limits < zone_bits spans)
HasSpansFault limits spans (Activity row) = ⊥
HasSpansFault limits spans Limit = ⊥
HasSpansFault limits spans NoMemory = ⊥

-- what a model can be assembled from: parts within their limits, with costs and rows added up
pub record CanAssemble (parts : Parts) (costs : List Term) (rows : List Row) : Type 0 where
  pub fitting : AreFitting parts
  pub proper : NoneCrossed parts.spans
  pub bits : zone_bits parts.spans ≤ most_digits parts.limits
  pub costs_small : IsSmall parts.spans (unsigned_abs parts.constant) parts.costs costs
  pub rows_small : AllZip (IsSmallRow parts.spans) parts.rows rows
  pub limits : IsWithinLimits parts

-- the named program of parts, with costs and rows added up
abbrev pub assembled : Parts → List Term → List Row → NamedProgram
assembled parts costs rows = record {
  program = record { spans = parts.spans; rows = rows; costs = costs; constant = parts.constant; maximises = parts.maximises; limits = parts.limits };
  names = parts.names;
  row_names = parts.row_names;
}
