-- The parts of the model that a tree means, and what stands in their way.
use Rattle.std.specs.Prelude.{◌≡◌, ℕ, ◌<◌, ◌≤◌, List, length, map, Some, None, slice_index_or, []}
use Rattle.bp_theory.specs.declared.Limits.{Limits}
use Rattle.bp_theory.specs.Limits.{most_digits}
use Rattle.bp_theory.specs.Digits.{zone_bits}
use Rattle.bp_model.specs.declared.parts.Parts.{Parts}
use Rattle.bp_model.specs.Named.{NamedProgram}
use Rattle.bp_model.specs.Parts.{NoneCrossed, IsWithinLimits}
use Rattle.lp_token.specs.declared.LpKind.TheVariants.{Activity}
use Rattle.lp_syntax.specs.Tree.{SyntaxTree}
use Rattle.lp_syntax.specs.Roles.{variables, row_names}
use Rattle.lp_semantics.specs.Meaning.{model_of, ends, span_of, tokens_of, objective_items, minimised, total, constant_of}
use Rattle.lp_token.specs.declared.Tok.{Tok}
use Rattle.lp_semantics.specs.Reading.{IsTextOf, variable_fault, digits_fault, meaning_fault, place_of, row_places}
use Rattle.lp_semantics.specs.Model.{IsProgramOf}
use Rattle.lp_semantics.specs.Numbered.{raw_terms, raw_row, IsFirstBoundsFault}
use Rattle.lp_semantics.specs.declared.bounds.Stated.{Stated}
use Rattle.lp_semantics.specs.declared.MeaningFault.{MeaningFault}
use Rattle.lp_semantics.specs.declared.MeaningFault.TheVariants.{At, Sums, NoMemory}

-- some tokens of a text spell a tree
abbrev pub IsTextOfSome : Limits → List ℕ → SyntaxTree → Type 0
IsTextOfSome limits text t = (tokens : List Tok) × IsTextOf limits text tokens t

-- the parts of a tree under limits: its variables with their spans, and its rows and costs as they are written
pub record ArePartsOf (limits : Limits) (t : SyntaxTree) (p : Parts) : Type 0 where
  pub names : p.names ≡ variables (tokens_of t)
  pub row_names : p.row_names ≡ row_names (tokens_of t)
  pub spans : p.spans ≡ map (λ n. span_of (ends t n)) (variables (tokens_of t))
  pub rows : p.rows ≡ map (raw_row (variables (tokens_of t))) t.rows
  pub costs : p.costs ≡ raw_terms (variables (tokens_of t)) t.maximises (objective_items t)
  pub constant : p.constant ≡ minimised t.maximises (total (map constant_of (objective_items t)))
  pub maximises : p.maximises ≡ t.maximises
  pub same_limits : p.limits ≡ limits

-- no variable of a tree is at fault, and its spans' digits are few enough
pub record AreVariablesSound (limits : Limits) (t : SyntaxTree) : Type 0 where
  pub variables : variable_fault t ≡ None
  pub digits : digits_fault limits t ≡ None

-- parts whose spans and numbers keep the limits of a model
pub record AreLimited (p : Parts) : Type 0 where
  pub proper : NoneCrossed p.spans
  pub bits : zone_bits p.spans ≤ most_digits p.limits
  pub limits : IsWithinLimits p

-- A tree's first fault: of a variable's bounds or digits at the first token that names it, of the objective's sums at
-- its word, of a row's at its first token; or want of memory.
abbrev pub IsRefused : Limits → SyntaxTree → MeaningFault → Type 0
IsRefused limits t (At number kind) =
    (number < length (variables (tokens_of t)))
    × (meaning_fault limits t ≡ Some (place_of (slice_index_or (variables (tokens_of t)) number []) (tokens_of t), kind))
IsRefused limits t (Sums None) = meaning_fault limits t ≡ Some (0, Activity)
IsRefused limits t (Sums (Some row)) = (row < length t.rows) × (meaning_fault limits t ≡ Some (slice_index_or (row_places 0 (tokens_of t)) row 0, Activity))
IsRefused limits t NoMemory = Unit {0}

-- a tree has no fault of meaning, and a named program is that of its meaning and has the limits
pub record IsModelOf (limits : Limits) (t : SyntaxTree) (m : NamedProgram) : Type 0 where
  pub sound : meaning_fault limits t ≡ None
  pub program : IsProgramOf (model_of t) m
  pub same_limits : m.program.limits ≡ limits

-- the first variable at fault in a table, or want of memory
abbrev pub IsFaultOfTable : List Stated → MeaningFault → Type 0
IsFaultOfTable table (At number kind) = IsFirstBoundsFault table number kind
IsFaultOfTable table (Sums row) = ⊥
IsFaultOfTable table NoMemory = Unit {0}
