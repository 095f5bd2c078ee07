-- Signatures: a block's data in a zone as one list of numbers, and blocks grouped by them.
use Rattle.std.specs.Prelude.{◌≡◌, ℕ, ◌<◌, ◌≤◌, List, [], ◌∷◌, ◌++◌, length, ℤ, pos, negsuc, slice_get, Some, flat_map}
use Rattle.std.specs.List.Sorted.{IsStrictlyIncreasing}
use Rattle.bp_theory.specs.Program.{span_at}
use Rattle.bp_theory.specs.Blocking.{Copy, Block}
use Rattle.bp_theory.specs.declared.Sense.{Sense}
use Rattle.bp_theory.specs.declared.Sense.TheVariants.{Le, Ge, Eq, In}
use Rattle.bp_theory.specs.declared.Span.{Span}
use Rattle.bp_theory.specs.declared.Term.{Term}
use Rattle.bp_theory.specs.declared.Row.{Row}
use Rattle.search_laws.specs.Spread.{class_at}
use Rattle.block_class.specs.Classes.{IsFirstOf}

-- a sense as a number
abbrev pub sense_number : Sense → ℤ
sense_number Le = pos 0
sense_number Ge = pos 1
sense_number Eq = pos 2
sense_number In = pos 3

-- coefficients by rows, ended by a number that no row has
abbrev pub coefs_signature : List (ℕ × ℤ) → List ℤ
coefs_signature coefs = flat_map (λ (e : ℕ × ℤ). pos e.0 ∷ e.1 ∷ []) coefs ++ negsuc 0 ∷ []

-- terms, ended by a number that no variable has
abbrev pub terms_signature : List Term → List ℤ
terms_signature terms = flat_map (λ (t : Term). pos t.var ∷ t.coef ∷ []) terms ++ negsuc 0 ∷ []

-- a copy: its cost, its span in the zone and its coefficients
abbrev pub copy_signature : List Span → Copy → List ℤ
copy_signature zone c = c.cost ∷ (span_at zone c.var).lo ∷ (span_at zone c.var).hi ∷ coefs_signature c.coefs

-- a row: its sense, its sides and its terms
abbrev pub row_signature : Row → List ℤ
row_signature row = sense_number row.sense ∷ row.low ∷ row.rhs ∷ terms_signature row.terms

-- a block: the number of its copies, the copies and the rows
abbrev pub signature : List Span → Block → List ℤ
signature zone block = (pos (length block.copies) ∷ flat_map (copy_signature zone) block.copies) ++ flat_map row_signature block.rows

-- so many blocks are grouped by signatures, which are kept in the order of the classes
pub record IsGrouped (signature_of : ℕ → List ℤ) (k : ℕ) (kept : List (List ℤ)) (classes firsts : List ℕ) : Type 0 where
  pub each : length classes ≡ k
  pub few : length kept ≤ k
  pub each_first : length firsts ≡ length kept
  pub class : (j : ℕ) → j < k → slice_get kept (class_at classes j) ≡ Some (signature_of j)
  pub own : (c : ℕ) → c < length kept → IsFirstOf classes c (class_at firsts c)
  pub ascend : IsStrictlyIncreasing firsts
