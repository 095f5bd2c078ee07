-- The decomposition that a text means, and its first fault.
use Rattle.std.specs.Prelude.{◌≡◌, ℕ, ◌<◌, ◌≤◌, List, length, None, Some, slice_get}
use Rattle.bp_theory.specs.Limits.{most_bytes}
use Rattle.bp_theory.specs.Decomposition.{Decomposition}
use Rattle.bp_model.specs.Named.{NamedProgram}
use Rattle.dec_syntax.specs.Cut.{Token, tokens, end_line}
use Rattle.dec_syntax.specs.Parts.{parts_of, decomposition_of}
use Rattle.dec_syntax.specs.Faults.{fault_at, end_fault}
use Rattle.dec_syntax.specs.declared.kind.DecKind.{DecKind}
use Rattle.dec_syntax.specs.declared.kind.DecKind.TheVariants.{Limit}
use Rattle.dec_read.specs.declared.fault.DecFault.{DecFault}
use Rattle.dec_read.specs.declared.fault.DecFault.TheVariants.{At, NoMemory}

-- the decomposition that a text means: neither a token nor the end is at fault
pub record ReadsDecomposition (text : List ℕ) (m : NamedProgram) (d : Decomposition) : Type 0 where
  pub short : length text ≤ most_bytes m.program.limits
  pub faultless : (i : ℕ) → fault_at m (tokens text) i ≡ None
  pub ended : end_fault m (parts_of text) ≡ None
  pub meant : d ≡ decomposition_of m (parts_of text)

-- the first fault of a text: its length, else its first token at fault, else its end
pub data HasDecTextFault (text : List ℕ) (m : NamedProgram) (line : ℕ) (kind : DecKind) : Type 0 where
  too_long : most_bytes m.program.limits < length text → line ≡ 0 → kind ≡ Limit → HasDecTextFault text m line kind
  at_token : length text ≤ most_bytes m.program.limits → (i : ℕ) → (token : Token) → slice_get (tokens text) i ≡ Some token
      → fault_at m (tokens text) i ≡ Some kind → ((k : ℕ) → k < i → fault_at m (tokens text) k ≡ None)
      → line ≡ token.line → HasDecTextFault text m line kind
  at_end : length text ≤ most_bytes m.program.limits → ((i : ℕ) → fault_at m (tokens text) i ≡ None)
      → end_fault m (parts_of text) ≡ Some kind → line ≡ end_line text → HasDecTextFault text m line kind

-- what an error of reading says
abbrev pub IsFault : List ℕ → NamedProgram → DecFault → Type 0
IsFault text m (At line kind) = HasDecTextFault text m line kind
IsFault text m NoMemory = Unit {0}
