-- What the files of a model and of its decomposition come to.
use Rattle.std.specs.Prelude.{◌≡◌, ◌≢◌, ℕ, List, [], Option, Some, None, All}
use Rattle.bp_theory.specs.declared.Limits.{Limits}
use Rattle.bp_theory.specs.Decomposition.{Decomposition, IsMisplaced}
use Rattle.bp_model.specs.Named.{NamedProgram}
use Rattle.bp_model.specs.Dec.{plain_of}
use Rattle.bp_shelf.specs.Shelf.{Files}
use Rattle.lp_token.specs.declared.LpKind.{LpKind}
use Rattle.lp_semantics.specs.Reading as lp_text
use Rattle.lp_semantics.specs.Model.{Means}
use Rattle.dec_syntax.specs.declared.kind.DecKind.{DecKind}
use Rattle.dec_read.specs.Reading as dec_text
use Rattle.block_program.specs.Blocked.{BlockedProgram, IsFormed}
use Rattle.block_form.specs.Checks.{HasBlockFault}
use Rattle.block_form.specs.declared.fault.BlockFault.{BlockFault}
use Rattle.block_form.specs.declared.fault.BlockFault.TheVariants.{NoMemory}
use Rattle.bp_report.specs.Refusals.{lp_refusal, dec_refusal, blocks_refusal}

-- a program in blocks to work on, or a run's end before it: a status and what is printed
pub data Front : Type 0 where
  blocked : BlockedProgram → Front
  ends : (status : ℕ) (report : List ℕ) → Front

-- what a decomposition of a program comes to: its blocks, without cuts, or what it is refused for
pub data BlocksCome (m : NamedProgram) (d : Decomposition) : Front → Type 0 where
  formed : (b : BlockedProgram) → b.named ≡ m → b.dec ≡ d → b.cuts ≡ [] → IsFormed b
      → All (λ e. IsMisplaced m.program d e → ⊥) d.listed → BlocksCome m d (blocked b)
  refused : (fault : BlockFault) → fault ≢ NoMemory → HasBlockFault m.program d fault
      → BlocksCome m d (ends 3 (blocks_refusal m fault))

-- what the file of a decomposition comes to, if one is named: without it every row is a master row
pub data DecComes (files : Files) (m : NamedProgram) : Option (List ℕ) → Front → Type 0 where
  plain : (f : Front) → BlocksCome m (plain_of m.program) f → DecComes files m None f
  missing : (name : List ℕ) → files name ≡ None → DecComes files m (Some name) (ends 11 [])
  faulty : (name text : List ℕ) (line : ℕ) (kind : DecKind) → files name ≡ Some text → dec_text.HasDecTextFault text m line kind
      → DecComes files m (Some name) (ends 3 (dec_refusal line kind))
  read : (name text : List ℕ) (d : Decomposition) (f : Front) → files name ≡ Some text → dec_text.ReadsDecomposition text m d → BlocksCome m d f
      → DecComes files m (Some name) f

-- what the files of a model and of its decomposition come to, where the model is read under limits
pub data FilesCome (limits : Limits) (files : Files) (lp : List ℕ) (dec_file : Option (List ℕ)) : Front → Type 0 where
  missing_lp : files lp ≡ None → FilesCome limits files lp dec_file (ends 11 [])
  faulty_lp : (text : List ℕ) (line : ℕ) (kind : LpKind) → files lp ≡ Some text → lp_text.HasLpTextFault limits text line kind
      → FilesCome limits files lp dec_file (ends 3 (lp_refusal line kind))
  read_lp : (text : List ℕ) (m : NamedProgram) (f : Front) → files lp ≡ Some text → Means limits text m → DecComes files m dec_file f
      → FilesCome limits files lp dec_file f

-- what a model's file comes to: the program that its text means under limits
pub record HasModel (limits : Limits) (file : Option (List ℕ)) (m : NamedProgram) : Type 0 where
  pub text : List ℕ
  pub there : file ≡ Some text
  pub means : Means limits text m

-- a model's text has this first fault under limits
pub record HasLpFault (limits : Limits) (file : Option (List ℕ)) (report : List ℕ) : Type 0 where
  pub text : List ℕ
  pub line : ℕ
  pub kind : LpKind
  pub there : file ≡ Some text
  pub fault : lp_text.HasLpTextFault limits text line kind
  pub printed : report ≡ lp_refusal line kind

-- the decomposition of a named file or, where none is named, the plain one
abbrev pub HasDec : Files → NamedProgram → Option (List ℕ) → Decomposition → Type 0
HasDec files m None d = d ≡ plain_of m.program
HasDec files m (Some name) d = (text : List ℕ) × (files name ≡ Some text) × dec_text.ReadsDecomposition text m d

-- the named file of a decomposition has a text with a first fault
abbrev pub HasDecFault : Files → NamedProgram → Option (List ℕ) → List ℕ → Type 0
HasDecFault files m None report = ⊥
HasDecFault files m (Some name) report =
    (text : List ℕ) × (line : ℕ) × (kind : DecKind) × (files name ≡ Some text) × dec_text.HasDecTextFault text m line kind × (report ≡ dec_refusal line kind)

-- the named file of a decomposition isn't there
abbrev pub LacksDec : Files → Option (List ℕ) → Type 0
LacksDec files None = ⊥
LacksDec files (Some name) = files name ≡ None

-- what the texts of a model and of its decomposition come to under limits, in whatever files they stand
abbrev pub TextsCome : Limits → (lp dec : List ℕ) → Front → Type 0
TextsCome limits lp dec front = (files : Files) (lp_file dec_file : List ℕ) → files lp_file ≡ Some lp → files dec_file ≡ Some dec
    → FilesCome limits files lp_file (Some dec_file) front
