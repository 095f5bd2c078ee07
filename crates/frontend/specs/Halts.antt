-- Why a run ends before it has a program in blocks.
use Rattle.std.specs.Prelude.{◌≡◌, ℕ, ◌≤◌, List, [], Option, None, Result, Ok, Err}
use Rattle.bp_model.specs.Named.{NamedProgram}
use Rattle.bp_shelf.specs.Shelf.{Files, Rose}
use Rattle.bp_shelf.specs.declared.shelf.ShelfFault.TheVariants.{Missing, Failed, NoMemory}
use Rattle.bp_theory.specs.declared.Limits.{Limits}
use Rattle.bp_theory.specs.Decomposition.{Decomposition}
use Rattle.lp_token.specs.declared.LpKind.{LpKind}
use Rattle.lp_semantics.specs.Reading as lp_text
use Rattle.dec_syntax.specs.declared.kind.DecKind.{DecKind}
use Rattle.dec_read.specs.Reading as dec_text
use Rattle.bp_report.specs.Refusals.{lp_refusal, dec_refusal}
use Rattle.frontend.specs.Front.{FilesCome, BlocksCome, TextsCome, ends, HasLpFault, HasDecFault, LacksDec}
use Rattle.frontend.specs.declared.front.Halt.{Halt}
use Rattle.frontend.specs.declared.front.Halt.TheVariants.{Refused, Stopped}

-- the files come to this end of a run
abbrev pub ComesToHalt : Limits → Files → (lp : List ℕ) → (dec : Option (List ℕ)) → Halt → Type 0
ComesToHalt limits files lp dec (Refused report) = FilesCome limits files lp dec (ends 3 report.items)
ComesToHalt limits files lp dec (Stopped Missing) = FilesCome limits files lp dec (ends 11 [])
ComesToHalt limits files lp dec (Stopped Failed) = Unit {0}
ComesToHalt limits files lp dec (Stopped NoMemory) = Unit {0}

-- a model's file comes to this end of a run
abbrev pub LpHalts : Limits → Option (List ℕ) → Halt → Type 0
LpHalts limits file (Refused report) = HasLpFault limits file report.items
LpHalts limits file (Stopped Missing) = file ≡ None
LpHalts limits file (Stopped Failed) = Unit {0}
LpHalts limits file (Stopped NoMemory) = Unit {0}

-- the file of a decomposition comes to this end of a run
abbrev pub DecHalts : Files → NamedProgram → Option (List ℕ) → Halt → Type 0
DecHalts files m dec (Refused report) = HasDecFault files m dec report.items
DecHalts files m dec (Stopped Missing) = LacksDec files dec
DecHalts files m dec (Stopped Failed) = Unit {0}
DecHalts files m dec (Stopped NoMemory) = Unit {0}

-- the count of read faults: it rose at a failed read, and is as before after every other answer
abbrev pub CountsHalted : {T : Type 0} → ℕ → ℕ → Result T Halt → Type 0
CountsHalted before now (Err (Stopped Failed)) = (before ≤ now) × Rose before now
CountsHalted before now (Err (Stopped Missing)) = now ≡ before
CountsHalted before now (Err (Stopped NoMemory)) = now ≡ before
CountsHalted before now (Err (Refused report)) = now ≡ before
CountsHalted before now (Ok _) = now ≡ before

-- a refusal for the first fault of an LP text, or want of memory
abbrev pub IsLpHalt : Limits → List ℕ → Halt → Type 0
IsLpHalt limits text (Refused report) = (line : ℕ) × (kind : LpKind) × lp_text.HasLpTextFault limits text line kind × (report.items ≡ lp_refusal line kind)
IsLpHalt limits text (Stopped fault) = fault ≡ NoMemory

-- a refusal for the first fault of a decomposition's text, or want of memory
abbrev pub IsDecHalt : List ℕ → NamedProgram → Halt → Type 0
IsDecHalt text m (Refused report) = (line : ℕ) × (kind : DecKind) × dec_text.HasDecTextFault text m line kind × (report.items ≡ dec_refusal line kind)
IsDecHalt text m (Stopped fault) = fault ≡ NoMemory

-- a refusal of a decomposition, or want of memory
abbrev pub IsBlocksHalt : NamedProgram → Decomposition → Halt → Type 0
IsBlocksHalt m d (Refused report) = BlocksCome m d (ends 3 report.items)
IsBlocksHalt m d (Stopped fault) = fault ≡ NoMemory

-- the texts of a model and of its decomposition come to this end of a run: a refusal, or want of memory
abbrev pub TextsHalt : Limits → (lp dec : List ℕ) → Halt → Type 0
TextsHalt limits lp dec (Refused report) = TextsCome limits lp dec (ends 3 report.items)
TextsHalt limits lp dec (Stopped fault) = fault ≡ NoMemory
