-- What `detect` answers by the files.
use Rattle.std.specs.Prelude.{◌≡◌, ℕ, ◌≤◌, List, [], Option, Some, None}
use Rattle.bp_theory.specs.declared.Limits.{Limits}
use Rattle.bp_theory.specs.Limits.{most_blocks}
use Rattle.bp_shelf.specs.Shelf.{Files}
use Rattle.bp_theory.specs.Decomposition.{Decomposition}
use Rattle.bp_model.specs.Named.{NamedProgram}
use Rattle.dec_write.specs.declared.fault.RowsKind.{RowsKind}
use Rattle.dec_write.specs.declared.fault.RowsKind.TheVariants.{Blocks}
use Rattle.dec_write.specs.Rows.{ListsRows, HasRowsFault}
use Rattle.dec_components.specs.Joined.{IsFound, HasTooMany}
use Rattle.dec_write.specs.Text.{text_of}
use Rattle.bp_report.specs.Report.{detected_report}
use Rattle.bp_report.specs.Refusals.{rows_refusal}
use Rattle.frontend.specs.Front.{HasModel, HasLpFault}
use Rattle.frontend.specs.Written.{Answer, stops, Answered}

-- what master rows of a program are answered: more blocks than a decomposition may have, or the decomposition that is written
pub data DetectsBeside (m : NamedProgram) (master : List ℕ) : Answer → Type 0 where
  many : HasTooMany m.program master → DetectsBeside m master (stops 3 (rows_refusal 0 Blocks))
  found : (d : Decomposition) → IsFound m.program master d → d.blocks ≤ most_blocks m.program.limits
      → DetectsBeside m master (record { status = 0; report = detected_report d.blocks; text = Some (text_of m d) })

-- what the file of master rows is answered, beside a program
pub data RowsCome (m : NamedProgram) (file : Option (List ℕ)) : Answer → Type 0 where
  missing : file ≡ None → RowsCome m file (stops 11 [])
  faulty : (list : List ℕ) (line : ℕ) (kind : RowsKind) → file ≡ Some list → HasRowsFault list m line kind
      → RowsCome m file (stops 3 (rows_refusal line kind))
  read : (list : List ℕ) (master : List ℕ) (a : Answer) → file ≡ Some list → ListsRows list m master → DetectsBeside m master a → RowsCome m file a

-- what `detect` answers: the first file that isn't there or whose text is refused, or the blocks beside the master rows
pub data Detects (limits : Limits) (files : Files) (lp rows : List ℕ) : Answer → Type 0 where
  missing_lp : files lp ≡ None → Detects limits files lp rows (stops 11 [])
  faulty_lp : (report : List ℕ) → HasLpFault limits (files lp) report → Detects limits files lp rows (stops 3 report)
  with_model : (m : NamedProgram) (a : Answer) → HasModel limits (files lp) m → RowsCome m (files rows) a → Detects limits files lp rows a

-- the same by its status and report
abbrev pub AnswersDetect : Limits → Files → (lp rows : List ℕ) → (status : ℕ) → (report : List ℕ) → Type 0
AnswersDetect limits files lp rows status report = Answered (Detects limits files lp rows) status report
