-- What `propose` answers by the files.
use Rattle.std.specs.Prelude.{◌≡◌, ℕ, List, [], Some, None}
use Rattle.bp_shelf.specs.Shelf.{Files}
use Rattle.bp_theory.specs.declared.Limits.{Limits}
use Rattle.bp_theory.specs.Decomposition.{Decomposition}
use Rattle.bp_model.specs.Named.{NamedProgram}
use Rattle.dec_read.specs.Reading.{ReadsDecomposition}
use Rattle.dec_write.specs.Text.{text_of}
use Rattle.dec_find.specs.Guess.{IsGuess}
use Rattle.block_program.specs.Blocked.{BlockedProgram}
use Rattle.block_class.specs.Classes.{Grouping, AreSameClasses}
use Rattle.bp_report.specs.Report.{proposed_report}
use Rattle.frontend.specs.Front.{BlocksCome, blocked, HasModel, HasLpFault}
use Rattle.frontend.specs.Written.{Answer, stops, Answered}

-- A decomposition that may be proposed for a program, with its program in blocks and the classes at the root: it is that beside
-- some master rows, it is read back from its text, and its blocks are accepted.
pub record IsProposed (m : NamedProgram) (d : Decomposition) (b : BlockedProgram) (g : Grouping) : Type 0 where
  pub guess : IsGuess m.program d
  pub read_back : ReadsDecomposition (text_of m d) m d
  pub accepted : BlocksCome m d (blocked b)
  pub classes : AreSameClasses b.named.program.spans b.blocking g

-- the report on a program in blocks
pub record HasReport (b : BlockedProgram) (report : List ℕ) : Type 0 where
  pub root : Grouping
  pub classes : AreSameClasses b.named.program.spans b.blocking root
  pub printed : report ≡ proposed_report b root

-- the report on a decomposition whose blocks are accepted
pub record IsReported (m : NamedProgram) (d : Decomposition) (report : List ℕ) : Type 0 where
  pub formed : BlockedProgram
  pub accepted : BlocksCome m d (blocked formed)
  pub told : HasReport formed report

-- what a program is answered: a decomposition, whose text is written, and the report on it
pub data ModelProposes (m : NamedProgram) : Answer → Type 0 where
  proposed : (d : Decomposition) (b : BlockedProgram) (g : Grouping) → IsProposed m d b g
      → ModelProposes m (record { status = 0; report = proposed_report b g; text = Some (text_of m d) })

-- what `propose` answers: that the file isn't there, what its text is refused for, or a decomposition of its model
pub data Proposes (limits : Limits) (files : Files) (lp : List ℕ) : Answer → Type 0 where
  missing_lp : files lp ≡ None → Proposes limits files lp (stops 11 [])
  faulty_lp : (report : List ℕ) → HasLpFault limits (files lp) report → Proposes limits files lp (stops 3 report)
  with_model : (m : NamedProgram) (a : Answer) → HasModel limits (files lp) m → ModelProposes m a → Proposes limits files lp a

-- the same by its status and report
abbrev pub AnswersPropose : Limits → Files → (lp : List ℕ) → (status : ℕ) → (report : List ℕ) → Type 0
AnswersPropose limits files lp status report = Answered (Proposes limits files lp) status report
