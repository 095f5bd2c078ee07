-- What `gen` answers and writes.
use Rattle.std.specs.Prelude.{◌≡◌, ◌≢◌, ◌⊎◌, ℕ, ◌+◌, ◌*◌, List, Some, Result, Ok, Err}
use Rattle.bp_shelf.specs.Shelf.{Files, OthersAsBefore}
use Rattle.bp_shelf.specs.declared.shelf.ShelfFault.{ShelfFault}
use Rattle.bp_shelf.specs.declared.shelf.ShelfFault.TheVariants.{Failed}
use Rattle.bp_gen.specs.Generator.{lp_text, dec_text}
use Rattle.bp_report.specs.Report.{made_report}
use Rattle.cmd_gen.specs.declared.Made.{Made}

-- what `gen` answers: 4 variables a job, and a row for each job and each of the 4 agents
pub record AnswersGen (size status : ℕ) (report : List ℕ) : Type 0 where
  pub done : status ≡ 0
  pub printed : report ≡ made_report (4 * size) (size + 4)

-- the texts of a seed and a size, and the answer
pub record HoldsTexts (seed size : ℕ) (made : Made) : Type 0 where
  pub model : made.lp.items ≡ lp_text seed size
  pub decomposition : made.dec.items ≡ dec_text size
  pub answer : AnswersGen size made.reply.status made.reply.report.items

-- each file but two is as before
abbrev pub OthersStand : (lp dec : List ℕ) → Files → Files → Type 0
OthersStand lp dec before now = (other : List ℕ) → other ≢ lp → other ≢ dec → now other ≡ before other

-- the first text is written whole, and nothing else
pub record IsFirstWritten (lp lp_bytes : List ℕ) (before now : Files) : Type 0 where
  pub lp_whole : now lp ≡ Some lp_bytes
  pub others : OthersAsBefore lp before now

-- the first text is written whole, and the second may be cut off: where both names are one, so may the file
pub record IsSecondBegun (lp dec lp_bytes : List ℕ) (before now : Files) : Type 0 where
  pub lp_whole : lp ≢ dec → now lp ≡ Some lp_bytes
  pub others : OthersStand lp dec before now

-- both texts are written whole, the second behind the first: where both names are one, the file holds the second
pub record AreWritten (lp dec lp_bytes dec_bytes : List ℕ) (before now : Files) : Type 0 where
  pub lp_whole : lp ≢ dec → now lp ≡ Some lp_bytes
  pub dec_whole : now dec ≡ Some dec_bytes
  pub others : OthersStand lp dec before now

-- the files after both writes, or after the one that failed
abbrev pub WritesBoth : (lp dec lp_bytes dec_bytes : List ℕ) → Files → Files → Result (Unit {0}) ShelfFault → Type 0
WritesBoth lp dec lp_bytes dec_bytes before now (Ok _) = AreWritten lp dec lp_bytes dec_bytes before now
WritesBoth lp dec lp_bytes dec_bytes before now (Err Failed) = OthersAsBefore lp before now ⊎ IsSecondBegun lp dec lp_bytes before now
WritesBoth lp dec lp_bytes dec_bytes before now (Err _) = (now ≡ before) ⊎ IsFirstWritten lp lp_bytes before now

-- The files after a run, by its status: the LP text is written first, then the DEC text. Memory may be wanting before the
-- first write or before the second, either write may fail, and both texts stand where only the report was left to be put.
pub data LeavesTexts (lp dec lp_bytes dec_bytes : List ℕ) (before now : Files) (status : ℕ) : Type 0 where
  untouched : now ≡ before → status ≡ 9 → LeavesTexts lp dec lp_bytes dec_bytes before now status
  first_begun : OthersAsBefore lp before now → status ≡ 8 → LeavesTexts lp dec lp_bytes dec_bytes before now status
  first_alone : IsFirstWritten lp lp_bytes before now → status ≡ 9 → LeavesTexts lp dec lp_bytes dec_bytes before now status
  second_begun : IsSecondBegun lp dec lp_bytes before now → status ≡ 8 → LeavesTexts lp dec lp_bytes dec_bytes before now status
  both : AreWritten lp dec lp_bytes dec_bytes before now → (status ≡ 0) ⊎ (status ≡ 8) → LeavesTexts lp dec lp_bytes dec_bytes before now status

-- the same with the texts of a seed and a size
abbrev pub GenLeaves : (seed size : ℕ) → (lp dec : List ℕ) → Files → Files → (status : ℕ) → Type 0
GenLeaves seed size lp dec before now status = LeavesTexts lp dec (lp_text seed size) (dec_text size) before now status

-- both texts of a seed and a size stand
abbrev pub GenWrites : (seed size : ℕ) → (lp dec : List ℕ) → Files → Files → Type 0
GenWrites seed size lp dec before now = AreWritten lp dec (lp_text seed size) (dec_text size) before now
