-- The files after a run of `migrate`.
use Rattle.std.specs.Prelude.{◌≡◌, ◌⊎◌, ℕ, List, ◌++◌, Option, Some, None}
use Rattle.bp_theory.specs.declared.Limits.{Limits}
use Rattle.bp_shelf.specs.Shelf.{Files, OthersAsBefore}
use Rattle.frontend.specs.Written.{Answer, LeavesText, StandsUnput}
use Rattle.cmd_certificates.specs.Migrates.{Migrates}
pub use Rattle.frontend.specs.Written.{answered, untouched, begun, unput}

-- a file holds a beginning of a text
abbrev pub IsPartOf : (text file : Option (List ℕ)) → Type 0
IsPartOf None file = ⊥
IsPartOf (Some text) file = (part : List ℕ) × (rest : List ℕ) × (text ≡ part ++ rest) × (file ≡ Some part)

-- a file holds a beginning of the text of a right answer
abbrev pub HoldsPart : (Right : Answer → Type 0) → (file : Option (List ℕ)) → Type 0
HoldsPart Right file = (a : Answer) × Right a × IsPartOf a.text file

-- the named file is as before, or holds a beginning of the text of a right answer; and all other files are as before
pub record LeavesPart (Right : Answer → Type 0) (name : List ℕ) (before now : Files) : Type 0 where
  pub holds : (now name ≡ before name) ⊎ HoldsPart Right (now name)
  pub others : OthersAsBefore name before now

-- the files after a run, by its status: those after any command that writes one text; or, for want of memory, a part of the text
pub data MigrateLeaves (limits : Limits) (lp cert : List ℕ) (dec : Option (List ℕ)) (new : List ℕ) (before now : Files) (status : ℕ) : Type 0 where
  stands : LeavesText (Migrates limits before lp cert dec) new before now status → MigrateLeaves limits lp cert dec new before now status
  part : LeavesPart (Migrates limits before lp cert dec) new before now → status ≡ 9 → MigrateLeaves limits lp cert dec new before now status

-- what stands where the report could not be put, which is put last
abbrev pub MigrateWrites : Limits → (lp cert : List ℕ) → (dec : Option (List ℕ)) → (new : List ℕ) → (before now : Files) → Type 0
MigrateWrites limits lp cert dec new before now = StandsUnput (Migrates limits before lp cert dec) new before now
