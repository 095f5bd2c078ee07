-- The files after a run of `merge`.
use Rattle.std.specs.Prelude.{ℕ, List, Option}
use Rattle.bp_theory.specs.declared.Limits.{Limits}
use Rattle.bp_shelf.specs.Shelf.{Files}
use Rattle.frontend.specs.Written.{LeavesText, StandsUnput}
use Rattle.cmd_certificates.specs.Merges.{Merges}
pub use Rattle.frontend.specs.Written.{answered, untouched, begun, unput}

-- the files after a run, by its status
abbrev pub MergeLeaves : Limits → (lp one other : List ℕ) → (dec : Option (List ℕ)) → (new : List ℕ) → (before now : Files) → (status : ℕ) → Type 0
MergeLeaves limits lp one other dec new before now status = LeavesText (Merges limits before lp one other dec) new before now status

-- what stands where the report could not be put, which is put last
abbrev pub MergeWrites : Limits → (lp one other : List ℕ) → (dec : Option (List ℕ)) → (new : List ℕ) → (before now : Files) → Type 0
MergeWrites limits lp one other dec new before now = StandsUnput (Merges limits before lp one other dec) new before now
