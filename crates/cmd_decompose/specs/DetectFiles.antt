-- The files after a run of `detect`.
use Rattle.std.specs.Prelude.{ℕ, List}
use Rattle.bp_theory.specs.declared.Limits.{Limits}
use Rattle.bp_shelf.specs.Shelf.{Files}
use Rattle.frontend.specs.Written.{LeavesText, StandsUnput}
use Rattle.cmd_decompose.specs.Detects.{Detects}
pub use Rattle.frontend.specs.Written.{answered, untouched, begun, unput}

-- the files after a run, by its status
abbrev pub DetectLeaves : Limits → (lp rows dec : List ℕ) → (before now : Files) → (status : ℕ) → Type 0
DetectLeaves limits lp rows dec before now status = LeavesText (Detects limits before lp rows) dec before now status

-- what stands where the report could not be put, which is put last
abbrev pub DetectWrites : Limits → (lp rows dec : List ℕ) → (before now : Files) → Type 0
DetectWrites limits lp rows dec before now = StandsUnput (Detects limits before lp rows) dec before now
