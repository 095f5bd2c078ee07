-- The files after a run of `propose`.
use Rattle.std.specs.Prelude.{ℕ, List}
use Rattle.bp_theory.specs.declared.Limits.{Limits}
use Rattle.bp_shelf.specs.Shelf.{Files}
use Rattle.frontend.specs.Written.{LeavesText, StandsUnput}
use Rattle.cmd_decompose.specs.Proposes.{Proposes}
pub use Rattle.frontend.specs.Written.{answered, untouched, begun, unput}

-- the files after a run, by its status
abbrev pub ProposeLeaves : Limits → (lp dec : List ℕ) → (before now : Files) → (status : ℕ) → Type 0
ProposeLeaves limits lp dec before now status = LeavesText (Proposes limits before lp) dec before now status

-- what stands where the report could not be put, which is put last
abbrev pub ProposeWrites : Limits → (lp dec : List ℕ) → (before now : Files) → Type 0
ProposeWrites limits lp dec before now = StandsUnput (Proposes limits before lp) dec before now
