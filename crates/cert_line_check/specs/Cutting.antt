-- How the lines of cuts are judged, and programs in blocks with cuts.
use Rattle.std.specs.Prelude.{◌≡◌, ℕ, List, [], ◌∷◌, Result, Ok, Err}
use Rattle.std.specs.List.{AllByRecursion}
use Rattle.bp_theory.specs.Program.{Program}
use Rattle.bp_theory.specs.Blocking.{Blocking}
use Rattle.bp_theory.specs.Decomposition.{Decomposition, ProofRow, blocking_of}
use Rattle.bp_theory.specs.Cuts.{cut_row, cut_rows}
use Rattle.bp_theory.specs.Judgement.{Line, cut_line, cut_lines, Passes, HasFault}
use Rattle.bp_theory.specs.declared.Claim.{Claim}
use Rattle.bp_theory.specs.declared.Cut.{Cut}
use Rattle.bp_theory.specs.declared.Row.{Row}
use Rattle.block_program.specs.Blocked.{BlockedProgram, IsFormed}
use Rattle.cut_sums.specs.Cutting.{IsEarlierCut, HasFittingSigns}
use Rattle.round_cut.specs.Several.{AreRowsOfCuts}
use Rattle.cert_line_check.specs.Judging.{IsFirstBad}
use Rattle.cert_line_check.specs.declared.place.Rejection.{Rejection}

-- lines pass, whatever the leaves are to show and over which blocking
abbrev pub AlwaysPass : Program → List Line → Type 0
AlwaysPass p lines = (b : Blocking) (claim : Claim) → AllByRecursion (Passes p b claim) lines

-- what judging the line of a cut over rows answers: the cut's row, where the line passes, or the line's fault
abbrev pub JudgesCut : Program → (rows : List ProofRow) → Cut → (line : ℕ) → Result Row Rejection → Type 0
JudgesCut p rows cut line (Ok row) = (row ≡ cut_row p rows cut) × IsEarlierCut p row × HasFittingSigns rows cut × AlwaysPass p (cut_line rows cut ∷ [])
JudgesCut p rows cut line (Err found) = (found.line ≡ line) × ((b : Blocking) (claim : Claim) → HasFault p b claim (cut_line rows cut) found.kind)

-- what judging the lines of cuts answers, of which the first has a number: their rows, where all pass, or the first line at fault
abbrev pub JudgesCuts : Program → Decomposition → List Cut → (first : ℕ) → Result (List Row) Rejection → Type 0
JudgesCuts p d cuts first (Ok rows) = AreRowsOfCuts p d cuts rows
JudgesCuts p d cuts first (Err found) = (b : Blocking) (claim : Claim) → IsFirstBad p b claim (cut_lines p d [] cuts) first found.line found.kind

-- the blocking that a certificate with these cuts is judged over
abbrev pub blocking_over : BlockedProgram → List Cut → Blocking
blocking_over b cuts = blocking_of b.named.program b.dec (cut_rows b.named.program b.dec [] cuts)

-- a program in blocks is that of another one with these cuts in place of its own
pub record HasCuts (b : BlockedProgram) (given : List Cut) (other : BlockedProgram) : Type 0 where
  pub formed : IsFormed other
  pub named : other.named ≡ b.named
  pub dec : other.dec ≡ b.dec
  pub cuts : other.cuts ≡ given
