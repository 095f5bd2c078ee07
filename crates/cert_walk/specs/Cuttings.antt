-- The cuts that came of a certificate, and the program with them.
use Rattle.std.specs.Prelude.{◌≡◌, List, [], Option, Some, None, IfSome}
use Rattle.bp_theory.specs.declared.Cut.{Cut}
use Rattle.block_program.specs.Blocked.{BlockedProgram}
use Rattle.round_cut.specs.Several.{AreRowsOfCuts}
use Rattle.cert_line_check.specs.Cutting.{HasCuts}
use Rattle.cert_walk.specs.declared.cutting.Cutting.{Cutting}
use Rattle.cert_walk.specs.declared.walk.Walk.{Walk}
use Rattle.cert_walk.specs.declared.walk.Walk.TheVariants.{At, Ended, Misfit}

-- the program that leaves are judged over: the one with the cuts, where it is made
abbrev pub program_by : BlockedProgram → Option BlockedProgram → BlockedProgram
program_by b None = b
program_by b (Some other) = other

-- its cuts, or those that came, as long as it isn't made
abbrev pub cuts_by : List Cut → Option BlockedProgram → List Cut
cuts_by cuts None = cuts
cuts_by cuts (Some other) = other.cuts

abbrev pub cuts_in : Cutting → List Cut
cuts_in c = cuts_by c.cuts c.program

-- the cuts that are kept have passed, and these are their rows; the program is the one that the checker was made for, with its cuts
pub record IsCutting (b : BlockedProgram) (c : Cutting) : Type 0 where
  pub rows : AreRowsOfCuts b.named.program b.dec c.cuts c.rows
  pub made : IfSome c.program (λ other. HasCuts b other.cuts other)

-- where a walk goes on, all cuts that came are there
abbrev pub HoldsCuts : Cutting → List Cut → Walk → Type 0
HoldsCuts c cuts (At path) = cuts_in c ≡ cuts
HoldsCuts c cuts (Ended stop) = Unit {0}
HoldsCuts c cuts Misfit = Unit {0}

-- the program with the cuts is made, where there are some
abbrev pub IsClosed : Cutting → Type 0
IsClosed c = c.program ≡ None → c.cuts ≡ []
