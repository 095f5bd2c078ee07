-- The same program in blocks with other cuts.
use Rattle.std.specs.Prelude.{List, []}
use Rattle.bp_theory.specs.Decomposition.{blocking_of}
use Rattle.bp_theory.specs.Cuts.{cut_rows}
use Rattle.bp_theory.specs.declared.Cut.{Cut}
use Rattle.block_program.specs.Blocked.{BlockedProgram}

-- the program in blocks of the same model and the same decomposition that has these cuts
abbrev pub with_cuts : BlockedProgram → List Cut → BlockedProgram
with_cuts b cuts = record {
  named = b.named;
  dec = b.dec;
  cuts = cuts;
  blocking = blocking_of b.named.program b.dec (cut_rows b.named.program b.dec [] cuts);
}
