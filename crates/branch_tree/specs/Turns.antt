-- What a live leaf keeps when it is handed out.
use Rattle.std.specs.Prelude.{◌≡◌, ◌≤◌, length}
use Rattle.bp_theory.specs.declared.Limits.TheVariants.{Large}
use Rattle.bp_theory.specs.Limits.{greatest_depth}
use Rattle.bp_theory.specs.Trees.{IsZone}
use Rattle.block_program.specs.Blocked.{BlockedProgram}
use Rattle.search_laws.specs.GroveFacts.{IsSoundProof, KeepsBound}
use Rattle.open_nodes.specs.declared.turn.Turn.{Turn}

-- a turn of a program in blocks: its zone lies in the program's spans, its proof is sound and has its bound in the zone, and
-- its depth is the length of its path, no more than the greatest
pub record IsTurn (b : BlockedProgram) (turn : Turn) : Type 0 where
  pub in_spans : IsZone b.named.program.spans turn.zone
  pub sound : IsSoundProof b.blocking turn.proof
  pub keeps : KeepsBound b.blocking turn.zone turn.proof turn.bound
  pub length : turn.depth ≡ length turn.path
  pub shallow : turn.depth ≤ greatest_depth Large
