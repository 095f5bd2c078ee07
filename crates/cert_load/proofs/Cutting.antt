-- The cuts of a valid certificate keep the limits, so that a program may have them.
use Rattle.std.proofs.Common.{List, [], ◌∷◌, ◌++◌}
use Rattle.std.specs.List.{AllByRecursion}
use Rattle.std.proofs.lemmas.List.Elements.{All-from_recursion}
use Rattle.bp_theory.specs.Program.{Program}
use Rattle.bp_theory.specs.Decomposition.{Decomposition, proof_rows}
use Rattle.bp_theory.specs.Cuts.{cut_row}
use Rattle.bp_theory.specs.Claims.{Certificate, IsCertified}
use Rattle.bp_theory.specs.declared.Row.{Row}
use Rattle.bp_theory.specs.declared.Cut.{Cut}
use Rattle.block_program.specs.Blocked.{BlockedProgram}
use Rattle.block_program.specs.Cuts.{IsSmallCut, KeepsCuts}
use Rattle.cert_text.specs.Programs.{AreOver, GoesWith}

all_small : (p : Program) (d : Decomposition) (earlier : List Row) (cuts : List Cut) → AreOver p d earlier cuts → AllByRecursion IsSmallCut cuts
all_small p d earlier [] over = tt
all_small p d earlier (cut ∷ cuts) over = (over.0.small, all_small p d (earlier ++ cut_row p (proof_rows p d earlier) cut ∷ []) cuts over.1)

pub kept_cuts : (b : BlockedProgram) (cert : Certificate) → GoesWith b cert → IsCertified b.named.program b.dec cert → KeepsCuts b.named.program b.dec cert.cuts
kept_cuts b cert goes valid = record {
  few = goes.few;
  small = All-from_recursion IsSmallCut cert.cuts (all_small b.named.program b.dec [] cert.cuts goes.cuts);
  fitting = valid.fitting;
  bounded = valid.bounded;
}
