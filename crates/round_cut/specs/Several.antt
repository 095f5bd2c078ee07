-- Cuts behind one another: the rules that each keeps, the rows that they have, and the first at fault.
use Rattle.std.specs.Prelude.{◌≡◌, List, [], ◌∷◌, ◌++◌, All}
use Rattle.bp_theory.specs.Program.{Program}
use Rattle.bp_theory.specs.Decomposition.{Decomposition, proof_rows}
use Rattle.bp_theory.specs.Cuts.{cut_row, cut_rows}
use Rattle.bp_theory.specs.declared.Row.{Row}
use Rattle.bp_theory.specs.declared.Cut.{Cut}
use Rattle.block_program.specs.Cuts.{KeepsCuts}
use Rattle.cut_sums.specs.Cutting.{HasCutFault, IsCutOver, IsEarlierCut}
use Rattle.cut_sums.specs.declared.fault.CutFault.{CutFault}
use Rattle.cut_sums.specs.declared.fault.CutFault.TheVariants.{Sign, Large, NoMemory}

-- each cut keeps the rules over the rows of proofs before it
abbrev pub AreCutsOver : Program → Decomposition → List Row → List Cut → Type 0
AreCutsOver p d earlier [] = Unit {0}
AreCutsOver p d earlier (cut ∷ cuts) =
    IsCutOver (proof_rows p d earlier) cut × AreCutsOver p d (earlier ++ cut_row p (proof_rows p d earlier) cut ∷ []) cuts

-- the rows of cuts of a program: the cuts may be its own, and later cuts may combine the rows
pub record AreRowsOfCuts (p : Program) (d : Decomposition) (cuts : List Cut) (rows : List Row) : Type 0 where
  pub kept : KeepsCuts p d cuts
  pub are : rows ≡ cut_rows p d [] cuts
  pub earlier : All (IsEarlierCut p) rows

-- the first cut at fault: those before it may be the program's own
pub record IsFirstAtFault (p : Program) (d : Decomposition) (cuts : List Cut) (fault : CutFault) : Type 0 where
  pub before : List Cut
  pub cut : Cut
  pub after : List Cut
  pub parts : cuts ≡ before ++ cut ∷ after
  pub kept : KeepsCuts p d before
  pub at_fault : HasCutFault p (proof_rows p d (cut_rows p d [] before)) cut fault

-- what cuts are refused for: that of the first at fault
abbrev pub HasCutsFault : Program → Decomposition → List Cut → CutFault → Type 0
HasCutsFault p d cuts Sign = IsFirstAtFault p d cuts Sign
HasCutsFault p d cuts Large = IsFirstAtFault p d cuts Large
HasCutsFault p d cuts NoMemory = Unit {0}
