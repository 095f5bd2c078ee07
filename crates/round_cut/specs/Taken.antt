-- Cuts with their rows.
use Rattle.std.specs.Prelude.{◌≡◌, ◌⊎◌, ◌≤◌, ◌<◌, ◌++◌, ℕ, List, [], ◌∷◌, length}
use Rattle.bp_theory.specs.Program.{Program}
use Rattle.bp_theory.specs.Decomposition.{Decomposition, proof_rows}
use Rattle.bp_theory.specs.Cuts.{cut_row}
use Rattle.bp_theory.specs.declared.Row.{Row}
use Rattle.bp_theory.specs.declared.Cut.{Cut}
use Rattle.bp_theory.specs.Limits.{most_cuts}
use Rattle.block_program.specs.Cuts.{KeepsCuts}
use Rattle.cut_sums.specs.Cutting.{HasFittingSigns, IsCutOver, IsEarlierCut}

-- a cut behind earlier ones that keeps the rules, with its row
pub record IsTaken (p : Program) (d : Decomposition) (earlier : List Row) (cut : Cut) (row : Row) : Type 0 where
  pub room : length earlier < most_cuts
  pub over : IsCutOver (proof_rows p d earlier) cut
  pub signs : HasFittingSigns (proof_rows p d earlier) cut
  pub is : row ≡ cut_row p (proof_rows p d earlier) cut
  pub kept : IsEarlierCut p row

-- a cut that may not stand behind earlier ones, whatever its row: there is no room, it breaks the rules, a sign doesn't fit, or its row's sums
-- leave the limit
abbrev pub IsRefused : Program → Decomposition → List Row → Cut → Type 0
IsRefused p d earlier cut = (row : Row) → IsTaken p d earlier cut row → ⊥

-- a list goes on from another
abbrev pub BeginsWith : List Cut → List Cut → Type 0
BeginsWith first cuts = (rest : List Cut) × (cuts ≡ first ++ rest)

-- cuts that a program may have, the first of them given, and at most so many where there are others
pub record GoesOn (p : Program) (d : Decomposition) (first : List Cut) (most : ℕ) (cuts : List Cut) : Type 0 where
  pub kept : KeepsCuts p d cuts
  pub begins : BeginsWith first cuts
  pub few : (cuts ≡ first) ⊎ (length cuts ≤ most)

-- cuts go no further: nothing is left, there are as many as may be, or the program may not have the next one behind them
abbrev pub GoNoFurther : Program → Decomposition → ℕ → List Cut → List Cut → Type 0
GoNoFurther p d most cuts [] = Unit {0}
GoNoFurther p d most cuts (next ∷ left) = (most ≤ length cuts) ⊎ (KeepsCuts p d (cuts ++ next ∷ []) → ⊥)

-- cuts that a program may have: those given, and behind them the first of others, in their order and as many as can be, where there may be so many
-- in all
pub record HasFirstOf (p : Program) (d : Decomposition) (given others : List Cut) (most : ℕ) (cuts : List Cut) : Type 0 where
  pub taken : List Cut
  pub left : List Cut
  pub parts : others ≡ taken ++ left
  pub is : cuts ≡ given ++ taken
  pub kept : KeepsCuts p d cuts
  pub few : (taken ≡ []) ⊎ (length cuts ≤ most)
  pub ends : GoNoFurther p d most cuts left
