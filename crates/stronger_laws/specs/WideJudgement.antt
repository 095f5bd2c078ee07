-- The lines of a certificate of any cuts, rows and splits, what each must pass, and the first line at fault.
use Rattle.std.specs.Prelude.{◌≡◌, ◌≢◌, ℕ, ◌+◌, true, false, IsTrue, List, [], ◌∷◌, ◌++◌, length, Option, Some, None, ℤ, All}
use Rattle.bp_theory.specs.Program.{Program, IsInside, MeetsRow, IsFeasible, value, KeepsActivity}
use Rattle.bp_theory.specs.Blocking.{Blocking}
use Rattle.bp_theory.specs.Decomposition.{Decomposition, proof_rows, blocking_of, HasVariablesBelow}
use Rattle.bp_theory.specs.Bound.{SignsFit}
use Rattle.bp_theory.specs.Cuts.{IsFitting}
use Rattle.bp_theory.specs.Trees.{Leaf, low_part, high_part, IsSoundSplit}
use Rattle.bp_theory.specs.Claims.{Holds, Shows, Reaches, MayBeOpen}
use Rattle.bp_theory.specs.Judgement.{named_value}
use Rattle.bp_theory.specs.declared.Span.{Span}
use Rattle.bp_theory.specs.declared.Row.{Row}
use Rattle.bp_theory.specs.declared.Cut.{Cut}
use Rattle.bp_theory.specs.declared.Claim.{Claim}
use Rattle.stronger_laws.specs.WideRows.{wide_rows, blocking_over, wide_blocking}
use Rattle.stronger_laws.specs.Mir.{row_of, IsCombinable, IsFittingMir}
use Rattle.stronger_laws.specs.PricedCuts.{with_costs}
use Rattle.stronger_laws.specs.AllCuts.{any_row, any_rows, IsFittingAny}
use Rattle.stronger_laws.specs.ClassTrees.{ClassTree, shut_leaf, open_leaf, split, class_split, class_low_part, IsSoundClassSplit}
use Rattle.stronger_laws.specs.WideClaims.{WideCertificate}
use Rattle.stronger_laws.specs.declared.MirCut.{MirCut}
use Rattle.stronger_laws.specs.declared.PricedCut.{PricedCut}
use Rattle.stronger_laws.specs.declared.AnyCut.{AnyCut}
use Rattle.stronger_laws.specs.declared.AnyCut.TheVariants.{Rounding, Mir, Priced}
use Rattle.stronger_laws.specs.declared.WideKind.{WideKind}
use Rattle.stronger_laws.specs.declared.WideKind.TheVariants as kinds

-- what lines are judged by: the program, its decomposition, the blocking that tells classes, the one that proofs are
-- over, and the claim that leaves are to show
pub record Judge : Type 0 where
  pub program : Program
  pub decomposition : Decomposition
  pub classes : Blocking
  pub blocking : Blocking
  pub claim : Claim

-- a line that is judged: the point of a value, a cut behind earlier rows, a split or a class split, or a leaf, in its zone
pub data WideLine : Type 0 where
  point_line : (v : ℤ) (x : List ℤ) → WideLine
  cut_line : (earlier : List Row) (cut : AnyCut) → WideLine
  split_line : (zone : List Span) (v : ℕ) (at : ℤ) → WideLine
  class_line : (zone : List Span) (v : ℕ) (at : ℤ) → WideLine
  leaf_line : Leaf → WideLine

-- what a line must pass
abbrev pub Passes : Judge → WideLine → Type 0
Passes j (point_line v x) = Reaches j.program v x
Passes j (cut_line earlier cut) =
    IsFittingAny j.program j.decomposition earlier cut × KeepsActivity j.program (any_row j.program j.decomposition earlier cut)
Passes j (split_line zone v at) = IsSoundSplit zone v at
Passes j (class_line zone v at) = IsSoundClassSplit j.classes zone v at
Passes j (leaf_line leaf) =
    SignsFit j.blocking leaf.proof × Shows j.program j.blocking j.claim leaf × (IsTrue leaf.is_open → MayBeOpen j.claim)

-- the rows that a cut may combine behind earlier ones
abbrev pub AreCombinable : Judge → List Row → MirCut → Type 0
AreCombinable j earlier cut = All (λ m. IsCombinable (row_of (wide_rows j.program j.decomposition earlier) m)) cut.rows

-- the blocking of a priced cut's objective behind earlier cuts
abbrev pub priced_blocking : Judge → List Row → PricedCut → Blocking
priced_blocking j earlier cut =
    blocking_over (with_costs j.program cut.objective) j.decomposition (wide_rows j.program j.decomposition earlier)

-- the fault of a line, the first of its kind's list
pub data HasFault (j : Judge) : WideLine → WideKind → Type 0 where
  outside : (v : ℤ) (x : List ℤ) → (IsInside j.program.spans x → ⊥) → HasFault j (point_line v x) kinds.PointBound
  missed : (v : ℤ) (x : List ℤ) → IsInside j.program.spans x → (All (MeetsRow x) j.program.rows → ⊥) → HasFault j (point_line v x) kinds.PointRow
  other_value : (v : ℤ) (x : List ℤ) → IsFeasible j.program x → value j.program x ≢ v → HasFault j (point_line v x) kinds.Value
  rounding_sign : (earlier : List Row) (cut : Cut) → (IsFitting (proof_rows j.program j.decomposition earlier) cut → ⊥)
      → HasFault j (cut_line earlier (Rounding cut)) kinds.Sign
  mir_row_kind : (earlier : List Row) (cut : MirCut) → (AreCombinable j earlier cut → ⊥) → HasFault j (cut_line earlier (Mir cut)) kinds.Sign
  mir_divisor : (earlier : List Row) (cut : MirCut) → AreCombinable j earlier cut
      → (IsFittingMir j.program (wide_rows j.program j.decomposition earlier) cut → ⊥) → HasFault j (cut_line earlier (Mir cut)) kinds.Divisor
  priced_unknown : (earlier : List Row) (cut : PricedCut) → (HasVariablesBelow (length j.program.spans) cut.objective → ⊥)
      → HasFault j (cut_line earlier (Priced cut)) kinds.Cut
  priced_sign : (earlier : List Row) (cut : PricedCut) → HasVariablesBelow (length j.program.spans) cut.objective
      → (SignsFit (priced_blocking j earlier cut) cut.proof → ⊥) → HasFault j (cut_line earlier (Priced cut)) kinds.Sign
  priced_weak : (earlier : List Row) (cut : PricedCut) → HasVariablesBelow (length j.program.spans) cut.objective
      → SignsFit (priced_blocking j earlier cut) cut.proof
      → (Holds (priced_blocking j earlier cut) j.program.spans cut.proof cut.low → ⊥) → HasFault j (cut_line earlier (Priced cut)) kinds.Weak
  large_cut : (earlier : List Row) (cut : AnyCut) → IsFittingAny j.program j.decomposition earlier cut
      → (KeepsActivity j.program (any_row j.program j.decomposition earlier cut) → ⊥) → HasFault j (cut_line earlier cut) kinds.Cut
  unsound : (zone : List Span) (v : ℕ) (at : ℤ) → (IsSoundSplit zone v at → ⊥) → HasFault j (split_line zone v at) kinds.Split
  class_unsound : (zone : List Span) (v : ℕ) (at : ℤ) → (IsSoundSplit zone v at → ⊥) → HasFault j (class_line zone v at) kinds.Split
  no_class : (zone : List Span) (v : ℕ) (at : ℤ) → IsSoundSplit zone v at → (IsSoundClassSplit j.classes zone v at → ⊥)
      → HasFault j (class_line zone v at) kinds.Class
  leaf_sign : (leaf : Leaf) → (SignsFit j.blocking leaf.proof → ⊥) → HasFault j (leaf_line leaf) kinds.Sign
  weak : (leaf : Leaf) → SignsFit j.blocking leaf.proof → (Shows j.program j.blocking j.claim leaf → ⊥) → HasFault j (leaf_line leaf) kinds.Weak
  open_there : (leaf : Leaf) → SignsFit j.blocking leaf.proof → Shows j.program j.blocking j.claim leaf → IsTrue leaf.is_open
      → (MayBeOpen j.claim → ⊥) → HasFault j (leaf_line leaf) kinds.Open

-- the line of a point, where a claim names a value
abbrev pub wide_point_lines : Option ℤ → Option (List ℤ) → List WideLine
wide_point_lines (Some v) (Some x) = point_line v x ∷ []
wide_point_lines (Some v) None = []
wide_point_lines None x = []

-- the lines of cuts behind earlier ones
abbrev pub wide_cut_lines : Program → Decomposition → List Row → List AnyCut → List WideLine
wide_cut_lines p d earlier [] = []
wide_cut_lines p d earlier (cut ∷ cuts) = cut_line earlier cut ∷ wide_cut_lines p d (earlier ++ any_row p d earlier cut ∷ []) cuts

-- the lines of a tree in preorder
abbrev pub class_tree_lines : Blocking → ClassTree → List Span → List WideLine
class_tree_lines classes (shut_leaf proof) zone = leaf_line (record { zone = zone; proof = proof; is_open = false }) ∷ []
class_tree_lines classes (open_leaf proof) zone = leaf_line (record { zone = zone; proof = proof; is_open = true }) ∷ []
class_tree_lines classes (split v at low high) zone =
    split_line zone v at ∷ (class_tree_lines classes low (low_part zone v at) ++ class_tree_lines classes high (high_part zone v at))
class_tree_lines classes (class_split v at low high) zone =
    class_line zone v at
    ∷ (class_tree_lines classes low (class_low_part classes zone v at) ++ class_tree_lines classes high (high_part zone v at))

-- what a certificate's lines are judged by
abbrev pub judge_of : Program → Decomposition → WideCertificate → Judge
judge_of p d cert = record {
  program = p;
  decomposition = d;
  classes = blocking_of p d [];
  blocking = wide_blocking p d (any_rows p d [] cert.cuts);
  claim = cert.claim;
}

-- the lines that are judged, which begin at the third
abbrev pub wide_lines : Program → Decomposition → WideCertificate → List WideLine
wide_lines p d cert =
    wide_point_lines (named_value cert.claim) cert.point
    ++ wide_cut_lines p d [] cert.cuts
    ++ class_tree_lines (blocking_of p d []) cert.tree p.spans

-- a line is the first at fault: all before it pass
pub record IsFirstWideFault (p : Program) (d : Decomposition) (cert : WideCertificate) (number : ℕ) (fault : WideKind) : Type 0 where
  pub before : List WideLine
  pub line : WideLine
  pub after : List WideLine
  pub lines : wide_lines p d cert ≡ before ++ line ∷ after
  pub passed : All (Passes (judge_of p d cert)) before
  pub has_fault : HasFault (judge_of p d cert) line fault
  pub numbered : number ≡ 3 + length before
