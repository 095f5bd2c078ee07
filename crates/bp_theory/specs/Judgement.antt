-- The lines of a certificate in order, what each must pass, and the first line at fault.
use Rattle.std.specs.Prelude.{◌≡◌, ◌≢◌, ℕ, ◌+◌, true, false, IsTrue, List, [], ◌∷◌, ◌++◌, length, Option, Some, None, ℤ, All}
use Rattle.bp_theory.specs.Program.{Program, IsInside, MeetsRow, IsFeasible, value, KeepsActivity}
use Rattle.bp_theory.specs.Blocking.{Blocking}
use Rattle.bp_theory.specs.Decomposition.{Decomposition, ProofRow, proof_rows, blocking_of}
use Rattle.bp_theory.specs.Bound.{SignsFit}
use Rattle.bp_theory.specs.Cuts.{cut_row, cut_rows, IsFitting}
use Rattle.bp_theory.specs.Trees.{Tree, shut_leaf, open_leaf, split, Leaf, low_part, high_part, IsSoundSplit}
use Rattle.bp_theory.specs.Claims.{Certificate, Shows, Reaches, MayBeOpen}
use Rattle.bp_theory.specs.declared.Span.{Span}
use Rattle.bp_theory.specs.declared.Row.{Row}
use Rattle.bp_theory.specs.declared.Cut.{Cut}
use Rattle.bp_theory.specs.declared.Claim.{Claim}
use Rattle.bp_theory.specs.declared.Claim.TheVariants.{Optimal, Infeasible, Bound}
use Rattle.bp_theory.specs.declared.CheckKind.{CheckKind}
use Rattle.bp_theory.specs.declared.CheckKind.TheVariants as kinds
use Rattle.bp_theory.specs.declared.CheckKind.TheVariants.{PointBound, PointRow, Value, Split, Sign, Weak, Open}

-- a line that is judged: the point of a value, a cut over rows of proofs, a split or a leaf in its zone
pub data Line : Type 0 where
  point_line : (v : ℤ) (x : List ℤ) → Line
  cut_line : (rows : List ProofRow) (cut : Cut) → Line
  split_line : (zone : List Span) (v : ℕ) (at : ℤ) → Line
  leaf_line : Leaf → Line

-- what a line must pass, where the leaves are to show a claim over a blocking
abbrev pub Passes : Program → Blocking → Claim → Line → Type 0
Passes p b claim (point_line v x) = Reaches p v x
Passes p b claim (cut_line rows cut) = IsFitting rows cut × KeepsActivity p (cut_row p rows cut)
Passes p b claim (split_line zone v at) = IsSoundSplit zone v at
Passes p b claim (leaf_line leaf) = SignsFit b leaf.proof × Shows p b claim leaf × (IsTrue leaf.is_open → MayBeOpen claim)

-- the fault of a line, the first of its kind's list
pub data HasFault (p : Program) (b : Blocking) (claim : Claim) : Line → CheckKind → Type 0 where
  outside : (v : ℤ) (x : List ℤ) → (IsInside p.spans x → ⊥) → HasFault p b claim (point_line v x) PointBound
  missed : (v : ℤ) (x : List ℤ) → IsInside p.spans x → (All (MeetsRow x) p.rows → ⊥) → HasFault p b claim (point_line v x) PointRow
  other_value : (v : ℤ) (x : List ℤ) → IsFeasible p x → value p x ≢ v → HasFault p b claim (point_line v x) Value
  cut_sign : (rows : List ProofRow) (cut : Cut) → (IsFitting rows cut → ⊥) → HasFault p b claim (cut_line rows cut) Sign
  large_cut : (rows : List ProofRow) (cut : Cut) → IsFitting rows cut → (KeepsActivity p (cut_row p rows cut) → ⊥)
      → HasFault p b claim (cut_line rows cut) kinds.Cut
  unsound : (zone : List Span) (v : ℕ) (at : ℤ) → (IsSoundSplit zone v at → ⊥) → HasFault p b claim (split_line zone v at) Split
  leaf_sign : (leaf : Leaf) → (SignsFit b leaf.proof → ⊥) → HasFault p b claim (leaf_line leaf) Sign
  weak : (leaf : Leaf) → SignsFit b leaf.proof → (Shows p b claim leaf → ⊥) → HasFault p b claim (leaf_line leaf) Weak
  open_there : (leaf : Leaf) → SignsFit b leaf.proof → Shows p b claim leaf → IsTrue leaf.is_open → (MayBeOpen claim → ⊥)
      → HasFault p b claim (leaf_line leaf) Open

-- the value that a claim names
abbrev pub named_value : Claim → Option ℤ
named_value (Optimal v) = Some v
named_value Infeasible = None
named_value (Bound bound v) = v

-- the line of a point, where a claim names a value
abbrev pub point_lines : Option ℤ → Option (List ℤ) → List Line
point_lines (Some v) (Some x) = point_line v x ∷ []
point_lines (Some v) None = []
point_lines None x = []

-- the lines of cuts behind earlier ones
abbrev pub cut_lines : Program → Decomposition → List Row → List Cut → List Line
cut_lines p d earlier [] = []
cut_lines p d earlier (cut ∷ cuts) =
    cut_line (proof_rows p d earlier) cut ∷ cut_lines p d (earlier ++ cut_row p (proof_rows p d earlier) cut ∷ []) cuts

-- the lines of a tree in preorder
abbrev pub tree_lines : Tree → List Span → List Line
tree_lines (shut_leaf proof) zone = leaf_line (record { zone = zone; proof = proof; is_open = false }) ∷ []
tree_lines (open_leaf proof) zone = leaf_line (record { zone = zone; proof = proof; is_open = true }) ∷ []
tree_lines (split v at low high) zone =
    split_line zone v at ∷ (tree_lines low (low_part zone v at) ++ tree_lines high (high_part zone v at))

-- the lines that are judged, which begin at the third
abbrev pub judged_lines : Program → Decomposition → Certificate → List Line
judged_lines p d cert =
    point_lines (named_value cert.claim) cert.point ++ cut_lines p d [] cert.cuts ++ tree_lines cert.tree p.spans

-- a certificate has a point exactly where its claim names a value
abbrev pub HasItsPoint : Option ℤ → Option (List ℤ) → Type 0
HasItsPoint (Some v) (Some x) = Unit {0}
HasItsPoint (Some v) None = ⊥
HasItsPoint None (Some x) = ⊥
HasItsPoint None None = Unit {0}

-- the blocking that the leaves of a certificate are judged over
abbrev pub blocking_with : Program → Decomposition → Certificate → Blocking
blocking_with p d cert = blocking_of p d (cut_rows p d [] cert.cuts)

-- a line is the first at fault: all before it pass
pub record IsFirstFault (p : Program) (d : Decomposition) (cert : Certificate) (number : ℕ) (fault : CheckKind) : Type 0 where
  pub before : List Line
  pub line : Line
  pub after : List Line
  pub lines : judged_lines p d cert ≡ before ++ line ∷ after
  pub passed : All (Passes p (blocking_with p d cert) cert.claim) before
  pub has_fault : HasFault p (blocking_with p d cert) cert.claim line fault
  pub numbered : number ≡ 3 + length before
