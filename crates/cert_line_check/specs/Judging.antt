-- How lines and trees are judged.
use Rattle.std.specs.Prelude.{◌≡◌, ℕ, ℤ, ◌+◌, ◌<◌, ◌≤◌, List, ◌∷◌, ◌++◌, length, Option, Some, None, Result, Ok, Err}
use Rattle.std.specs.List.{AllByRecursion}
use Rattle.bp_theory.specs.Program.{Program}
use Rattle.bp_theory.specs.Blocking.{Blocking}
use Rattle.bp_theory.specs.Bound.{Fits, SignsFit}
use Rattle.bp_theory.specs.Trees.{Tree, shut_leaf, open_leaf, split, Leaf}
use Rattle.bp_theory.specs.Judgement.{Line, leaf_line, Passes, HasFault}
use Rattle.bp_theory.specs.declared.Span.{Span}
use Rattle.bp_theory.specs.declared.Picked.{Picked}
use Rattle.bp_theory.specs.declared.Claim.{Claim}
use Rattle.bp_theory.specs.declared.CheckKind.{CheckKind}
use Rattle.bp_theory.specs.declared.CheckKind.TheVariants.{PointBound, PointRow}
use Rattle.bp_model.specs.declared.points.Miss.{Miss}
use Rattle.bp_model.specs.declared.points.Miss.TheVariants as misses
use Rattle.lagr_bound.specs.declared.bounded.Bounded.{Bounded}
use Rattle.lagr_bound.specs.declared.bounded.Bounded.TheVariants as bounds
use Rattle.cert_line_check.specs.declared.place.NodePlace.{NodePlace}
use Rattle.cert_line_check.specs.declared.place.Rejection.{Rejection}
use Rattle.cert_line_check.specs.declared.place.Stop.{Stop}
use Rattle.cert_line_check.specs.declared.visits.Spent.{Spent}
use Rattle.cert_line_check.specs.declared.visits.Spent.TheVariants.{Within, Exceeding}
use Rattle.cert_line_check.specs.Visits.{AreZoneVisits, AreLineVisits}

-- the kind of what a point misses
abbrev pub kind_of : Miss → CheckKind
kind_of misses.Length = PointBound
kind_of (misses.Bound v) = PointBound
kind_of (misses.Row row) = PointRow

-- the proofs of a tree's leaves fit
abbrev pub ProofsFit : Blocking → Tree → Type 0
ProofsFit b (shut_leaf proof) = Fits b proof
ProofsFit b (open_leaf proof) = Fits b proof
ProofsFit b (split v at low high) = ProofsFit b low × ProofsFit b high

-- a line is the first at fault among lines of which the first has a number
pub record IsFirstBad (p : Program) (b : Blocking) (claim : Claim) (lines : List Line) (first number : ℕ) (kind : CheckKind) : Type 0 where
  pub before : List Line
  pub line : Line
  pub after : List Line
  pub parts : lines ≡ before ++ line ∷ after
  pub passed : AllByRecursion (Passes p b claim) before
  pub has_fault : HasFault p b claim line kind
  pub numbered : number ≡ first + length before

-- what lines leave of the visits that are left, where visits are counted
abbrev pub IsLeft : (root : List Span) → Blocking → List Line → (before now : Option ℕ) → Type 0
IsLeft root b lines None now = now ≡ None
IsLeft root b lines (Some most) now = (spent : ℕ) × (left : ℕ) × AreLineVisits root b lines spent × (now ≡ Some left) × (spent + left ≡ most)

-- the visits of a zone are within those that are left
abbrev pub IsAfforded : (root : List Span) → Blocking → (zone : List Span) → Picked → (left : Option ℕ) → Type 0
IsAfforded root b zone picked None = Unit {0}
IsAfforded root b zone picked (Some left) = (own : ℕ) × AreZoneVisits root b zone picked own × (own ≤ left)

-- they exceed them
abbrev pub Exceeds : (root : List Span) → Blocking → (zone : List Span) → Picked → (left : Option ℕ) → Type 0
Exceeds root b zone picked None = ⊥
Exceeds root b zone picked (Some left) = (own : ℕ) × AreZoneVisits root b zone picked own × (left < own)

-- what a leaf's visits leave of those that are left
abbrev pub LeavesOf : (root : List Span) → Blocking → (zone : List Span) → Picked → (left now : Option ℕ) → Type 0
LeavesOf root b zone picked None now = now ≡ None
LeavesOf root b zone picked (Some left) now = (own : ℕ) × (rest : ℕ) × AreZoneVisits root b zone picked own × (now ≡ Some rest) × (own + rest ≡ left)

-- what spending them answers
abbrev pub IsSpentOn : (root : List Span) → Blocking → (zone : List Span) → Picked → (left : Option ℕ) → Spent → Type 0
IsSpentOn root b zone picked left (Within now) = LeavesOf root b zone picked left now
IsSpentOn root b zone picked left Exceeding = Exceeds root b zone picked left

-- why a line ends a walk where so many visits are left: it has a fault, and where it is a leaf whose signs fit it was priced; or it
-- is a leaf whose signs fit, and its visits exceed them
abbrev pub EndsWalk : Program → Blocking → Claim → (left : Option ℕ) → Line → Option CheckKind → Type 0
EndsWalk p b claim left line (Some kind) =
    HasFault p b claim line kind
    × ((leaf : Leaf) → line ≡ leaf_line leaf → SignsFit b leaf.proof → IsAfforded p.spans b leaf.zone leaf.proof.picked left)
EndsWalk p b claim left line None =
    (leaf : Leaf) × (line ≡ leaf_line leaf) × SignsFit b leaf.proof × Exceeds p.spans b leaf.zone leaf.proof.picked left

-- a line ends a walk over lines of which the first has a number: all before it pass and are priced
pub record IsEnd (p : Program) (b : Blocking) (claim : Claim) (lines : List Line) (left : Option ℕ) (first number : ℕ) (fault : Option CheckKind) : Type 0 where
  pub before : List Line
  pub line : Line
  pub after : List Line
  pub parts : lines ≡ before ++ line ∷ after
  pub passed : AllByRecursion (Passes p b claim) before
  pub now : Option ℕ
  pub is_left : IsLeft p.spans b before left now
  pub ends : EndsWalk p b claim now line fault
  pub numbered : number ≡ first + length before

-- what judging lines from a place on answers: all pass, and the zone is that of before, or the line that ends the walk
abbrev pub JudgesLines : Program → Blocking → Claim → List Line → NodePlace → Result NodePlace Stop → Type 0
JudgesLines p b claim lines at (Ok now) =
    (now.zone ≡ at.zone) × (now.line ≡ at.line + length lines) × AllByRecursion (Passes p b claim) lines × IsLeft p.spans b lines at.left now.left
JudgesLines p b claim lines at (Err found) = IsEnd p b claim lines at.left at.line found.line found.fault

-- what judging the line of a point answers: the number of the line behind it, or its fault
abbrev pub JudgesPoint : Program → Blocking → Claim → List Line → Result ℕ Rejection → Type 0
JudgesPoint p b claim lines (Ok next) = (next ≡ 3 + length lines) × AllByRecursion (Passes p b claim) lines
JudgesPoint p b claim lines (Err found) = IsFirstBad p b claim lines 3 found.line found.kind

-- the whole bound that pricing found, if any
abbrev pub whole_of : Bounded → Option ℤ
whole_of (bounds.Whole v) = Some v
whole_of bounds.Endless = None
whole_of (bounds.Cut k) = None
