-- What has been judged of the lines that came of a certificate.
use Rattle.std.specs.Prelude.{◌≡◌, ℕ, ℤ, ◌+◌, ◌≤◌, Bool, true, false, List, [], ◌∷◌, ◌++◌, length, Option, Some, None}
use Rattle.std.specs.List.{AllByRecursion}
use Rattle.std.specs.Option.{option_map}
use Rattle.bp_theory.specs.Program.{Program}
use Rattle.bp_theory.specs.Blocking.{Blocking}
use Rattle.bp_theory.specs.Trees.{Tree, shut_leaf, open_leaf}
use Rattle.bp_theory.specs.Decomposition.{Decomposition}
use Rattle.bp_theory.specs.Judgement.{Line, Passes, named_value, point_lines, cut_lines, tree_lines}
use Rattle.bp_theory.specs.declared.Cut.{Cut}
use Rattle.bp_theory.specs.declared.Span.{Span}
use Rattle.bp_theory.specs.declared.Claim.{Claim}
use Rattle.bp_theory.specs.declared.Proof.{Proof}
use Rattle.cert_text.specs.Programs.{IsSmallClaim}
use Rattle.block_program.specs.Blocked.{BlockedProgram}
use Rattle.round_cut.specs.Several.{AreCutsOver}
use Rattle.cert_line_check.specs.Judging.{ProofsFit, IsLeft, IsEnd}
use Rattle.cert_walk.specs.Turns.{Turn, to_low, to_high, zone_of, lines_before, turns_behind, root_behind}
use Rattle.cert_walk.specs.Paths.{AreForksOf, IsPathIn}
use Rattle.cert_walk.specs.declared.walk.Walk.{Walk}
use Rattle.cert_walk.specs.declared.walk.Walk.TheVariants.{At, Ended, Misfit}

-- how far a tree has come: its next node is below these splits, or it is whole
pub data Progress : Type 0 where
  below : List Turn → Progress
  whole : Tree → Progress

-- what stands in front of a certificate's tree: a point, and cuts over the rows of a decomposition
pub record Front : Type 0 where
  pub point : List ℤ
  pub dec : Decomposition
  pub cuts : List Cut

-- the lines of a claim's point
abbrev pub points_of : Claim → List ℤ → List Line
points_of claim zs = point_lines (named_value claim) (option_map (λ _. zs) (named_value claim))

-- the lines in front of a tree
abbrev pub heads_of : Program → Claim → Front → List Line
heads_of p claim front = points_of claim front.point ++ cut_lines p front.dec [] front.cuts

-- the lines that are judged up to there
abbrev pub lines_to : Program → Claim → Front → Progress → List Line
lines_to p claim front (below ts) = heads_of p claim front ++ lines_before p.spans ts
lines_to p claim front (whole t) = heads_of p claim front ++ tree_lines t p.spans

-- the proofs of the leaves in front of the next node fit
abbrev pub TurnsFit : Blocking → List Turn → Type 0
TurnsFit b [] = Unit {0}
TurnsFit b (to_low v at ∷ ts) = TurnsFit b ts
TurnsFit b (to_high v at low ∷ ts) = ProofsFit b low × TurnsFit b ts

-- the proofs of the leaves that came fit
abbrev pub ComesFit : Blocking → Progress → Type 0
ComesFit b (below ts) = TurnsFit b ts
ComesFit b (whole t) = ProofsFit b t

-- the cuts are few, and each combines master rows and cuts before it alone
abbrev pub CutsFit : Program → Front → Type 0
CutsFit p front = (length front.cuts ≤ 256) × AreCutsOver p front.dec [] front.cuts

-- what has been judged of these lines: all pass; or one ended the judgement; or the claim, a cut or a proof is none that can be judged
abbrev pub Judges : Program → Blocking → Claim → Front → (visits : Option ℕ) → Progress → Walk → Type 0
Judges p b claim front visits g (At path) =
    (path.place.line ≡ 3 + length (lines_to p claim front g)) × AllByRecursion (Passes p b claim) (lines_to p claim front g) × IsLeft p.spans b (lines_to p claim front g) visits path.place.left
Judges p b claim front visits g (Ended stop) = IsEnd p b claim (lines_to p claim front g) visits 3 stop.line stop.fault
Judges p b claim front visits g Misfit = IsSmallClaim claim → CutsFit p front → ComesFit b g → ⊥

-- a walk that goes on stands below these splits
abbrev pub IsBelow : List Span → List Turn → Walk → Type 0
IsBelow spans ts (At path) = AreForksOf spans path.forks.items ts × (path.place.zone ≡ zone_of spans ts)
IsBelow spans ts (Ended stop) = Unit {0}
IsBelow spans ts Misfit = Unit {0}

-- a walk over a tree's lines, the next node of which is below these splits
pub record WalksBelow (p : Program) (b : Blocking) (claim : Claim) (front : Front) (visits : Option ℕ) (ts : List Turn) (walk : Walk) : Type 0 where
  pub judges : Judges p b claim front visits (below ts) walk
  pub stands : IsBelow p.spans ts walk

-- a walk behind a whole tree below these splits, where a node follows, and where none does
pub record WalksBehind (p : Program) (b : Blocking) (claim : Claim) (front : Front) (visits : Option ℕ) (ts : List Turn) (t : Tree) (walk : Walk) : Type 0 where
  pub goes_on : root_behind ts t ≡ None → WalksBelow p b claim front visits (turns_behind ts t) walk
  pub ends : (root : Tree) → root_behind ts t ≡ Some root → Judges p b claim front visits (whole root) walk

-- a walk that has not begun
abbrev pub IsFresh : List Span → (visits : Option ℕ) → Walk → Type 0
IsFresh spans visits (At path) = (path.place.line ≡ 3) × (path.place.left ≡ visits) × (path.forks.items ≡ []) × (path.place.zone ≡ spans)
IsFresh spans visits (Ended stop) = ⊥
IsFresh spans visits Misfit = ⊥

-- a leaf with its proof
abbrev pub leaf_with : Bool → Proof → Tree
leaf_with true proof = open_leaf proof
leaf_with false proof = shut_leaf proof

-- a walk that goes on stands in the root's zone, behind so few lines
abbrev pub IsWalkIn : List Span → Walk → Type 0
IsWalkIn root (At path) = IsPathIn root path
IsWalkIn root (Ended stop) = Unit {0}
IsWalkIn root Misfit = Unit {0}

abbrev pub IsWithin : (most : ℕ) → Walk → Type 0
IsWithin most (At path) = path.place.line ≤ most
IsWithin most (Ended stop) = Unit {0}
IsWithin most Misfit = Unit {0}

-- a walk goes on
abbrev pub IsOn : Walk → Type 0
IsOn (At path) = Unit {0}
IsOn (Ended stop) = ⊥
IsOn Misfit = ⊥

-- a walk that goes on does so over a program in blocks
abbrev pub GoesOver : BlockedProgram → Program → Blocking → Walk → Type 0
GoesOver b p k (At path) = (p ≡ b.named.program) × (k ≡ b.blocking)
GoesOver b p k (Ended stop) = Unit {0}
GoesOver b p k Misfit = Unit {0}
