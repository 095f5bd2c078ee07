-- A walk over a certificate's tree by steps, and what has been judged on the way.
use Rattle.std.specs.Prelude.{◌≡◌, ℕ, ℤ, pos, ◌+◌, ◌*◌, ◌<◌, ◌+ℤ◌, ◌<ℤ◌, ◌≤ℤ◌, List, [], ◌∷◌, ◌++◌, length, map, reverse, slice_set, Result, Ok, Err}
use Rattle.std.specs.List.{AllByRecursion}
use Rattle.bp_theory.specs.Program.{Program}
use Rattle.bp_theory.specs.Blocking.{Blocking}
use Rattle.bp_theory.specs.Trees.{Tree, shut_leaf, open_leaf, split, IsZone}
use Rattle.bp_theory.specs.Judgement.{Line, tree_lines, Passes}
use Rattle.bp_theory.specs.declared.Span.{Span}
use Rattle.bp_theory.specs.declared.Claim.{Claim}
use Rattle.cert_format.specs.Sketch.{tree_of}
use Rattle.cert_line_check.specs.Judging.{ProofsFit, IsLeft, IsEnd}
use Rattle.cert_line_check.specs.declared.ahead.Ahead.{Ahead}
use Rattle.cert_line_check.specs.declared.ahead.Ahead.TheVariants.{Node, High, Back}
use Rattle.cert_line_check.specs.declared.place.NodePlace.{NodePlace}
use Rattle.cert_line_check.specs.declared.place.Stop.{Stop}

-- a step of a walk: over a node and all below it; from the low part of a split behind a number to its high part, or back from a split,
-- where the split's variable had a span before
pub data Step : Type 0 where
  node : Tree → Step
  to_high : ℕ → ℤ → Span → Step
  back : ℕ → Span → Step

abbrev pub step_of : Ahead → Step
step_of (Node tree) = node (tree_of tree.now)
step_of (High v at span) = to_high v at span
step_of (Back v span) = back v span

-- the steps of a list that has the next one last
abbrev pub steps_of : List Ahead → List Step
steps_of ahead = map step_of (reverse ahead)

-- how many nodes a tree has
abbrev pub nodes : Tree → ℕ
nodes (shut_leaf proof) = 1
nodes (open_leaf proof) = 1
nodes (split v at low high) = 1 + nodes low + nodes high

-- how many moves steps take at most
abbrev pub moves : List Step → ℕ
moves [] = 0
moves (node t ∷ rest) = 3 * nodes t + moves rest
moves (to_high v at span ∷ rest) = 1 + moves rest
moves (back v span ∷ rest) = 1 + moves rest

-- the zone of a split's high part, from that of its low one
abbrev pub turned : List Span → ℕ → ℤ → Span → List Span
turned zone v at span = slice_set zone v (record { lo = at +ℤ pos 1; hi = span.hi })

-- the lines of steps from a zone on
abbrev pub lines_ahead : List Step → List Span → List Line
lines_ahead [] zone = []
lines_ahead (node t ∷ rest) zone = tree_lines t zone ++ lines_ahead rest zone
lines_ahead (to_high v at span ∷ rest) zone = lines_ahead rest (turned zone v at span)
lines_ahead (back v span ∷ rest) zone = lines_ahead rest (slice_set zone v span)

-- the zone behind steps
abbrev pub zone_behind : List Step → List Span → List Span
zone_behind [] zone = zone
zone_behind (node t ∷ rest) zone = zone_behind rest zone
zone_behind (to_high v at span ∷ rest) zone = zone_behind rest (turned zone v at span)
zone_behind (back v span ∷ rest) zone = zone_behind rest (slice_set zone v span)

-- steps can be judged from a zone on
abbrev pub MayJudge : (root : List Span) → Blocking → List Step → List Span → Type 0
MayJudge root b [] zone = Unit {0}
MayJudge root b (node t ∷ rest) zone = IsZone root zone × ProofsFit b t × MayJudge root b rest zone
MayJudge root b (to_high v at span ∷ rest) zone = (v < length zone) × (at <ℤ span.hi) × MayJudge root b rest (turned zone v at span)
MayJudge root b (back v span ∷ rest) zone = (v < length zone) × (span.lo ≤ℤ span.hi) × MayJudge root b rest (slice_set zone v span)

-- of lines from a place on the first ones pass, and the others are those of the steps from another place on, behind which a zone stands
pub record IsJudging (p : Program) (b : Blocking) (claim : Claim) (lines : List Line) (last : List Span) (first : NodePlace) (ahead : List Step) (at : NodePlace) : Type 0 where
  pub passed : List Line
  pub parts : lines ≡ passed ++ lines_ahead ahead at.zone
  pub all_pass : AllByRecursion (Passes p b claim) passed
  pub line : at.line ≡ first.line + length passed
  pub is_left : IsLeft p.spans b passed first.left at.left
  pub zone : zone_behind ahead at.zone ≡ last
  pub may : MayJudge p.spans b ahead at.zone

-- what judging the line of the node that comes next answers: it passes, and fewer moves are left; or the line that ends the walk
abbrev pub JudgesNode : Program → Blocking → Claim → List Step → NodePlace → (left : List Step) → Result NodePlace Stop → Type 0
JudgesNode p b claim ahead at left (Ok now) =
    IsJudging p b claim (lines_ahead ahead at.zone) (zone_behind ahead at.zone) at left now × (moves left < moves ahead)
JudgesNode p b claim ahead at left (Err found) = IsEnd p b claim (lines_ahead ahead at.zone) at.left at.line found.line found.fault
