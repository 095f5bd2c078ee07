-- The splits above the next node of a tree, and the lines that came of the tree.
use Rattle.std.specs.Prelude.{ℕ, ℤ, List, [], ◌∷◌, ◌++◌, Option, Some, None}
use Rattle.bp_theory.specs.Trees.{Tree, split, low_part, high_part}
use Rattle.bp_theory.specs.Judgement.{Line, split_line, tree_lines}
use Rattle.bp_theory.specs.declared.Span.{Span}
use Rattle.cert_format.specs.Written.{in_text, written_tree}
use Rattle.cert_format.specs.Stages.{Wait, low_of, high_of}

-- a split above the next node, which is in its low part, or in its high part behind this low one
pub data Turn : Type 0 where
  to_low : ℕ → ℤ → Turn
  to_high : ℕ → ℤ → Tree → Turn

-- the zone of the next node below these splits, the nearest first
abbrev pub zone_of : List Span → List Turn → List Span
zone_of spans [] = spans
zone_of spans (to_low v at ∷ ts) = low_part (zone_of spans ts) v at
zone_of spans (to_high v at low ∷ ts) = high_part (zone_of spans ts) v at

-- the lines that came of a tree whose next node is below these splits
abbrev pub lines_before : List Span → List Turn → List Line
lines_before spans [] = []
lines_before spans (to_low v at ∷ ts) = lines_before spans ts ++ split_line (zone_of spans ts) v at ∷ []
lines_before spans (to_high v at low ∷ ts) =
    lines_before spans ts ++ split_line (zone_of spans ts) v at ∷ tree_lines low (low_part (zone_of spans ts) v at)

-- the splits above the next node behind a whole tree
abbrev pub turns_behind : List Turn → Tree → List Turn
turns_behind [] t = []
turns_behind (to_low v at ∷ ts) t = to_high v at t ∷ ts
turns_behind (to_high v at low ∷ ts) t = turns_behind ts (split v at low t)

-- the root, where no node comes behind a whole tree
abbrev pub root_behind : List Turn → Tree → Option Tree
root_behind [] t = Some t
root_behind (to_low v at ∷ ts) t = None
root_behind (to_high v at low ∷ ts) t = root_behind ts (split v at low t)

-- the same by numbers in texts
abbrev pub wait_of : Turn → Wait
wait_of (to_low v at) = low_of (in_text v) at
wait_of (to_high v at low) = high_of (in_text v) at (written_tree low)
