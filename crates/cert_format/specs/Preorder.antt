-- The lines of a tree's nodes in preorder.
use Rattle.std.specs.Prelude.{◌≡◌, ℕ, List, [], ◌∷◌, ◌++◌, drop, ℤ, Option, Some, None}
use Rattle.bp_theory.specs.declared.Proof.{Proof}
use Rattle.bp_theory.specs.Trees.{Tree, shut_leaf, open_leaf, split}
use Rattle.cert_format.specs.declared.lines.NodeLine.{NodeLine}
use Rattle.cert_format.specs.declared.lines.NodeLine.TheVariants as at

-- what the line of a node says: a shut leaf or an open one with its proof, or the split of a variable's span behind a number
pub data Line : Type 0 where
  shut_line : Proof → Line
  open_line : Proof → Line
  split_line : (var : ℕ) (at : ℤ) → Line

-- the lines of a tree's nodes: a split stands in front of the nodes of its low part, and these in front of those of its high part
abbrev pub node_lines : Tree → List Line
node_lines (shut_leaf proof) = shut_line proof ∷ []
node_lines (open_leaf proof) = open_line proof ∷ []
node_lines (split v at low high) = split_line v at ∷ (node_lines low ++ node_lines high)

-- what a line at hand says
abbrev pub line_of : NodeLine → Line
line_of (at.Leaf proof) = shut_line proof.now
line_of (at.Open proof) = open_line proof.now
line_of (at.Split v n) = split_line v n

-- a line is the first of these, and none where there is none
abbrev pub IsFirst : Option NodeLine → List Line → Type 0
IsFirst None lines = lines ≡ []
IsFirst (Some line) lines = lines ≡ line_of line ∷ drop 1 lines
