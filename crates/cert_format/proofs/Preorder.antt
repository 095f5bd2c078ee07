-- The lines of a tree's nodes in preorder.
use Rattle.std.proofs.Common.{◌≡◌, ◌∙◌, refl, sym, ap, suc, ◌+◌, List, ◌∷◌, ◌++◌, length, reverse, drop, Option, Some, arith, Bor}
use Rattle.std.proofs.lemmas.List.{length-append}
use Rattle.bp_theory.specs.Trees.{Tree, shut_leaf, open_leaf, split}
use Rattle.cert_format.specs.Nodes.{nodes}
use Rattle.cert_format.specs.Written.{written_tree}
use Rattle.cert_format.specs.Sketch.{tree_of}
use Rattle.cert_format.specs.Preorder.{Line, line_of, node_lines, IsFirst}
use Rattle.cert_format.specs.SketchLines.{lines_of, lines_at}
use Rattle.cert_format.specs.declared.sketch.Sketch.{Sketch}
use Rattle.cert_format.specs.declared.lines.NodeLine.{NodeLine}

-- the first line of a node is that of all that are still to come
pub first_ahead : (here : Option (Bor Sketch)) (ahead : List (Bor Sketch)) (node : Bor Sketch) (line : NodeLine) → here ≡ Some node → IsFirst (Some line) (node_lines (tree_of node.now)) → IsFirst (Some line) (lines_at here ahead)
first_ahead here ahead node line is first =
    let rest = lines_of (reverse ahead) in
    let lines = node_lines (tree_of node.now) in
    let whole : lines_at here ahead ≡ lines ++ rest = ap (λ (o : Option (Bor Sketch)). lines_at o ahead) is in
    let behind : lines ++ rest ≡ line_of line ∷ (drop 1 lines ++ rest) = ap (λ (ls : List Line). ls ++ rest) first in
    whole ∙ behind ∙ ap (λ (ls : List Line). line_of line ∷ ls) (sym (ap (drop 1) (whole ∙ behind)))

-- one line less is to come
pub one_line_less : (line : NodeLine) (lines : List Line) → IsFirst (Some line) lines → length lines ≡ suc (length (drop 1 lines))
one_line_less line lines first = ap length first

-- a tree has as many lines as nodes
pub as_many_lines : (t : Tree) → length (node_lines t) ≡ nodes (written_tree t)
as_many_lines (shut_leaf proof) = refl
as_many_lines (open_leaf proof) = refl
as_many_lines (split v at low high) =
    let l : length (node_lines low) ≡ nodes (written_tree low) = as_many_lines low in
    let h : length (node_lines high) ≡ nodes (written_tree high) = as_many_lines high in
    let both : length (node_lines low ++ node_lines high) ≡ length (node_lines low) + length (node_lines high) = length-append (node_lines low) (node_lines high) in
    omega (arith, l, h, both)
