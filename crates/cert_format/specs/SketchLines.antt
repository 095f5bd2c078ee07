-- The lines that are still to come where a walk over a sketch stands.
use Rattle.std.specs.Prelude.{List, [], ◌∷◌, ◌++◌, reverse, Option, Some, None}
use Rattle.std.specs.Borrow.{Bor}
use Rattle.cert_format.specs.Sketch.{tree_of}
use Rattle.cert_format.specs.Preorder.{Line, node_lines}
use Rattle.cert_format.specs.declared.sketch.Sketch.{Sketch}
use Rattle.cert_format.specs.declared.lines.SketchLines.{SketchLines}

-- the lines of nodes, one behind another
abbrev pub lines_of : List (Bor Sketch) → List Line
lines_of [] = []
lines_of (node ∷ rest) = node_lines (tree_of node.now) ++ lines_of rest

-- those of the node at hand, and behind it of the nodes that are still to come, the last of the list first; none where no node is at hand
abbrev pub lines_at : Option (Bor Sketch) → List (Bor Sketch) → List Line
lines_at None ahead = []
lines_at (Some node) ahead = node_lines (tree_of node.now) ++ lines_of (reverse ahead)

abbrev pub sketch_lines : SketchLines → List Line
sketch_lines walk = lines_at walk.here walk.ahead.items
