use Rattle.std.proofs.Common.{◌≡◌, ◌+◌, ◌-◌, ◌^◌, ◌≤◌, min, length}
use Rattle.cert_format.specs.Nodes.{nodes}
use Rattle.cert_format.specs.Written.{written_tree}
use Rattle.cert_format.specs.Sketch.{tree_of}
use Rattle.cert_format.specs.SketchLines.{sketch_lines}
use Rattle.cert_format.proofs.cert.count.Given as goal

abbrev pub invariant-loop-line : goal.invariant-loop-line
invariant-loop-line l = record {
  counted : min (l.count + length (sketch_lines l.lines)) (2 ^ 64 - 1) ≡ min (nodes (written_tree (tree_of l.tree))) (2 ^ 64 - 1);
  within : l.count ≤ 2 ^ 64 - 1;
}

abbrev pub decreases-loop-line : goal.decreases-loop-line
decreases-loop-line l = length (sketch_lines l.lines)
