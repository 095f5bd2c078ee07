use Rattle.std.proofs.Common.{◌≡◌, ◌++◌, length}
use Rattle.cert_format.specs.Text.{Two}
use Rattle.cert_write.specs.LineTexts.{lines_text, changing_lines, mults_after}
use Rattle.cert_write.proofs.writer.put_changed_lines.Given as goal

abbrev pub invariant-loop-line : goal.invariant-loop-line
invariant-loop-line g l = record {
  text : l.out.items ++ lines_text Two (changing_lines l.had.items (g.L.NodeLines.lines l.lines))
      ≡ l.fn.out.items ++ lines_text Two (changing_lines l.fn.had.items (g.L.NodeLines.lines l.fn.lines));
  last : mults_after l.had.items (g.L.NodeLines.lines l.lines) ≡ mults_after l.fn.had.items (g.L.NodeLines.lines l.fn.lines);
}

abbrev pub decreases-loop-line : goal.decreases-loop-line
decreases-loop-line g l = length (g.L.NodeLines.lines l.lines)
