use Rattle.std.proofs.Common.{◌≡◌, ◌++◌, length}
use Rattle.cert_format.specs.Text.{One}
use Rattle.cert_write.specs.LineTexts.{lines_text}
use Rattle.cert_write.proofs.writer.put_lines.Given as goal

abbrev pub invariant-loop-line : goal.invariant-loop-line
invariant-loop-line g l = l.out.items ++ lines_text One (g.L.NodeLines.lines l.lines) ≡ l.fn.out.items ++ lines_text One (g.L.NodeLines.lines l.fn.lines)

abbrev pub decreases-loop-line : goal.decreases-loop-line
decreases-loop-line g l = length (g.L.NodeLines.lines l.lines)
