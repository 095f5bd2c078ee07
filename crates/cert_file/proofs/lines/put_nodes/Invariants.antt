use Rattle.std.proofs.Common.{◌≡◌, length}
use Rattle.std.specs.Prelude.{IsTrue}
use Rattle.cert_format.specs.Text.{Two}
use Rattle.cert_write.specs.LineTexts.{lines_text, changing_lines, mults_after}
use Rattle.cert_file.proofs.Appending.{IsWritten}
use Rattle.cert_file.proofs.lines.put_nodes.Given as goal

abbrev pub invariant-loop-line : goal.invariant-loop-line
invariant-loop-line g l = record {
  written : IsWritten l.name (IsTrue (g.F.Shelf.tells l.fn.shelf)) (g.F.Shelf.file l.fn.shelf) (g.F.Shelf.file l.shelf)
      (lines_text Two (changing_lines l.fn.had.items (g.L.NodeLines.lines l.fn.lines))) (lines_text Two (changing_lines l.had.items (g.L.NodeLines.lines l.lines)));
  last : mults_after l.had.items (g.L.NodeLines.lines l.lines) ≡ mults_after l.fn.had.items (g.L.NodeLines.lines l.fn.lines);
  told : g.F.Shelf.tells l.shelf ≡ g.F.Shelf.tells l.fn.shelf;
  faults : g.F.Shelf.write_faults l.shelf ≡ g.F.Shelf.write_faults l.fn.shelf;
  reads : g.F.Shelf.read_faults l.shelf ≡ g.F.Shelf.read_faults l.fn.shelf;
}

abbrev pub decreases-loop-line : goal.decreases-loop-line
decreases-loop-line g l = length (g.L.NodeLines.lines l.lines)
