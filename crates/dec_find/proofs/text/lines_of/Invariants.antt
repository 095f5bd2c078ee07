use Rattle.std.proofs.Common.{take}
use Rattle.std.specs.List.{zip}
use Rattle.dec_write.specs.Text.{AreLines}
use Rattle.dec_find.proofs.text.lines_of.Given as goal

abbrev pub invariant-loop-row : goal.invariant-loop-row
invariant-loop-row l = AreLines l.dec.blocks (take l.row (zip l.m.row_names l.dec.places)) l.lines
