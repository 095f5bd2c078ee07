use Rattle.std.proofs.Common.{◌≡◌, ◌++◌, map, take}
use Rattle.dec_write.specs.Text.{spaced}
use Rattle.report_lines.specs.Blocks.{name_of}
use Rattle.report_lines.proofs.blocks.push_row_names.Given as goal

-- the names so far
abbrev pub invariant-loop-row : goal.invariant-loop-row
invariant-loop-row l = l.text.items ≡ l.initial.text.items ++ spaced (map (name_of l.m.row_names) (take l.row-index l.rows))
