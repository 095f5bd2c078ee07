use Rattle.std.proofs.Common.{◌≡◌, ◌++◌, map, take}
use Rattle.dec_write.specs.Text.{spaced}
use Rattle.report_lines.specs.Blocks.{name_of}
use Rattle.report_lines.proofs.blocks.push_var_names.Given as goal

-- the names so far
abbrev pub invariant-loop-var : goal.invariant-loop-var
invariant-loop-var l = l.text.items ≡ l.initial.text.items ++ spaced (map (name_of l.m.names) (take l.var-index l.vars))
