use Rattle.std.proofs.Common.{◌≡◌, ◌++◌, take}
use Rattle.report_lines.specs.Searches.{variable_lines}
use Rattle.report_lines.proofs.searches.push_point.Given as goal

-- the lines of the variables so far
abbrev pub invariant-loop-var : goal.invariant-loop-var
invariant-loop-var l = l.text.items ≡ l.initial.text.items ++ variable_lines l.m.names (take l.var l.point)
