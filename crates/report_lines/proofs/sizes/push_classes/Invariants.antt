use Rattle.std.proofs.Common.{◌≡◌, ◌++◌}
use Rattle.std.specs.List.{range_with_len, flat_map}
use Rattle.report_lines.specs.Blocks.{line_of_class}
use Rattle.report_lines.proofs.sizes.push_classes.Given as goal

-- the lines of the classes so far
abbrev pub invariant-loop-class : goal.invariant-loop-class
invariant-loop-class l = l.text.items ≡ l.initial.text.items ++ flat_map (line_of_class l.b l.root) (range_with_len 0 l.class)
