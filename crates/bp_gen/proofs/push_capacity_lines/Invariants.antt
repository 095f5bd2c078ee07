use Rattle.std.proofs.Common.{◌≡◌, ◌++◌}
use Rattle.std.specs.List.{range_with_len, flat_map}
use Rattle.bp_gen.specs.Generator.{capacity_line}
use Rattle.bp_gen.proofs.push_capacity_lines.Given as goal

abbrev pub invariant-loop-agent : goal.invariant-loop-agent
invariant-loop-agent l = l.text.items ≡ l.initial.text.items ++ flat_map (capacity_line l.weights l.size) (range_with_len 0 l.agent)
