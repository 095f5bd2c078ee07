use Rattle.std.proofs.Common.{◌≡◌, ◌++◌}
use Rattle.std.specs.List.{range_with_len, flat_map}
use Rattle.bp_gen.specs.Generator.{cost_terms}
use Rattle.bp_gen.proofs.push_objective.Given as goal

abbrev pub invariant-loop-agent : goal.invariant-loop-agent
invariant-loop-agent l = l.text.items ≡ l.initial.text.items ++ flat_map (cost_terms l.costs l.size) (range_with_len 0 l.agent)
