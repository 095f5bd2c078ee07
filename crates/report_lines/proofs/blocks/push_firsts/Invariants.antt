use Rattle.std.proofs.Common.{◌≡◌, ◌++◌}
use Rattle.std.specs.List.{range_with_len, flat_map}
use Rattle.search_laws.specs.Spread.{class_at}
use Rattle.report_lines.specs.Blocks.{shown_block}
use Rattle.report_lines.proofs.blocks.push_firsts.Given as goal

-- the lines of the first blocks so far
abbrev pub invariant-loop-class : goal.invariant-loop-class
invariant-loop-class l = l.text.items ≡ l.initial.text.items ++ flat_map (λ class. shown_block l.b (class_at l.root.firsts class)) (range_with_len 0 l.class)
