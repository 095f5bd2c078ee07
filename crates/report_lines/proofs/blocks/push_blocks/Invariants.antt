use Rattle.std.proofs.Common.{◌≡◌, ◌++◌}
use Rattle.std.specs.List.{range_with_len, flat_map}
use Rattle.report_lines.specs.Blocks.{shown_block}
use Rattle.report_lines.proofs.blocks.push_blocks.Given as goal

-- the lines of the blocks so far
abbrev pub invariant-loop-block : goal.invariant-loop-block
invariant-loop-block l = l.text.items ≡ l.initial.text.items ++ flat_map (shown_block l.b) (range_with_len 0 l.block)
