use Rattle.std.proofs.Common.{◌≡◌, ◌≤◌, ◌-◌, filter}
use Rattle.std.specs.List.{range_with_len}
use Rattle.block_build.specs.Homes.{has_block}
use Rattle.block_build.proofs.homes.column_homes.Given as goal

abbrev pub invariant-loop-block : goal.invariant-loop-block
invariant-loop-block l = record {
  within : l.from ≤ l.blocks;
  homes : l.homes.items ≡ filter (has_block l.places l.column) (range_with_len 0 l.from);
}

abbrev pub decreases-loop-block : goal.decreases-loop-block
decreases-loop-block l = l.blocks - l.from
