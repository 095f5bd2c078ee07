use Rattle.std.proofs.Common.{◌≡◌, ◌++◌, Some, replicate}
use Rattle.block_build.specs.Gather.{link_sides}
use Rattle.block_build.proofs.assemble.push_link_sides.Given as goal

abbrev pub invariant-loop : goal.invariant-loop
invariant-loop l = l.all.items ≡ l.initial.all.items ++ replicate l.counter (Some link_sides)
