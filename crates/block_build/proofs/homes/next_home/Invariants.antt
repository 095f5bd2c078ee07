use Rattle.std.proofs.Common.{◌≡◌, true, take}
use Rattle.block_build.specs.Homes.{has_block, IsNext}
use Rattle.block_build.proofs.homes.next_home.Given as goal

abbrev pub invariant-loop-entry : goal.invariant-loop-entry
invariant-loop-entry l = IsNext (λ k. has_block l.places (take l.entry-index l.column) k ≡ true) l.from l.next
