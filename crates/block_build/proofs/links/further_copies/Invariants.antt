use Rattle.std.proofs.Common.{◌≡◌, ◌*◌, ◌≤◌, take}
use Rattle.std.specs.Prelude.{sum_by}
use Rattle.bp_theory.specs.Limits.{most_blocks}
use Rattle.bp_theory.specs.declared.Limits.TheVariants.{Large}
use Rattle.block_build.specs.Homes.{further}
use Rattle.block_build.proofs.links.further_copies.Given as goal

abbrev pub invariant-loop-own : goal.invariant-loop-own
invariant-loop-own l = record {
  count : l.count ≡ sum_by further (take l.own-index l.homes);
  few : l.count ≤ l.own-index * most_blocks Large;
}
