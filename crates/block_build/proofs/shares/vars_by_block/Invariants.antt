use Rattle.std.proofs.Common.{◌≡◌, ℕ, ◌<◌, [], filter, vec_len, get_or}
use Rattle.std.specs.Prelude.{◌==◌}
use Rattle.std.specs.List.{range_with_len, list_any}
use Rattle.block_build.proofs.shares.vars_by_block.Given as goal

abbrev pub invariant-loop-v : goal.invariant-loop-v
invariant-loop-v l = record {
  each : vec_len l.all ≡ l.blocks;
  vars : (k : ℕ) → k < l.blocks → get_or l.all.items k [] ≡ filter (λ v. list_any (λ j. j == k) (get_or l.homes v [])) (range_with_len 0 l.v);
}
