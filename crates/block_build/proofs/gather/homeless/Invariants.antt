use Rattle.std.proofs.Common.{◌≡◌, [], filter, get_or}
use Rattle.std.specs.List.{range_with_len}
use Rattle.block_build.specs.Gather.{is_empty}
use Rattle.block_build.proofs.gather.homeless.Given as goal

abbrev pub invariant-loop-v : goal.invariant-loop-v
invariant-loop-v l = l.vars.items ≡ filter (λ v. is_empty (get_or l.homes v [])) (range_with_len 0 l.v)
