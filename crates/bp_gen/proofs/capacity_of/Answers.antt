use Rattle.std.proofs.Common.{◌*◌, ◌+◌, ◌-◌, ◌≤◌, ℕ, arith}
use Rattle.bp_gen.proofs.Draws.{part_is_small}
use Rattle.bp_gen.proofs.capacity_of.Goals as goal

count_is_small : (from size : ℕ) → size ≤ 1024 → from + size - from ≤ 1024
count_is_small from size l = omega arith

pub sum_of-requires : goal.sum_of-requires
sum_of-requires c =
    part_is_small c.args.weights.now (c.args.agent * c.args.size) (c.args.agent * c.args.size + c.args.size - c.args.agent * c.args.size) c.requires.small
    (count_is_small (c.args.agent * c.args.size) c.args.size c.requires.size)
