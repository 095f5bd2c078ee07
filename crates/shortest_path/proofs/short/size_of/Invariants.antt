use Rattle.std.proofs.Common.{◌≡◌, ◌-◌, ◌^◌, drop}
use Rattle.std.specs.Prelude.{min}
use Rattle.pricing_problem.specs.Form.{cost_size}
use Rattle.shortest_path.proofs.short.size_of.Given as goal

abbrev pub invariant-loop-k : goal.invariant-loop-k
invariant-loop-k l = l.sum ≡ min (cost_size (drop l.k l.zone) (drop l.k l.costs)) (2 ^ 128 - 1)
