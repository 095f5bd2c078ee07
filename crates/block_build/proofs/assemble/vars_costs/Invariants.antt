use Rattle.std.proofs.Common.{◌≡◌, take, map}
use Rattle.block_build.specs.Source.{copy_in}
use Rattle.block_build.proofs.assemble.vars_costs.Given as goal

abbrev pub invariant-loop-var : goal.invariant-loop-var
invariant-loop-var l = l.all.items ≡ map (λ v. (copy_in l.source l.block v).cost) (take l.var-index l.vars)
