use Rattle.std.proofs.Common.{◌≡◌, ◌++◌, Some, map, take}
use Rattle.bp_theory.specs.Blocking.{sides_of}
use Rattle.bp_theory.specs.declared.Row.{Row}
use Rattle.block_build.proofs.assemble.push_cut_sides.Given as goal

abbrev pub invariant-loop-cut : goal.invariant-loop-cut
invariant-loop-cut l = l.all.items ≡ l.initial.all.items ++ map (λ (cut : Row). Some (sides_of cut)) (take l.cut-index l.cuts)
