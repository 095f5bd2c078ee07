use Rattle.std.proofs.Common.{◌≡◌, map, take, get_or}
use Rattle.bp_theory.specs.Decomposition.{row_with_places}
use Rattle.bp_theory.specs.declared.Row.{Row}
use Rattle.block_build.proofs.gather.block_rows.Given as goal

abbrev pub invariant-loop-number : goal.invariant-loop-number
invariant-loop-number l = (d : Row) → l.all.items ≡ map (λ i. row_with_places l.vars (get_or l.rows i d)) (take l.number-index l.numbers)
