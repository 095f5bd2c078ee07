use Rattle.std.proofs.Common.{take}
use Rattle.std.specs.Prelude.{All}
use Rattle.bp_theory.specs.Cuts.{CombinesWell}
use Rattle.cut_sums.specs.Rows.{row_in}
use Rattle.cut_sums.proofs.signs.signs_fit.Given as goal

abbrev pub invariant-loop-mult : goal.invariant-loop-mult
invariant-loop-mult l = All (λ m. CombinesWell (row_in l.rows m.0) m.1) (take l.mult-index l.mults)
