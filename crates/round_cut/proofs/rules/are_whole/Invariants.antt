use Rattle.std.proofs.Common.{take}
use Rattle.std.specs.Prelude.{All}
use Rattle.cut_sums.specs.Cutting.{IsWhole}
use Rattle.cut_sums.specs.Rows.{row_in}
use Rattle.round_cut.proofs.rules.are_whole.Given as goal

abbrev pub invariant-loop-mult : goal.invariant-loop-mult
invariant-loop-mult l = All (λ m. IsWhole (row_in l.rows m.0)) (take l.mult-index l.mults)
