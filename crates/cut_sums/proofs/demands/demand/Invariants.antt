use Rattle.std.proofs.Common.{◌≡◌, take}
use Rattle.bp_theory.specs.Sums.{sum_of}
use Rattle.cut_sums.specs.Rows.{program_of, rows_in, entry_demand}
use Rattle.cut_sums.proofs.demands.demand.Given as goal

abbrev pub invariant-loop-mult : goal.invariant-loop-mult
invariant-loop-mult l = l.sum ≡ sum_of (entry_demand (program_of l.rows) (rows_in l.rows)) (take l.mult-index l.mults)
