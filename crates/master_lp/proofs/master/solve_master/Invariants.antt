use Rattle.std.proofs.Common.{◌≡◌, take}
use Rattle.master_lp.proofs.master.solve_master.Given as goal

abbrev pub invariant-loop-col : goal.invariant-loop-col
invariant-loop-col l = l.master ≡ record { cols = take l.col-index l.cols; rows = l.rows; counts = l.counts }
