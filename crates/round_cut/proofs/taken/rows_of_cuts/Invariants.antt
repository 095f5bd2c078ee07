use Rattle.std.proofs.Common.{take}
use Rattle.round_cut.specs.Several.{AreRowsOfCuts}
use Rattle.round_cut.proofs.taken.rows_of_cuts.Given as goal

abbrev pub invariant-loop-cut : goal.invariant-loop-cut
invariant-loop-cut l = AreRowsOfCuts l.b.named.program l.b.dec (take l.cut-index l.cuts) l.rows.items
