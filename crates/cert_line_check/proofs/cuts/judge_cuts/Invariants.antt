use Rattle.std.proofs.Common.{◌≡◌, ◌+◌, take}
use Rattle.round_cut.specs.Several.{AreRowsOfCuts}
use Rattle.cert_line_check.proofs.cuts.judge_cuts.Given as goal

abbrev pub invariant-loop-cut : goal.invariant-loop-cut
invariant-loop-cut l = AreRowsOfCuts l.b.named.program l.b.dec (take l.cut-index l.cuts) l.rows.items × (l.line ≡ l.first + l.cut-index)
