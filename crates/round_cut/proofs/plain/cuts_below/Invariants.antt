use Rattle.std.proofs.Common.{◌*◌}
use Rattle.cut_sums.specs.PlainSteps.{AreFirstBelow}
use Rattle.cut_sums.specs.Rows.{program_of}
use Rattle.round_cut.proofs.plain.cuts_below.Given as goal

abbrev pub invariant-loop-number : goal.invariant-loop-number
invariant-loop-number l = AreFirstBelow (program_of l.rows) l.rows.b.now.dec l.most (2 * l.number) l.cuts.items
