use Rattle.std.proofs.Common.{All}
use Rattle.cut_sums.specs.Cutting.{IsEarlierCut}
use Rattle.cut_separation.proofs.search.take_cuts.Given as goal

abbrev pub invariant-loop-one : goal.invariant-loop-one
invariant-loop-one l = All (IsEarlierCut l.b.named.program) l.rows.items
