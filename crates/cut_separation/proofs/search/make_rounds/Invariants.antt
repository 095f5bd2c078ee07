use Rattle.std.proofs.Common.{All}
use Rattle.cut_sums.specs.Cutting.{IsEarlierCut}
use Rattle.cut_separation.proofs.search.make_rounds.Given as goal

abbrev pub invariant-loop : goal.invariant-loop
invariant-loop l = All (IsEarlierCut l.b.named.program) l.rows.items
