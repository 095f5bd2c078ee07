use Rattle.std.proofs.Common.{◌≡◌}
use Rattle.dec_find.proofs.MarkLemmas.{marked_below}
use Rattle.dec_find.proofs.marked.numbers_of.Given as goal

abbrev pub invariant-loop-row : goal.invariant-loop-row
invariant-loop-row l = l.rows.items ≡ marked_below l.marks l.row
