use Rattle.std.proofs.Common.{take}
use Rattle.col_pool.specs.Indexed.{Indexes}
use Rattle.col_pool.proofs.index.indexed.Given as goal

abbrev pub invariant-loop-column : goal.invariant-loop-column
invariant-loop-column l = Indexes l.index (take l.column-index l.columns)
