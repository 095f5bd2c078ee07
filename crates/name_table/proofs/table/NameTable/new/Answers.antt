-- No names are apart.
use Rattle.std.proofs.Common.{arith}
use Rattle.name_table.proofs.NameLemmas.{distinct_texts}
use Rattle.name_table.proofs.table.NameTable.new.Goals as goal

pub invariant_of-result : goal.invariant_of-result
invariant_of-result c = (distinct_texts c.new.result.keys c.new.ensures.unique, omega arith)
