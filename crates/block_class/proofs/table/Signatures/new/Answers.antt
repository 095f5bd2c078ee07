use Rattle.block_class.proofs.TableLemmas.{distinct_lists}
use Rattle.block_class.proofs.table.Signatures.new.Goals as goal

pub invariant_of-result : goal.invariant_of-result
invariant_of-result c = distinct_lists c.new.result.keys c.new.ensures.unique
