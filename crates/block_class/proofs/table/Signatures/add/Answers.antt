use Rattle.block_class.proofs.TableLemmas.{distinct_lists, list_stored}
use Rattle.block_class.proofs.table.Signatures.add.Goals as goal

pub invariant_of-self-2 : goal.invariant_of-self-2
invariant_of-self-2 c = distinct_lists c.insert_full.new.self.keys c.in_ok-number.ensures.unique

pub returns-clause-number : goal.returns-clause-number
returns-clause-number c =
    let stored = c.in_ok-number.ensures.stored in
    list_stored c.insert_full.new.self.keys c.in_ok-number.number stored.0 c.args.signature stored.1 stored.2

pub returns-clause-distinct : goal.returns-clause-distinct
returns-clause-distinct c = distinct_lists c.insert_full.new.self.keys c.in_ok-number.ensures.unique
