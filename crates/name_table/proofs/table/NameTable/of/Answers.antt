-- A name of a list isn't among the earlier ones, and so goes last.
use Rattle.name_table.proofs.NameLemmas.{next_added}
use Rattle.name_table.proofs.table.NameTable.of.Goals as goal

pub loop-number-preserved : goal.loop-number-preserved
loop-number-preserved c =
    next_added c.args.names.now c.loop-number.table c.add.new.self c.loop-number.number c.get.result.now c.in_ok-add.field-0.1 c.len-number-end.ensures.distinct c.get.ensures
    c.loop-number.invariant c.in_ok-add.ensures.is_new c.in_ok-add.ensures.names
