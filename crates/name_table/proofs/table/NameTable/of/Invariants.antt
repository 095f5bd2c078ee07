use Rattle.std.proofs.Common.{◌≡◌, take}
use Rattle.name_table.proofs.table.NameTable.of.Given as goal

abbrev pub invariant-loop-number : goal.invariant-loop-number
invariant-loop-number l = l.table ≡ take l.number l.names
