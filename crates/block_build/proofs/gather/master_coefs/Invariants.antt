use Rattle.std.proofs.Common.{◌≡◌, take}
use Rattle.block_build.specs.Columns.{master_entries}
use Rattle.block_build.proofs.gather.master_coefs.Given as goal

abbrev pub invariant-loop-entry : goal.invariant-loop-entry
invariant-loop-entry l = l.coefs.items ≡ master_entries l.places (take l.entry-index l.column)
