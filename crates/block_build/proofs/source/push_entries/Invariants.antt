use Rattle.std.proofs.Common.{◌≡◌, ◌++◌, take}
use Rattle.block_build.proofs.source.push_entries.Given as goal

abbrev pub invariant-loop-entry : goal.invariant-loop-entry
invariant-loop-entry l = l.coefs.items ≡ l.initial.coefs.items ++ take l.entry-index l.entries
