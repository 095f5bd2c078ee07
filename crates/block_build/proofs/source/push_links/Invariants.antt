use Rattle.std.proofs.Common.{◌≡◌, ◌++◌}
use Rattle.block_build.specs.Homes.{link_entries}
use Rattle.block_build.proofs.source.push_links.Given as goal

abbrev pub invariant-loop-i : goal.invariant-loop-i
invariant-loop-i l = l.coefs.items ≡ l.initial.coefs.items ++ link_entries l.first l.i
