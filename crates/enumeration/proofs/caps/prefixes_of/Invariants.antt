use Rattle.std.proofs.Common.{◌≡◌, drop}
use Rattle.enumeration.specs.Caps.{cut_prefixes}
use Rattle.enumeration.proofs.caps.prefixes_of.Given as goal

abbrev pub invariant-loop-k : goal.invariant-loop-k
invariant-loop-k l = l.total ≡ cut_prefixes (drop l.k l.spans)
