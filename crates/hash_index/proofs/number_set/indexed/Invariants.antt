use Rattle.std.proofs.Common.{take}
use Rattle.hash_index.specs.Numbers.{IndexesNumbers}
use Rattle.hash_index.proofs.number_set.indexed.Given as goal

abbrev pub invariant-loop-number : goal.invariant-loop-number
invariant-loop-number l = IndexesNumbers l.index (take l.number-index l.numbers)
