use Rattle.std.proofs.Common.{◌≡◌, take}
use Rattle.cut_sums.proofs.cuts.copies_of.Given as goal

abbrev pub invariant-loop-cut : goal.invariant-loop-cut
invariant-loop-cut l = l.copies.items ≡ take l.cut-index l.cuts
