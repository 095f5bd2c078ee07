use Rattle.std.proofs.Common.{◌≡◌, ◌+◌, ◌<◌, ◌^◌, take}
use Rattle.bp_model.specs.Tidy.{pair_limit}
use Rattle.bp_model.proofs.tidy.fits.Given as goal

abbrev pub invariant-loop-sum : goal.invariant-loop-sum
invariant-loop-sum l = record {
  limit : l.limit ≡ l.base + pair_limit l.spans (take l.sum-index l.sums);
  small : l.limit < 2 ^ 62;
}
