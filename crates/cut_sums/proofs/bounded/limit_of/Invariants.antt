use Rattle.std.proofs.Common.{◌≡◌, ◌<◌, ◌^◌, take}
use Rattle.bp_model.specs.Tidy.{pair_limit}
use Rattle.cut_sums.proofs.bounded.limit_of.Given as goal

abbrev pub invariant-loop-coef : goal.invariant-loop-coef
invariant-loop-coef l = record {
  limit : l.limit ≡ pair_limit l.spans (take l.coef-index l.coefs);
  small : l.limit < 2 ^ 62;
}
