use Rattle.std.proofs.Common.{◌≡◌, ◌*◌, ◌<◌, ◌≤◌, ◌^◌, take, length}
use Rattle.bp_theory.specs.Digits.{zone_bits}
use Rattle.tree_load.proofs.walk.bits.Given as goal

abbrev pub invariant-loop-span : goal.invariant-loop-span
invariant-loop-span l = record {
  bits : l.sum ≡ zone_bits (take l.span-index l.spans);
  few : l.sum ≤ 64 * l.span-index;
  short : length l.spans < 2 ^ 64;
}
