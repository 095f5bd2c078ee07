use Rattle.std.proofs.Common.{◌≡◌, ◌≤◌, take}
use Rattle.bp_theory.specs.Limits.{most_digits}
use Rattle.bp_theory.specs.Digits.{zone_bits}
use Rattle.lp_semantics.proofs.spans.past_digits.Given as goal

abbrev pub invariant-loop-number : goal.invariant-loop-number
invariant-loop-number l = (l.digits ≡ zone_bits (take l.number l.spans)) × (l.digits ≤ most_digits l.limits)
