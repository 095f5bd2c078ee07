use Rattle.std.proofs.Common.{◌≡◌, ◌*◌, ◌^◌}
use Rattle.lp_syntax.specs.Worth.{capped}
use Rattle.lp_syntax.proofs.number.with_zeros.Given as goal

abbrev pub invariant-loop-zero : goal.invariant-loop-zero
invariant-loop-zero l = l.grown ≡ capped (l.value * 10 ^ l._zero)
