use Rattle.std.proofs.Common.{◌≡◌, arith, to_z, of_z}
use Rattle.std.specs.Int.{w128}
use Rattle.std.proofs.Math.IntN.{ℤ, pos, ◌-ℤ◌, ◌*ℤ◌}
use Rattle.std.proofs.lemmas.Int.{ints}
use Rattle.enumeration.proofs.DivisorLaws.{multiple_left}
use Rattle.enumeration.proofs.divisor.multiple_below.Goals as goal

pub returns-clause-multiple : goal.returns-clause-multiple
returns-clause-multiple c =
    let m : (k : ℤ) × (c.from-wide.result -ℤ c.rem_euclid.result ≡ pos c.args.divisor *ℤ k) =
    multiple_left c.args.side.now c.from-wide.result (to_z w128 (of_z w128 c.from-wide.result)) c.rem_euclid.result (to_z w128 (of_z w128 c.from.result)) c.args.divisor c.requires.some
    (omega (arith, ints, c.from-wide.ensures)) (omega (arith, ints, c.from-wide.ensures)) (omega (arith, ints, c.from.ensures)) c.rem_euclid.ensures.value in
    (m.0, omega (arith, ints, m.1, c.rem_euclid.ensures.lower_bound, c.rem_euclid.ensures.upper_bound, c.from-wide.ensures, c.from.ensures))
