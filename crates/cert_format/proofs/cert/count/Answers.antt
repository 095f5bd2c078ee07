use Rattle.std.proofs.Common.{ap, arith, length}
use Rattle.cert_format.proofs.cert.count.Goals as goal

pub returns : goal.returns
returns c = let none = ap length c.in_default.ensures in omega (arith, none, c.loop-line.invariant.counted, c.loop-line.invariant.within)
