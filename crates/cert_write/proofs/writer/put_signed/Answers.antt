use Rattle.std.proofs.Common.{arith, rules}
use Rattle.std.proofs.lemmas.Int.{ints}
use Rattle.cert_write.proofs.Decimals.{signed_decimal-numeral}
use Rattle.cert_write.proofs.writer.put_signed.Goals as goal

pub returns : goal.returns
returns c = rw (← signed_decimal-numeral c.args.z.now (omega (arith, ints))) (search rules)
