use Rattle.std.proofs.Common.{arith, rules}
use Rattle.cert_write.proofs.Decimals.{decimal-numeral}
use Rattle.cert_write.proofs.writer.put_number.Goals as goal

pub returns : goal.returns
returns c = rw (← decimal-numeral c.args.n (omega arith)) (search rules)
