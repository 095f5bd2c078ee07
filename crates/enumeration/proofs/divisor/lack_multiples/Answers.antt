use Rattle.std.specs.Prelude.{All}
use Rattle.enumeration.specs.Divisors.{RowAllowsMultiples}
use Rattle.enumeration.proofs.DivisorLaws.{denied}
use Rattle.enumeration.proofs.divisor.lack_multiples.Goals as goal

pub returns : goal.returns
returns c = denied c.allow_multiples.result (All RowAllowsMultiples c.args.rows.now) c.allow_multiples.ensures
