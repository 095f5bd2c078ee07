use Rattle.std.proofs.Common.{arith}
use Rattle.block_build.proofs.SumLemmas.{further_few}
use Rattle.block_build.proofs.links.further.Goals as goal

pub returns : goal.returns
returns c = omega (arith, further_few c.args.homes.now, c.len.ensures, c.saturating_sub.ensures)
