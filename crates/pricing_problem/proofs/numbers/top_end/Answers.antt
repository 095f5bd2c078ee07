use Rattle.pricing_problem.proofs.EndLaws.{fits_end, lo-le_reach, hi-le_reach}
use Rattle.pricing_problem.proofs.numbers.top_end.Goals as goal

pub times-low-requires : goal.times-low-requires
times-low-requires c =
    fits_end c.args.factor.now c.args.span.now.lo c.args.span.now (lo-le_reach c.args.span.now) c.requires

pub times-high-requires : goal.times-high-requires
times-high-requires c =
    fits_end c.args.factor.now c.args.span.now.hi c.args.span.now (hi-le_reach c.args.span.now) c.requires
