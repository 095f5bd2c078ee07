-- What isn't a comparison is read behind the bound.
use Rattle.lp_syntax.specs.TreeIn.{name_in}
use Rattle.lp_parser.specs.StageIn.{within_in}
use Rattle.lp_parser.proofs.Steps.{next_bound}
use Rattle.lp_parser.proofs.bound.from_half.Goals as goal

pub returns-in_ok-within-in_default : goal.returns-in_ok-within-in_default
returns-in_ok-within-in_default c = λ text. rw (next_bound text (within_in text c.args.within) c.args.value c.args.comparison (name_in text c.args.name) c.args.symbol c.in_default.not-Comparison, ← (c.in_ok-within-in_default.ensures text)) (c.from_start.ensures text)
