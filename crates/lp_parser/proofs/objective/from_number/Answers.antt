-- What isn't a name is read behind a constant.
use Rattle.lp_syntax.specs.TreeIn.{label_in, item_in}
use Rattle.lp_parser.specs.StageIn.{gap_in}
use Rattle.lp_parser.proofs.Steps.{is_constant}
use Rattle.lp_parser.proofs.objective.from_number.Goals as goal

pub returns-in_ok-sum-in_default : goal.returns-in_ok-sum-in_default
returns-in_ok-sum-in_default c = λ text. rw (is_constant text c.args.maximises (label_in text c.args.label) (gap_in (item_in text) c.args.gap) c.args.size c.args.symbol c.in_default.not-Name, ← (c.in_ok-sum-in_default.ensures text)) (c.from_sum.ensures text)
