-- What is neither a sign nor a comparison is read behind the row.
use Rattle.lp_syntax.specs.TreeIn.{label_in}
use Rattle.lp_parser.specs.StageIn.{front_in, term_sum_in}
use Rattle.lp_parser.proofs.Steps.{next_row}
use Rattle.lp_parser.proofs.row.from_number_sum.Goals as goal

pub returns-in_ok-front-in_default : goal.returns-in_ok-front-in_default
returns-in_ok-front-in_default c = λ text. rw (next_row text (front_in text c.args.front) (label_in text c.args.head.label) c.args.head.side c.args.head.comparison (term_sum_in text c.args.sum) c.args.symbol c.in_default.not-Sign c.in_default.not-Comparison, ← (c.in_ok-front-in_default.ensures text)) (c.from_start.ensures text)
