-- What isn't a colon is read behind a sum of that name.
use Rattle.lp_syntax.specs.TreeIn.{name_in}
use Rattle.lp_parser.specs.StageIn.{front_in}
use Rattle.lp_parser.proofs.Steps.{no_row_label}
use Rattle.lp_parser.proofs.row.from_name.Goals as goal

pub returns-in_default : goal.returns-in_default
returns-in_default c = λ text. rw (no_row_label text (front_in text c.args.front) (name_in text c.args.name) c.args.symbol c.in_default.not-Colon) (search (c.from_sum.ensures text, c.lone.ensures.first, c.lone.ensures.more, c.new-signs.ensures))
