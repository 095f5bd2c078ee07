-- A word behind rows stands behind no parts.
use Rattle.lp_parser.proofs.row.from_start.Goals as goal

pub returns-in-Word : goal.returns-in-Word
returns-in-Word c = λ text. rw c.in-Word.is (search (c.from_word.ensures text, c.new.ensures))
