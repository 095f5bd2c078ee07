-- A word behind the names ends their section.
use Rattle.lp_parser.proofs.from_binaries.Goals as goal

pub returns-in-Word : goal.returns-in-Word
returns-in-Word c = λ text. rw c.in-Word.is (c.behind_part.ensures text)
