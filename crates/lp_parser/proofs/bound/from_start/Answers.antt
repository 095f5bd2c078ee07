-- What is neither a name nor a word is read as a value.
use Rattle.lp_parser.specs.StageIn.{within_in}
use Rattle.lp_parser.proofs.Steps.{first_value}
use Rattle.lp_parser.proofs.bound.from_start.Goals as goal

pub returns-in_default : goal.returns-in_default
returns-in_default c = λ text. rw (first_value text (within_in text c.args.within) c.args.symbol c.in_default.not-Name c.in_default.not-Word, ← c.new.ensures) (c.from_signs.ensures text)

pub returns-in-Word : goal.returns-in-Word
returns-in-Word c = λ text. rw c.in-Word.is (rw c.into_parts-front.ensures at (c.behind_part.ensures text))
