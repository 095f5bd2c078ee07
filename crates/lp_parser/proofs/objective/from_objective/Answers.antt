-- Each stage goes on as its function does.
use Rattle.lp_parser.proofs.objective.from_objective.Goals as goal

pub returns-in-Name : goal.returns-in-Name
returns-in-Name c = λ text. rw c.in-Name.is (c.from_name.ensures text)

pub returns-in-Open : goal.returns-in-Open
returns-in-Open c = λ text. rw c.in-Open.is (c.from_open.ensures text)

pub returns-in-Number : goal.returns-in-Number
returns-in-Number c = λ text. rw c.in-Number.is (c.from_number.ensures text)
