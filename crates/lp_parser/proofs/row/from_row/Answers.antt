-- Each stage goes on as its function does.
use Rattle.lp_parser.proofs.row.from_row.Goals as goal

pub returns-in-Start : goal.returns-in-Start
returns-in-Start c = λ text. rw c.in-Start.is (c.from_start.ensures text)

pub returns-in-Name : goal.returns-in-Name
returns-in-Name c = λ text. rw c.in-Name.is (c.from_name.ensures text)

pub returns-in-Signs : goal.returns-in-Signs
returns-in-Signs c = λ text. rw c.in-Signs.is (c.from_signs.ensures text)

pub returns-in-Number : goal.returns-in-Number
returns-in-Number c = λ text. rw c.in-Number.is (c.from_number.ensures text)

pub returns-in-Open : goal.returns-in-Open
returns-in-Open c = λ text. rw c.in-Open.is (c.from_open.ensures text)

pub returns-in-Factor : goal.returns-in-Factor
returns-in-Factor c = λ text. rw c.in-Factor.is (c.from_factor.ensures text)

pub returns-in-Compared : goal.returns-in-Compared
returns-in-Compared c = λ text. rw c.in-Compared.is (c.from_compared.ensures text)

pub returns-in-NumberOpen : goal.returns-in-NumberOpen
returns-in-NumberOpen c = λ text. rw c.in-NumberOpen.is (c.from_number_open.ensures text)

pub returns-in-NumberFactor : goal.returns-in-NumberFactor
returns-in-NumberFactor c = λ text. rw c.in-NumberFactor.is (c.from_number_factor.ensures text)

pub returns-in-NumberSum : goal.returns-in-NumberSum
returns-in-NumberSum c = λ text. rw c.in-NumberSum.is (c.from_number_sum.ensures text)

pub returns-in-NumberCompared : goal.returns-in-NumberCompared
returns-in-NumberCompared c = λ text. rw c.in-NumberCompared.is (c.from_number_compared.ensures text)
