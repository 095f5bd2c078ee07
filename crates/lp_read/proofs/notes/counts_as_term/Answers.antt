-- A number counts where no name follows, a first name where no colon does.
use Rattle.lp_read.proofs.notes.counts_as_term.Goals as goal

pub returns-in-ObjectiveFirst-Number : goal.returns-in-ObjectiveFirst-Number
returns-in-ObjectiveFirst-Number c = λ text. rw (c.in-ObjectiveFirst-Number.is-0, c.in-ObjectiveFirst-Number.is-1, c.is_name_next.ensures text)

pub returns-in-ObjectiveFirst-Name : goal.returns-in-ObjectiveFirst-Name
returns-in-ObjectiveFirst-Name c = λ text. rw (c.in-ObjectiveFirst-Name.is-0, c.in-ObjectiveFirst-Name.is-1, c.is_colon.ensures text)

pub returns-in-ObjectiveMore-Number : goal.returns-in-ObjectiveMore-Number
returns-in-ObjectiveMore-Number c = λ text. rw (c.in-ObjectiveMore-Number.is-0, c.in-ObjectiveMore-Number.is-1, c.is_name_next-in-ObjectiveMore-Number.ensures text)

pub returns-in-RowFirst-Name : goal.returns-in-RowFirst-Name
returns-in-RowFirst-Name c = λ text. rw (c.in-RowFirst-Name.is-0, c.in-RowFirst-Name.is-1, c.is_colon-in-RowFirst-Name.ensures text)
