-- A name is a label where a colon follows.
use Rattle.lp_read.proofs.notes.row_label.Goals as goal

pub returns-then-is_colon-clause-same : goal.returns-then-is_colon-clause-same
returns-then-is_colon-clause-same c = λ text. rw (c.in-Name.is, ← c.is_colon.ensures text, c.if-is_colon.true)

pub returns-else-is_colon-clause-same : goal.returns-else-is_colon-clause-same
returns-else-is_colon-clause-same c = λ text. rw (c.in-Name.is, ← c.is_colon.ensures text, c.if-is_colon.false)
