use Rattle.cert_walk.proofs.Coming.{lines_come, roots_come, waits_are_turns, root_stays, root_is_read}
use Rattle.cert_walk.proofs.lines_come_in_order.Goals as goal

pub returns-clause-lines : goal.returns-clause-lines
returns-clause-lines c = lines_come

pub returns-clause-roots : goal.returns-clause-roots
returns-clause-roots c = roots_come

pub returns-clause-waits : goal.returns-clause-waits
returns-clause-waits c = waits_are_turns

pub returns-clause-stays : goal.returns-clause-stays
returns-clause-stays c = root_stays

pub returns-clause-read : goal.returns-clause-read
returns-clause-read c = root_is_read
