-- Before the first symbol all symbols remain.
use Rattle.std.proofs.Common.{refl, false}
use Rattle.lp_syntax.proofs.Remaining.{remain_all}
use Rattle.lp_syntax.proofs.cursor.first_cursor.Goals as goal

pub returns-clause-all : goal.returns-clause-all
returns-clause-all c = λ text tokens h. remain_all text (record { place = c.beginning.result; in_bounds = false; is_done = false }) tokens refl refl c.beginning.ensures.start h
