use Rattle.cmd_solve.proofs.Stopping.{stops_same}
use Rattle.cmd_solve.proofs.crew.search_from.Goals as goal

pub returns-in-Some-clause-stops : goal.returns-in-Some-clause-stops
returns-in-Some-clause-stops g c = stops_same c.args.watched c.args.steps (λ s. s.steps) c.search_together.result c.search_together.ensures.same
