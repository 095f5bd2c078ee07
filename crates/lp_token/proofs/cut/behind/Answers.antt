-- The place behind a token stands between tokens.
use Rattle.lp_token.proofs.Lines.{between_behind}
use Rattle.lp_token.proofs.cut.behind.Goals as goal

pub returns-clause-between : goal.returns-clause-between
returns-clause-between c = λ text h. between_behind text c.args.token.now h
