-- A text's beginning stands between tokens.
use Rattle.lp_token.proofs.Lines.{between_start}
use Rattle.lp_token.proofs.cut.beginning.Goals as goal

pub returns-clause-between : goal.returns-clause-between
returns-clause-between c = λ text. between_start text
