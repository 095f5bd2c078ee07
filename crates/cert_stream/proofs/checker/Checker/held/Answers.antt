use Rattle.cert_stream.proofs.Stepping.{held_few}
use Rattle.cert_stream.proofs.checker.Checker.held.Goals as goal

pub returns-clause-few : goal.returns-clause-few
returns-clause-few c = λ b visits text none h. held_few b visits c.args.self.now text none h
