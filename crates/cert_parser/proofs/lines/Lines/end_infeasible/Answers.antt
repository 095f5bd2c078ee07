use Rattle.std.proofs.Common.{refl, ap}
use Rattle.cert_parser.specs.Telling.{phase_at}
use Rattle.cert_parser.proofs.LineFacts.{any_highs}
use Rattle.cert_parser.proofs.Telling.{told_claim}
use Rattle.cert_parser.proofs.lines.Lines.end_infeasible.Goals as goal

pub returns-clause-highs : goal.returns-clause-highs
returns-clause-highs c = any_highs c.args.self.now c.begin_tree.new.self c.begin_tree.result c.begin_tree.ensures.highs

pub returns-clause-told : goal.returns-clause-told
returns-clause-told c = told_claim c.args.self.now _ c.begin_tree.new.self c.begin_tree.result (ap phase_at c.requires) refl refl refl c.begin_tree.ensures.told
