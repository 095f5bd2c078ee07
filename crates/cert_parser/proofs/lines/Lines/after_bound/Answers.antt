use Rattle.std.proofs.Common.{refl, ap}
use Rattle.cert_parser.specs.Telling.{phase_at}
use Rattle.cert_parser.proofs.LineFacts.{any_highs}
use Rattle.cert_parser.proofs.Telling.{told_claim}
use Rattle.cert_parser.proofs.lines.Lines.after_bound.Goals as goal

pub returns-in_default-clause-highs : goal.returns-in_default-clause-highs
returns-in_default-clause-highs c = any_highs c.args.self.now c.begin_tree.new.self c.begin_tree.result c.begin_tree.ensures.highs

pub returns-in_default-clause-told : goal.returns-in_default-clause-told
returns-in_default-clause-told c = told_claim c.args.self.now _ c.begin_tree.new.self c.begin_tree.result (ap phase_at c.requires) refl refl refl c.begin_tree.ensures.told
