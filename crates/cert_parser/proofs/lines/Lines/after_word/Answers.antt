use Rattle.cert_parser.proofs.LineFacts.{any_highs}
use Rattle.cert_parser.proofs.lines.Lines.after_word.Goals as goal

pub returns-in-Values-default-clause-highs : goal.returns-in-Values-default-clause-highs
returns-in-Values-default-clause-highs c = any_highs c.args.self.now c.begin_tree.new.self c.begin_tree.result c.begin_tree.ensures.highs
