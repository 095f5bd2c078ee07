use Rattle.cert_parser.proofs.LineFacts.{all_cuts}
use Rattle.cert_parser.proofs.lines.Lines.has_all_cuts.Goals as goal

pub returns : goal.returns
returns c = λ frame above root cuts n highs. all_cuts frame above root cuts c.args.self.now n c.is_last_cut.result c.requires highs c.is_last_cut.ensures
