use Rattle.std.proofs.Common.{sym, arith}
use Rattle.cert_parser.proofs.Bytes.{frame_small}
use Rattle.cert_parser.proofs.ReaderSteps.{natural_behind, whole_behind}
use Rattle.cert_parser.proofs.lines.Lines.end_number.Goals as goal

pub returns-in-Natural-clause-behind : goal.returns-in-Natural-clause-behind
returns-in-Natural-clause-behind c =
    λ above root cuts text byte small stands other. natural_behind above root cuts c.args.frame.now c.args.self.now c.take_natural.new.self text c.args.negative c.args.value byte c.take_natural.result (frame_small c.args.frame.now (omega arith) (omega arith) (omega arith)) stands c.requires (sym c.in-Natural.ensures) c.take_natural.ensures.takes other

pub returns-in-Whole-clause-behind : goal.returns-in-Whole-clause-behind
returns-in-Whole-clause-behind c =
    λ above root cuts text byte small stands other. whole_behind above root cuts c.args.frame.now c.args.self.now c.take_whole.new.self text c.args.negative c.args.value byte c.take_whole.result (frame_small c.args.frame.now (omega arith) (omega arith) (omega arith)) stands c.requires c.take_whole.ensures.takes other
