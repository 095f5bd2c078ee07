use Rattle.std.proofs.Common.{sym, subst, arith}
use Rattle.cert_format.specs.Text.{Kind}
use Rattle.cert_format.specs.Fault.{IsFirstCertFault}
use Rattle.cert_format.specs.Frames.{frame_of}
use Rattle.cert_parser.proofs.Bytes.{frame_small}
use Rattle.cert_parser.proofs.ReaderSteps.{last_number, last_natural}
use Rattle.cert_parser.proofs.lines.Lines.last_kind.Goals as goal

pub returns-in-Natural : goal.returns-in-Natural
returns-in-Natural c =
    let frame = c.args.frame.now in
    let r = c.args.self.now in
    λ above root cuts text stands.
    let P : Kind → Type 0 = λ k. IsFirstCertFault (frame_of frame) text r.line k in
    subst P (sym c.unwrap_or.ensures) (last_natural above root cuts frame r text c.args.negative c.args.value c.natural_fault.result (frame_small frame (omega arith) (omega arith) (omega arith)) stands c.requires (sym c.in-Natural.ensures)
    (λ n. c.natural_fault.ensures above root cuts n stands.counts.highs))

pub returns-in-Whole : goal.returns-in-Whole
returns-in-Whole c =
    let frame = c.args.frame.now in
    let r = c.args.self.now in
    λ above root cuts text stands.
    let P : Kind → Type 0 = λ k. IsFirstCertFault (frame_of frame) text r.line k in
    subst P (sym c.unwrap_or-in-Whole.ensures) (last_number above root cuts frame r text c.args.negative c.args.value c.whole_fault.result (frame_small frame (omega arith) (omega arith) (omega arith)) stands c.requires
    (λ n. c.whole_fault.ensures above root cuts n stands.counts.highs))
