use Rattle.std.proofs.Common.{◌≡◌, ◌+◌, ap, ℕ}
use Rattle.cert_format.specs.Frames.{frame_of}
use Rattle.cert_format.specs.Text.{row_fault, may_name}
use Rattle.cert_parser.specs.Readers.{cutting, HasHighs}
use Rattle.cert_parser.proofs.LineFacts.{cuts_whole, judged}
use Rattle.cert_parser.proofs.lines.Lines.row_of.Goals as goal

pub returns : goal.returns
returns c =
    let r = c.args.self.now in
    judged (λ (n : ℕ). row_fault (may_name (frame_of c.args.frame.now) n) r.last c.args.value) (λ (q : ℕ). q + 1 ≡ c.args.value) r.cuts (λ above cuts. HasHighs above cuts r) c.judge_row.result
    (λ above cuts highs. cuts_whole cuts r (ap cutting c.requires) highs.cuts) c.judge_row.ensures
