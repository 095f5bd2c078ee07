use Rattle.std.proofs.Common.{◌≡◌, ◌+◌, ap, ℕ}
use Rattle.cert_format.specs.Frames.{frame_of}
use Rattle.cert_format.specs.Text.{row_fault, may_combine}
use Rattle.cert_parser.specs.Readers.{cutting, HasHighs}
use Rattle.cert_parser.proofs.LineFacts.{cuts_begun, judged}
use Rattle.cert_parser.proofs.lines.Lines.combined_of.Goals as goal

pub returns : goal.returns
returns c =
    let r = c.args.self.now in
    judged (λ (n : ℕ). row_fault (may_combine (frame_of c.args.frame.now) n) r.last c.args.value) (λ (q : ℕ). q + 1 ≡ c.args.value) c.saturating_sub.result (λ above cuts. HasHighs above cuts r) c.judge_combined.result
    (λ above cuts highs. cuts_begun cuts r c.saturating_sub.result (ap cutting c.requires) highs.cuts c.saturating_sub.ensures) c.judge_combined.ensures
