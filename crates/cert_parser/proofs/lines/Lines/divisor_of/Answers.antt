use Rattle.std.proofs.Common.{◌≡◌, ap, ℕ}
use Rattle.cert_format.specs.Text.{divisor_fault}
use Rattle.cert_parser.specs.Readers.{cutting, HasHighs}
use Rattle.cert_parser.proofs.LineFacts.{cuts_whole, judged}
use Rattle.cert_parser.proofs.lines.Lines.divisor_of.Goals as goal

pub returns-clause-judged : goal.returns-clause-judged
returns-clause-judged c =
    let r = c.args.self.now in
    judged (λ (n : ℕ). divisor_fault n c.args.value) (λ (q : ℕ). q ≡ c.args.value) r.cuts (λ above cuts. HasHighs above cuts r) c.judge_divisor.result (λ above cuts highs. cuts_whole cuts r (ap cutting c.requires) highs.cuts) c.judge_divisor.ensures.judged
