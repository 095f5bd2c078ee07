use Rattle.std.proofs.Common.{◌∙◌, ◌+◌, ◌∷◌, ◌++◌, [], ap, List, ℕ, length}
use Rattle.cert_parser.specs.Readers.{kept_depth}
use Rattle.cert_parser.proofs.LineFacts.{depth_more}
use Rattle.cert_parser.proofs.lines.Lines.end_split.Goals as goal

pub returns-clause-highs : goal.returns-clause-highs
returns-clause-highs c =
    λ above cuts highs.
    let more = depth_more (length above) c.args.self.now.depth _ highs.depth c.saturating_add-self.ensures in
    record {
      depth = more.1;
      highs = c.in_ok-push.ensures.items ∙ ap (λ (k : ℕ). c.args.self.now.highs.items ++ k ∷ []) more.0 ∙ ap (λ (hs : List ℕ). hs ++ kept_depth (length above + 1) ∷ []) highs.highs;
      cuts = highs.cuts ∙ ap (λ (k : ℕ). length cuts + k) c.requires;
      few = highs.few;
    }
