use Rattle.std.proofs.Common.{List, ℕ, ℤ, map, ap}
use Rattle.cert_format.specs.Written.{written_cut, written_pair}
use Rattle.cert_format.specs.Stages.{at_cuts, with_cut}
use Rattle.cert_parser.specs.Readers.{told_of}
use Rattle.cert_parser.proofs.LineFacts.{cut_counted}
use Rattle.cert_parser.proofs.lines.Lines.end_cut.Goals as goal

pub returns-clause-place : goal.returns-clause-place
returns-clause-place c =
    let r = c.args.self.now in
    λ above root cuts n. ap (λ (ps : List (ℕ × ℤ)). at_cuts (with_cut (told_of cuts r) r.divisor (map written_pair ps)) above) c.replace-rows.ensures.value

pub returns-clause-highs : goal.returns-clause-highs
returns-clause-highs c =
    let r = c.args.self.now in
    λ above cuts highs. record {
      depth = highs.depth;
      highs = highs.highs;
      cuts = cut_counted r.cuts cuts (written_cut (record { q = r.divisor; rows = c.replace-rows.result })) r.spot c.requires highs.cuts;
      few = highs.few;
    }
