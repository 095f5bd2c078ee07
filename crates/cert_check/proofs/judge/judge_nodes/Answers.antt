use Rattle.std.proofs.Common.{◌≡◌, ◌+◌, sym, ap, subst, ◌∙◌, length, arith}
use Rattle.bp_theory.specs.declared.Claim.{Claim}
use Rattle.cert_format.specs.Sketch.{tree_of}
use Rattle.cert_format.specs.Written.{certificate}
use Rattle.cert_check.specs.Judging.{IsJudgedWithin, IsTrueIfAccepted, verdict_of}
use Rattle.cert_check.specs.declared.judge.Judged.{Judged}
use Rattle.cert_line_check.proofs.CutLines.{rows_many}
use Rattle.cert_line_check.proofs.Heads.{few_lines, heads_end}
use Rattle.cert_check.proofs.Wholes.{judged_so}
use Rattle.cert_check.proofs.judge.judge_nodes.Goals as goal

pub judge_over-requires-clause-few : goal.judge_over-requires-clause-few
judge_over-requires-clause-few c =
    let b = c.args.b.now in
    let cert = c.args.cert.now in
    let many : length c.args.rows.now ≡ length cert.cuts = rows_many b.named.program b.dec cert.cuts c.args.rows.now c.requires.rows in
    let behind : c.args.line + length c.args.rows.now ≡ c.args.line + length cert.cuts = omega (arith, many) in
    few_lines b cert.claim cert.point cert.cuts (tree_of cert.tree) (c.args.line + length c.args.rows.now) c.requires.goes_with
    (behind ∙ heads_end b cert.claim cert.point cert.cuts c.args.line c.requires.point.0)

pub returns : goal.returns
returns c =
    let b = c.args.b.now in
    let cert = c.args.cert.now in
    let t = tree_of cert.tree in
    let many : length c.args.rows.now ≡ length cert.cuts = rows_many b.named.program b.dec cert.cuts c.args.rows.now c.requires.rows in
    let behind : c.args.line + length c.args.rows.now ≡ c.args.line + length cert.cuts = omega (arith, many) in
    let both = judged_so b c.model-model.ensures.formed cert.claim cert.point cert.cuts t c.args.line (c.args.line + length c.args.rows.now) c.args.left c.in_ok-found.found c.requires.point
    behind c.requires.rows.kept c.in_ok-found.ensures in
    let is : c.verdict.result ≡ verdict_of cert.claim c.in_ok-found.found = c.verdict.ensures ∙ ap (λ (k : Claim). verdict_of k c.in_ok-found.found) c.claim-claim.ensures in
    record {
      judged = subst (λ (j : Judged). IsJudgedWithin b (certificate cert.claim cert.point cert.cuts t) c.args.left j) (sym is) both.0;
      truth = subst (λ (j : Judged). IsTrueIfAccepted b.named.program j) (sym is) both.1;
    }
