use Rattle.std.proofs.Common.{◌≡◌, ◌∙◌, ◌≤◌, List, [], length, sym, subst}
use Rattle.std.specs.Prelude.{IfOk}
use Rattle.bp_theory.specs.Blocking.{Blocking}
use Rattle.bp_theory.specs.Judgement.{tree_lines}
use Rattle.bp_theory.specs.declared.Cut.{Cut}
use Rattle.cert_format.specs.Sketch.{tree_of}
use Rattle.round_cut.specs.Several.{AreCutsOver}
use Rattle.cert_line_check.specs.Cutting.{blocking_over, HasCuts}
use Rattle.cert_line_check.specs.Judging.{JudgesLines, ProofsFit}
use Rattle.cert_line_check.proofs.Heads.{cuts_over, without_cuts, same_blocking, no_cuts, judged_there_too, goes_fit}
use Rattle.cert_check.proofs.judge.judge_over.Goals as goal

pub judge_root-requires-clause-fits : goal.judge_root-requires-clause-fits
judge_root-requires-clause-fits c =
    let b = c.args.b.now in
    let cert = c.args.cert.now in
    let none = sym c.is_empty.ensures ∙ c.if-is_empty.true in
    let same : b.blocking ≡ blocking_over b cert.cuts =
    same_blocking b cert.cuts b
    (without_cuts b cert.cuts c.model-model.ensures.formed c.requires.uncut (no_cuts b.named.program b.dec cert.cuts c.args.rows.now c.requires.rows none)) in
    subst (λ (k : Blocking). ProofsFit k (tree_of cert.tree)) (sym same) (goes_fit b cert.claim cert.point cert.cuts (tree_of cert.tree) c.requires.goes_with)

pub returns-then-is_empty : goal.returns-then-is_empty
returns-then-is_empty c =
    let b = c.args.b.now in
    let cert = c.args.cert.now in
    let none = sym c.is_empty.ensures ∙ c.if-is_empty.true in
    judged_there_too b cert.cuts b cert.claim (tree_of cert.tree) c.args.line c.args.left c.judge_root.result
    (without_cuts b cert.cuts c.model-model.ensures.formed c.requires.uncut (no_cuts b.named.program b.dec cert.cuts c.args.rows.now c.requires.rows none)) c.judge_root.ensures

pub with_cuts-requires : goal.with_cuts-requires
with_cuts-requires c =
    let b = c.args.b.now in
    let cert = c.args.cert.now in
    record {
      few = subst (λ (cs : List Cut). length cs ≤ 256) (sym c.cuts.ensures) c.requires.goes_with.few;
      rules = subst (λ (cs : List Cut). AreCutsOver b.named.program b.dec [] cs) (sym c.cuts.ensures) (cuts_over b.named.program b.dec [] cert.cuts c.requires.goes_with.cuts);
    }

pub judge_root-requires-2-clause-fits : goal.judge_root-requires-2-clause-fits
judge_root-requires-2-clause-fits c =
    let b = c.args.b.now in
    let cert = c.args.cert.now in
    let made = c.in-Ok.ensures in
    let has : HasCuts b cert.cuts c.in-Ok.other = record { formed = made.formed; named = made.model; dec = made.dec; cuts = made.cuts ∙ c.cuts.ensures } in
    subst (λ (k : Blocking). ProofsFit k (tree_of cert.tree)) (sym (same_blocking b cert.cuts c.in-Ok.other has))
    (goes_fit b cert.claim cert.point cert.cuts (tree_of cert.tree) c.requires.goes_with)

pub returns : goal.returns
returns c =
    let b = c.args.b.now in
    let cert = c.args.cert.now in
    let made = c.in-Ok.ensures in
    let has : HasCuts b cert.cuts c.in-Ok.other = record { formed = made.formed; named = made.model; dec = made.dec; cuts = made.cuts ∙ c.cuts.ensures } in
    judged_there_too b cert.cuts c.in-Ok.other cert.claim (tree_of cert.tree) c.args.line c.args.left c.judge_root-2.result has c.judge_root-2.ensures
