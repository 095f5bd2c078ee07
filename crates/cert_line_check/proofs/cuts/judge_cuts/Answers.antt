use Rattle.std.proofs.Common.{◌≤◌, ◌+◌, List, length, take, get_or, sym, subst, All, Ok, Err, Result, arith}
use Rattle.bp_theory.specs.Decomposition.{proof_rows}
use Rattle.bp_theory.specs.declared.Cut.{Cut}
use Rattle.bp_theory.specs.declared.Row.{Row}
use Rattle.cut_sums.specs.Cutting.{IsCutOver, IsEarlierCut}
use Rattle.round_cut.specs.Several.{AreRowsOfCuts}
use Rattle.round_cut.proofs.SeveralLemmas.{no_rows_yet, next_few, next_over, next_rows}
use Rattle.cert_line_check.specs.Cutting.{JudgesCut}
use Rattle.cert_line_check.specs.declared.place.Rejection.{Rejection}
use Rattle.cert_line_check.proofs.CutLines.{fails_at}
use Rattle.cert_line_check.proofs.cuts.judge_cuts.Goals as goal

pub loop-cut-init : goal.loop-cut-init
loop-cut-init c = (
  subst (AreRowsOfCuts c.args.b.now.named.program c.args.b.now.dec (take 0 c.args.cuts.now)) (sym c.new-rows.ensures.items)
      (no_rows_yet c.args.b.now.named.program c.args.b.now.dec c.args.cuts.now),
  omega arith,
)

pub judge_cut-requires : goal.judge_cut-requires
judge_cut-requires c =
    let p = c.args.b.now.named.program in
    let d = c.args.b.now.dec in
    let cut : Cut = c.cut-item.result in
    let rows : List Row = c.loop-cut.rows.items in
    let over : IsCutOver (proof_rows p d rows) cut =
    subst (λ (k : Cut). IsCutOver (proof_rows p d rows) k) (sym c.cut-item.is)
    (next_over p d c.args.cuts.now rows c.loop-cut.cut-index cut c.loop-cut-test.true c.requires.cuts c.loop-cut.invariant.0) in
    record {
      few = subst (λ (rs : List Row). length rs ≤ 255) (sym c.as_slice.ensures.value)
          (next_few p d c.args.cuts.now rows c.loop-cut.cut-index c.loop-cut-test.true c.requires.few c.loop-cut.invariant.0);
      earlier = subst (All (IsEarlierCut p)) (sym c.as_slice.ensures.value) c.loop-cut.invariant.0.earlier;
      cut = subst (λ (rs : List Row). IsCutOver (proof_rows p d rs) cut) (sym c.as_slice.ensures.value) over;
    }

pub returns-in-Err : goal.returns-in-Err
returns-in-Err c =
    let p = c.args.b.now.named.program in
    let d = c.args.b.now.dec in
    let cut : Cut = c.cut-item.result in
    let rows : List Row = c.loop-cut.rows.items in
    let R : Result Row Rejection → Type 0 = λ r. JudgesCut p (proof_rows p d c.as_slice.result.now) cut c.loop-cut.line r in
    let S : List Row → Type 0 = λ rs. JudgesCut p (proof_rows p d rs) cut c.loop-cut.line (Err c.in-Err.found) in
    let K : Cut → Type 0 = λ k. JudgesCut p (proof_rows p d rows) k c.loop-cut.line (Err c.in-Err.found) in
    fails_at p d c.args.cuts.now rows c.loop-cut.cut-index cut c.args.first c.loop-cut.line c.in-Err.found c.loop-cut-test.true c.loop-cut.invariant.0 c.loop-cut.invariant.1
    (subst K c.cut-item.is (subst S c.as_slice.ensures.value (subst R c.in-Err.is c.in_ok-found.ensures)))

pub loop-cut-preserved : goal.loop-cut-preserved
loop-cut-preserved c =
    let p = c.args.b.now.named.program in
    let d = c.args.b.now.dec in
    let cut : Cut = c.cut-item.result in
    let rows : List Row = c.loop-cut.rows.items in
    let row : Row = c.in-Ok.row in
    let at : Cut = get_or c.args.cuts.now c.loop-cut.cut-index cut in
    let R : Result Row Rejection → Type 0 = λ r. JudgesCut p (proof_rows p d c.as_slice.result.now) cut c.loop-cut.line r in
    let S : List Row → Type 0 = λ rs. JudgesCut p (proof_rows p d rs) cut c.loop-cut.line (Ok row) in
    let K : Cut → Type 0 = λ k. JudgesCut p (proof_rows p d rows) k c.loop-cut.line (Ok row) in
    let judged : JudgesCut p (proof_rows p d rows) at c.loop-cut.line (Ok row) = subst K c.cut-item.is (subst S c.as_slice.ensures.value (subst R c.in-Ok.is c.in_ok-found.ensures)) in
    let over : IsCutOver (proof_rows p d rows) at =
    next_over p d c.args.cuts.now rows c.loop-cut.cut-index cut c.loop-cut-test.true c.requires.cuts c.loop-cut.invariant.0 in (
      subst (AreRowsOfCuts p d (take (c.loop-cut.cut-index + 1) c.args.cuts.now)) (sym c.in_ok-push-in-Ok.ensures.items)
          (next_rows p d c.args.cuts.now rows c.loop-cut.cut-index cut row c.loop-cut-test.true c.requires.few c.loop-cut.invariant.0 over judged.2 judged.0 judged.1),
      omega (arith, c.loop-cut.invariant.1),
    )
