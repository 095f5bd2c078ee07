use Rattle.std.proofs.Common.{◌≡◌, ◌≤◌, ◌∙◌, ◌+◌, ◌++◌, ◌∷◌, [], if◌then◌else◌, List, length, take, get_or, sym, subst, ap, All}
use Rattle.bp_theory.specs.Decomposition.{proof_rows}
use Rattle.bp_theory.specs.Cuts.{cut_row}
use Rattle.bp_theory.specs.declared.Cut.{Cut}
use Rattle.bp_theory.specs.declared.Row.{Row}
use Rattle.cut_sums.specs.Cutting.{HasCutFault, HasFittingSigns, IsCutOver, IsEarlierCut}
use Rattle.round_cut.specs.Several.{AreRowsOfCuts}
use Rattle.round_cut.proofs.SeveralLemmas.{no_rows_yet, next_few, next_over, next_rows, fault_at}
use Rattle.round_cut.proofs.several.rows_of.Goals as goal

pub loop-cut-init : goal.loop-cut-init
loop-cut-init c =
    subst (AreRowsOfCuts c.args.b.now.named.program c.args.b.now.dec (take 0 c.args.cuts.now)) (sym c.new-rows.ensures.items)
    (no_rows_yet c.args.b.now.named.program c.args.b.now.dec c.args.cuts.now)

pub cut_row-requires : goal.cut_row-requires
cut_row-requires c =
    let p = c.args.b.now.named.program in
    let d = c.args.b.now.dec in
    let cut : Cut = c.cut-item.result in
    let rows : List Row = c.loop-cut.rows.items in
    let over : IsCutOver (proof_rows p d rows) cut =
    subst (λ (k : Cut). IsCutOver (proof_rows p d rows) k) (sym c.cut-item.is)
    (next_over p d c.args.cuts.now rows c.loop-cut.cut-index cut c.loop-cut-test.true c.requires.rules c.loop-cut.invariant) in
    record {
      few = subst (λ (rs : List Row). length rs ≤ 255) (sym c.as_slice.ensures.value)
          (next_few p d c.args.cuts.now rows c.loop-cut.cut-index c.loop-cut-test.true c.requires.few c.loop-cut.invariant);
      earlier = subst (All (IsEarlierCut p)) (sym c.as_slice.ensures.value) c.loop-cut.invariant.earlier;
      cut = subst (λ (rs : List Row). IsCutOver (proof_rows p d rs) cut) (sym c.as_slice.ensures.value) over;
    }

pub returns-in-Err-clause-fault : goal.returns-in-Err-clause-fault
returns-in-Err-clause-fault c =
    let p = c.args.b.now.named.program in
    let d = c.args.b.now.dec in
    let cut : Cut = c.cut-item.result in
    let rows : List Row = c.loop-cut.rows.items in
    fault_at p d c.args.cuts.now rows c.loop-cut.cut-index cut c.in-Err.fault c.loop-cut-test.true c.loop-cut.invariant
    (subst (λ (k : Cut). HasCutFault p (proof_rows p d rows) k c.in-Err.fault) c.cut-item.is
    (subst (λ (rs : List Row). HasCutFault p (proof_rows p d rs) cut c.in-Err.fault) c.as_slice.ensures.value c.in-Err.ensures.fault))

pub loop-cut-preserved : goal.loop-cut-preserved
loop-cut-preserved c =
    let p = c.args.b.now.named.program in
    let d = c.args.b.now.dec in
    let cut : Cut = c.cut-item.result in
    let rows : List Row = c.loop-cut.rows.items in
    let row : Row = c.in-Ok.row in
    let at : Cut = get_or c.args.cuts.now c.loop-cut.cut-index cut in
    let over : IsCutOver (proof_rows p d rows) at =
    next_over p d c.args.cuts.now rows c.loop-cut.cut-index cut c.loop-cut-test.true c.requires.rules c.loop-cut.invariant in
    let signs : HasFittingSigns (proof_rows p d rows) at =
    subst (HasFittingSigns (proof_rows p d rows)) c.cut-item.is
    (subst (λ (rs : List Row). HasFittingSigns (proof_rows p d rs) cut) c.as_slice.ensures.value c.in-Ok.ensures.signs) in
    let is : row ≡ cut_row p (proof_rows p d rows) at =
    c.in-Ok.ensures.row ∙ ap (λ (rs : List Row). cut_row p (proof_rows p d rs) cut) c.as_slice.ensures.value
    ∙ ap (λ (k : Cut). cut_row p (proof_rows p d rows) k) c.cut-item.is in
    let pushed : c.push.new.self.items ≡ rows ++ row ∷ [] =
    c.push.ensures.items ∙ ap (λ b. if b then rows ++ row ∷ [] else rows) c.if-is_err.ensures.negation in
    subst (AreRowsOfCuts p d (take (c.loop-cut.cut-index + 1) c.args.cuts.now)) (sym pushed)
    (next_rows p d c.args.cuts.now rows c.loop-cut.cut-index cut row c.loop-cut-test.true c.requires.few c.loop-cut.invariant over signs is c.in-Ok.ensures.kept)
