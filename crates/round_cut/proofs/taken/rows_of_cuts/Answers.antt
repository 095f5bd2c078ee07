use Rattle.std.proofs.Common.{◌+◌, List, take, get_or, sym, subst, Option, IfSome, IfNone}
use Rattle.bp_theory.specs.declared.Cut.{Cut}
use Rattle.bp_theory.specs.declared.Row.{Row}
use Rattle.round_cut.specs.Several.{AreRowsOfCuts}
use Rattle.round_cut.proofs.SeveralLemmas.{no_rows_yet}
use Rattle.round_cut.specs.Taken.{IsTaken, IsRefused}
use Rattle.round_cut.proofs.TakenLemmas.{next_taken, refused_at}
use Rattle.round_cut.proofs.taken.rows_of_cuts.Goals as goal

pub loop-cut-init : goal.loop-cut-init
loop-cut-init c =
    subst (AreRowsOfCuts c.args.b.now.named.program c.args.b.now.dec (take 0 c.args.cuts.now)) (sym c.new-rows.ensures.items)
    (no_rows_yet c.args.b.now.named.program c.args.b.now.dec c.args.cuts.now)

pub loop-cut-preserved : goal.loop-cut-preserved
loop-cut-preserved c =
    let p = c.args.b.now.named.program in
    let d = c.args.b.now.dec in
    let cut : Cut = c.cut-item.result in
    let rows : List Row = c.loop-cut.rows.items in
    let row : Row = c.in-Some.row in
    let taken : IsTaken p d rows (get_or c.args.cuts.now c.loop-cut.cut-index cut) row =
    subst (λ (k : Cut). IsTaken p d rows k row) c.cut-item.is
    (subst (λ (rs : List Row). IsTaken p d rs cut row) c.as_slice.ensures.value
    (subst (λ (found : Option Row). IfSome found (IsTaken p d c.as_slice.result.now cut)) c.in-Some.is c.in_ok-found.ensures.taken)) in
    subst (AreRowsOfCuts p d (take (c.loop-cut.cut-index + 1) c.args.cuts.now)) (sym c.in_ok-push-in-Some.ensures.items)
    (next_taken p d c.args.cuts.now rows c.loop-cut.cut-index cut row c.loop-cut-test.true c.loop-cut.invariant taken)

pub returns-in-None-clause-none : goal.returns-in-None-clause-none
returns-in-None-clause-none c =
    let p = c.args.b.now.named.program in
    let d = c.args.b.now.dec in
    let cut : Cut = c.cut-item.result in
    let rows : List Row = c.loop-cut.rows.items in
    let refused : IsRefused p d rows (get_or c.args.cuts.now c.loop-cut.cut-index cut) =
    subst (λ (k : Cut). IsRefused p d rows k) c.cut-item.is
    (subst (λ (rs : List Row). IsRefused p d rs cut) c.as_slice.ensures.value
    (subst (λ (found : Option Row). IfNone found (IsRefused p d c.as_slice.result.now cut)) c.in-None.is c.in_ok-found.ensures.refused)) in
    λ kept. refused_at p d c.args.cuts.now rows c.loop-cut.cut-index cut c.loop-cut-test.true c.loop-cut.invariant refused kept
