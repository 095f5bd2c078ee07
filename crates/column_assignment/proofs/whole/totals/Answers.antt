-- One weight more in its class's total.
use Rattle.std.proofs.Common.{◌≡◌, ap, ◌∙◌, refl, ◌<◌, pos, length, get_or, set, arith}
use Rattle.std.specs.Prelude.{◌+ℤ◌}
use Rattle.std.specs.Int.{w128, int_wrap}
use Rattle.std.proofs.lemmas.List.{take_all, length-set}
use Rattle.search_laws.specs.declared.UsedColumn.{UsedColumn}
use Rattle.column_assignment.proofs.WholeLemmas.{passed, total, totals_more, total_exact}
use Rattle.column_assignment.proofs.DealLemmas.{any_default}
use Rattle.column_assignment.proofs.whole.totals.Goals as goal

pub loop-place-preserved : goal.loop-place-preserved
loop-place-preserved c =
    let used = c.args.used.now in
    let i = c.loop-place.place in
    let now = c.loop-place.totals.items in
    let none : UsedColumn = c.index-used-place-in-loop-place.result in
    let u : UsedColumn = get_or used i none in
    let l : i < length used = omega arith in
    let read : get_or used i none ≡ get_or used i c.index-used-place.result = any_default used i none c.index-used-place.result l in
    let weight_is : c.widened-more.result ≡ u.weight = cc in
    let there : u.class < length now = omega (arith, c.requires.known i none l, c.loop-place.invariant.many) in
    let r = int_wrap w128 (get_or now u.class (pos 0) +ℤ u.weight) in
    let is : c.add_to.new.totals.items ≡ set now u.class r =
    c.add_to.ensures ∙ ap (λ z. set now u.class (int_wrap w128 (get_or now u.class (pos 0) +ℤ z))) (passed c.widened-more.result c.widened-more.type_inv ∙ weight_is) in
    record {
      many = ap length is ∙ length-set now u.class r ∙ c.loop-place.invariant.many;
      totals = λ k m.
          ap (λ ts. get_or ts k (pos 0)) is
          ∙ totals_more used i none now u.class u.weight r k l refl refl there refl (c.loop-place.invariant.totals k m)
          (c.loop-place.invariant.totals u.class (omega (arith, c.requires.known i none l)));
    }

pub returns-clause-totals : goal.returns-clause-totals
returns-clause-totals c = λ k l.
    c.loop-place.invariant.totals k l
    ∙ ap (λ us. int_wrap w128 (total us k)) (take_all c.loop-place.place c.args.used.now (omega arith))
    ∙ total_exact c.args.used.now k c.requires.weights (omega arith)
