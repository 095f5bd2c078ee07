-- One used column more goes into its class's deck.
use Rattle.std.proofs.Common.{◌≡◌, refl, ap, ◌∙◌, ◌<◌, length, get_or, arith}
use Rattle.std.proofs.lemmas.List.{take_all}
use Rattle.search_laws.specs.declared.UsedColumn.{UsedColumn}
use Rattle.search_laws.specs.Spread.{class_points, times}
use Rattle.column_assignment.proofs.DealLemmas.{deck_more, deck_none, any_default}
use Rattle.column_assignment.proofs.deal.decks.Goals as goal

pub loop-place-init : goal.loop-place-init
loop-place-init c = record { many = omega (arith, c.in_ok-decks.ensures.len, c.len.ensures); points = λ k l. deck_none c.args.used.now k c.in_ok-decks.decks.items (c.in_ok-decks.ensures.empty k) }

pub loop-place-preserved : goal.loop-place-preserved
loop-place-preserved c =
    let used = c.args.used.now in
    let i = c.loop-place.place in
    let old = c.loop-place.decks.items in
    let none : UsedColumn = c.index-used-place-in-loop-place.result in
    let u : UsedColumn = get_or used i none in
    let l : i < length used = omega arith in
    let read : get_or used i none ≡ get_or used i c.index-used-place.result = any_default used i none c.index-used-place.result l in
    let many_is : c.times-many.result ≡ times u = cc in
    let there : u.class < length old = omega (arith, c.requires.known i none l, c.loop-place.invariant.many) in
    record {
      many = omega (arith, c.in_ok-push_times.ensures.len, c.loop-place.invariant.many);
      points = λ k m.
          deck_more used i none k u.class c.times-many.result old c.push_times.new.decks.items l refl many_is there
          c.in_ok-push_times.ensures.pushed (c.loop-place.invariant.points k m);
    }

pub returns-clause-decks : goal.returns-clause-decks
returns-clause-decks c = λ k l.
    c.loop-place.invariant.points k l ∙ ap (λ us. class_points us k) (take_all c.loop-place.place c.args.used.now (omega arith))
