use Rattle.std.proofs.Common.{◌∙◌, refl, ap, List, [], ◌∷◌, arith, length}
use Rattle.std.proofs.Math.IntN.{ℤ}
use Rattle.std.specs.Prelude.{IsTrue, false}
use Rattle.pricing_problem.proofs.Passed.{passed}
use Rattle.shortest_path.specs.Pairs.{steps_with}
use Rattle.shortest_path.proofs.WalkLaws.{length-way_of}
use Rattle.shortest_path.proofs.PairLaws.{length-steps_with}
use Rattle.shortest_path.proofs.PriceLaws.{price_none, price_some, root_least}
use Rattle.shortest_path.proofs.price.answer_of.Goals as goal

pub walk-requires-clause-leads : goal.walk-requires-clause-leads
walk-requires-clause-leads c = (c.requires.least.reached (c.if-not-has_way.ensures.0 refl)).leads

pub returns-then-not-has_way-clause-answer : goal.returns-then-not-has_way-clause-answer
returns-then-not-has_way-clause-answer c = λ rows spans g p.
    price_none rows spans c.args.zone.now c.args.costs.now (steps_with c.args.graph.now.wide c.args.graph.now.steps.items c.args.lists.now) c.args.work.now.picks.items 1 (c.args.least.now ∷ [])
    g p (omega arith) (root_least (steps_with c.args.graph.now.wide c.args.graph.now.steps.items c.args.lists.now) c.args.work.now.picks.items c.args.zone.now c.args.costs.now c.args.least.now c.requires.least)
    (λ way. absurd_true (c.if-not-has_way.ensures.1 way))
  where
    absurd_true : IsTrue false → ⊥
    absurd_true e = absurd (cc)

pub returns-clause-room : goal.returns-clause-room
returns-clause-room c =
    let len = length-steps_with c.args.graph.now.wide c.args.graph.now.steps.items c.args.lists.now in
    record {
      now = c.requires.room.now;
      next = c.requires.room.next;
      short_now = c.requires.room.short_now;
      short_next = c.requires.room.short_next;
      many = c.requires.room.many;
      picks = c.requires.room.picks;
      point = ap (λ (zs : List ℤ). length zs) c.walk.ensures ∙ length-way_of (steps_with c.args.graph.now.wide c.args.graph.now.steps.items c.args.lists.now) c.args.work.now.picks.items c.args.zone.now c.args.costs.now 0
          (omega (arith, len, c.requires.room.many)) (omega (arith, len, c.requires.zone, c.args.graph.now.steps.ok.0)) (omega (arith, len, c.requires.costs, c.args.graph.now.steps.ok.0)) ∙ len;
    }

pub returns-clause-answer : goal.returns-clause-answer
returns-clause-answer c = λ rows spans g p.
    let len = length-steps_with c.args.graph.now.wide c.args.graph.now.steps.items c.args.lists.now in
    price_some rows spans c.args.zone.now c.args.costs.now (steps_with c.args.graph.now.wide c.args.graph.now.steps.items c.args.lists.now) c.args.work.now.picks.items 1 (c.args.least.now ∷ [])
    c.walk.new.point.items _ g p (omega (arith, len, c.requires.zone, c.args.graph.now.steps.ok.0)) (omega (arith, len, c.requires.costs, c.args.graph.now.steps.ok.0))
    (omega arith) (root_least (steps_with c.args.graph.now.wide c.args.graph.now.steps.items c.args.lists.now) c.args.work.now.picks.items c.args.zone.now c.args.costs.now c.args.least.now c.requires.least)
    (c.if-not-has_way.ensures.0 refl) c.walk.ensures (passed c.copied.result c.copied.type_inv ∙ c.copied.ensures)
