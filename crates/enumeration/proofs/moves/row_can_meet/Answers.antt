use Rattle.enumeration.specs.Search.{CanMeetAt}
use Rattle.pricing_problem.specs.Priced.{HasNoPoint}
use Rattle.enumeration.proofs.TruthLaws.{on_true, on_false}
use Rattle.enumeration.proofs.PlaceLaws.{met_at, unmet_at}
use Rattle.enumeration.proofs.moves.row_can_meet.Goals as goal

pub returns-clause-yes : goal.returns-clause-yes
returns-clause-yes c = on_true c.can_meet.result
    (CanMeetAt c.args.form.now.rows.items c.args.dive.now.zone.items c.args.row)
    (λ yes'. met_at c.args.form.now c.args.zone.now c.args.costs.now c.args.dive.now c.requires.tracked c.args.row c.requires.there
    c.index.result.now c.index.ensures c.index-2.result.now c.index-3.result.now c.index-2.ensures c.index-3.ensures (c.can_meet.ensures.0 yes'))

pub returns-clause-no : goal.returns-clause-no
returns-clause-no c = on_false c.can_meet.result
    (HasNoPoint c.args.form.now.rows.items c.args.dive.now.zone.items)
    (λ fails. unmet_at c.args.form.now c.args.zone.now c.args.costs.now c.args.dive.now c.requires.priceable c.requires.tracked c.args.row c.requires.there
    c.index.result.now c.index.ensures c.index-2.result.now c.index-3.result.now c.index-2.ensures c.index-3.ensures (λ can. fails (c.can_meet.ensures.1 can)))
