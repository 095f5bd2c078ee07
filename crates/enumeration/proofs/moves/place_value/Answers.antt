use Rattle.std.proofs.Common.{◌≡◌, set, ◌∙◌, sym, ap, subst, arith, List}
use Rattle.std.specs.Prelude.{All}
use Rattle.bp_theory.specs.Program.{span_at}
use Rattle.bp_theory.specs.declared.Span.{Span}
use Rattle.enumeration.specs.Columns.{column_from}
use Rattle.enumeration.specs.Reach.{CanMeetRow}
use Rattle.enumeration.specs.Best.{IsCovered}
use Rattle.enumeration.specs.Search.{CanMeetAt, single}
use Rattle.enumeration.specs.declared.columns.Entry.{Entry}
use Rattle.std.specs.Bool.{OnTrue}
use Rattle.enumeration.proofs.TruthLaws.{map_true}
use Rattle.enumeration.proofs.PlaceLaws.{covered_by_least, all_can_meet, many_narrow}
use Rattle.enumeration.specs.Relax.{IsSurpassed}
use Rattle.enumeration.proofs.RelaxLaws.{covered_surpassed}
use Rattle.enumeration.proofs.moves.place_value.Goals as goal

pub returns-then-not-may_improve-clause-no : goal.returns-then-not-may_improve-clause-no
returns-then-not-may_improve-clause-no c =
    covered_by_least c.args.form.now.rows.items c.place.new.dive.zone.items c.args.costs.now c.place.new.dive.best
    (c.requires.priceable.each ∙ sym (many_narrow c.args.form.now c.args.zone.now c.args.costs.now c.place.new.dive c.place.ensures.tracked))
    (subst (IsCovered c.place.new.dive.best) c.place.ensures.tracked.least c.if-not-may_improve.ensures.no)

pub returns-then-not-may_undercut-clause-no : goal.returns-then-not-may_undercut-clause-no
returns-then-not-may_undercut-clause-no c =
    covered_surpassed c.args.form.now.rows.items c.place.new.dive.zone.items c.args.zone.now c.args.costs.now c.args.relaxed.now c.place.new.dive.best
    (c.requires.relaxed.priceable.each ∙ sym (many_narrow c.args.form.now c.args.zone.now c.args.costs.now c.place.new.dive c.place.ensures.tracked))
    c.place.ensures.tracked.inside c.requires.relaxed.below
    (subst (IsSurpassed c.args.relaxed.now c.place.new.dive.best) c.place.ensures.paid c.if-not-may_undercut.ensures.no)

pub returns-clause-yes : goal.returns-clause-yes
returns-clause-yes c =
    let placed : c.place.new.dive.zone.items ≡ set c.args.dive.now.zone.items c.args.var (single c.args.value.now) =
    c.place.ensures.zone ∙ ap (set c.args.dive.now.zone.items c.args.var) c.span_of-one.ensures in
    subst (λ (zone : List Span). OnTrue c.column_can_meet.result (All (CanMeetRow zone) c.args.form.now.rows.items)) (sym placed)
    (map_true c.column_can_meet.result _ _
    (λ named. all_can_meet c.args.form.now.rows.items c.args.dive.now.zone.items c.args.var (single c.args.value.now) (span_at c.args.zone.now c.args.var)
    (omega (arith, c.requires.there, many_narrow c.args.form.now c.args.zone.now c.args.costs.now c.args.dive.now c.requires.tracked))
    c.requires.others
    (subst (λ (zone : List Span). All (λ (e : Entry). CanMeetAt c.args.form.now.rows.items zone e.row) (column_from 0 c.args.form.now.rows.items c.args.var)) placed named))
    c.column_can_meet.ensures.yes)
