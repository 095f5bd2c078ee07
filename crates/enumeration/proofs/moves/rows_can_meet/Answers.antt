use Rattle.std.proofs.Common.{◌≡◌, subst, get_or, arith, ⊎_elim}
use Rattle.std.proofs.lemmas.Bool.{cases_lt}
use Rattle.enumeration.specs.Reach.{CanMeetRow}
use Rattle.enumeration.proofs.moves.rows_can_meet.Goals as goal

pub loop-row-preserved : goal.loop-row-preserved
loop-row-preserved c k d l = ⊎_elim
    (λ less. c.loop-row.invariant k d less)
    (λ more. let last : c.loop-row.row ≡ k = omega (arith, l, more) in
    subst (λ n. CanMeetRow c.args.dive.now.zone.items (get_or c.args.form.now.rows.items n d)) last (c.if-not-row_can_meet.ensures.yes d))
    (cases_lt k c.loop-row.row)
