use Rattle.std.proofs.Common.{refl}
use Rattle.cert_line_check.proofs.Counting.{nothing_cut}
use Rattle.cert_line_check.proofs.visits.zone_visits.Goals as goal

pub returns-then-picks_nothing : goal.returns-then-picks_nothing
returns-then-picks_nothing c =
    nothing_cut c.args.b.now.named.program.spans c.args.b.now.blocking c.args.zone.now c.args.proof.now.picked (c.if-picks_nothing.ensures.0 refl)
