use Rattle.std.proofs.Common.{refl, Some, subst}
use Rattle.cert_walk.specs.Walks.{IsFresh}
use Rattle.cert_walk.specs.declared.path.Path.{Path}
use Rattle.cert_walk.proofs.Walking.{begun_ended, begun_at}
use Rattle.cert_walk.proofs.walk.begin.Goals as goal

pub returns-in-Err-clause-judged : goal.returns-in-Err-clause-judged
returns-in-Err-clause-judged c = λ visits k fresh.
    begun_ended c.args.b.now.named.program c.args.b.now.blocking k c.args.b.now.dec c.args.claim.now c.args.point.now visits c.in-Err.found
    (record { line = c.in-Err.found.line; fault = Some c.in-Err.found.kind }) c.in-Err.ensures refl refl

pub returns-in-Ok-clause-judged : goal.returns-in-Ok-clause-judged
returns-in-Ok-clause-judged c = λ visits k fresh.
    let path = c.in-At.path in
    let now : Path = record { place = record { zone = path.place.zone; line = c.in-Ok.line; left = path.place.left }; forks = path.forks } in
    begun_at c.args.b.now.named.program c.args.b.now.blocking k c.args.b.now.dec c.args.claim.now c.args.point.now visits path now c.in-Ok.line c.in-Ok.ensures refl refl refl refl
    (subst (IsFresh c.args.b.now.named.program.spans visits) c.in-At.is fresh)
