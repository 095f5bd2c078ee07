use Rattle.std.proofs.Common.{[], ◌∷◌, Result, subst}
use Rattle.bp_theory.specs.Judgement.{leaf_line}
use Rattle.cert_line_check.specs.Judging.{JudgesLines}
use Rattle.cert_line_check.specs.declared.place.NodePlace.{NodePlace}
use Rattle.cert_line_check.specs.declared.place.Stop.{Stop}
use Rattle.cert_walk.proofs.Walking.{left_ended, left_at}
use Rattle.cert_walk.proofs.walk.leave_from.Goals as goal

pub returns-in-Err-clause-judged : goal.returns-in-Err-clause-judged
returns-in-Err-clause-judged c = λ front visits ts h.
    let R : Result NodePlace Stop → Type 0 = λ r. JudgesLines c.args.b.now.named.program c.args.b.now.blocking c.args.claim.now
    (leaf_line (record { zone = c.args.path.place.zone; proof = c.args.proof.now; is_open = c.args.is_open }) ∷ []) c.args.path.place r in
    left_ended c.args.b.now.named.program c.args.b.now.blocking c.args.claim.now front visits ts c.args.path c.args.proof.now c.args.is_open c.in-Err.stop
    (subst R c.in-Err.is c.in_ok-stop.ensures.judged) h

pub returns-in_ok-go_on-in-Ok-clause-judged : goal.returns-in_ok-go_on-in-Ok-clause-judged
returns-in_ok-go_on-in-Ok-clause-judged c = λ front visits ts h.
    let R : Result NodePlace Stop → Type 0 = λ r. JudgesLines c.args.b.now.named.program c.args.b.now.blocking c.args.claim.now
    (leaf_line (record { zone = c.args.path.place.zone; proof = c.args.proof.now; is_open = c.args.is_open }) ∷ []) c.args.path.place r in
    left_at c.args.b.now.named.program c.args.b.now.blocking c.args.claim.now front visits ts c.args.path c.in_ok-go_on-in-Ok.field-0 c.in-Ok.place c.args.proof.now c.args.is_open
    (subst R c.in-Ok.is c.in_ok-stop.ensures.judged) c.in_ok-go_on-in-Ok.ensures.line c.in_ok-go_on-in-Ok.ensures.left c.in_ok-go_on-in-Ok.ensures.moved h
