use Rattle.std.proofs.Common.{subst, Option}
use Rattle.std.specs.Prelude.{ℤ, IfSome}
use Rattle.bp_theory.specs.declared.Proof.{Proof}
use Rattle.search_laws.specs.GroveFacts.{best_cost}
use Rattle.search_laws.specs.Verdicts.{IsNext, cheaper_cost}
use Rattle.search_laws.specs.declared.Next.TheVariants.{Shut}
use Rattle.node_bound.specs.Shown.{ShutsOff}
use Rattle.node_bound.proofs.Leaves.{off_settles, verdict_is}
use Rattle.node_bound.proofs.Strong.{more_is_strong}
use Rattle.node_eval.proofs.compact.compact_points.Goals as goal

pub settled-next-requires-clause-shown : goal.settled-next-requires-clause-shown
settled-next-requires-clause-shown c = c.raised_by_box-shown.ensures.shown c.args.turn.now.bound c.in_ok-shown.ensures.shown

pub settled-next-requires-clause-strong : goal.settled-next-requires-clause-strong
settled-next-requires-clause-strong c =
    more_is_strong c.args.b.now.blocking c.args.turn.now.zone c.in_ok-shown.shown.bound c.raised_by_box-shown.result.bound c.raised_by_box-shown.ensures.no_less c.in_ok-shown.ensures.strong

pub returns-clause-verdict : goal.returns-clause-verdict
returns-clause-verdict c =
    verdict_is c.args.b.now.named.program c.args.b.now.blocking c.args.turn.now.depth c.args.turn.now.zone c.args.turn.now.bound c.args.best
    c.better_point-point.result c.settled-next.result c.better_point-point.ensures
    (subst (λ (known : Option ℤ). IsNext c.args.b.now.blocking c.args.turn.now.depth c.args.turn.now.zone c.args.turn.now.bound known c.settled-next.result)
    c.cheaper-known.ensures c.settled-next.ensures.next)

pub returns-in-Some-clause-verdict : goal.returns-in-Some-clause-verdict
returns-in-Some-clause-verdict c =
    let known : Option ℤ = cheaper_cost (best_cost c.args.b.now.named.program c.better_point-point.result) c.args.best in
    verdict_is c.args.b.now.named.program c.args.b.now.blocking c.args.turn.now.depth c.args.turn.now.zone c.args.turn.now.bound c.args.best
    c.better_point-point.result (Shut c.in-Some.proof) c.better_point-point.ensures
    (off_settles c.args.b.now.blocking c.args.turn.now.depth c.args.turn.now.zone c.args.turn.now.bound known c.in-Some.proof
    (subst (λ (found : Option Proof). IfSome found (ShutsOff c.args.b.now.blocking c.args.turn.now.zone)) c.in-Some.is c.in_ok-proof.ensures.off))
