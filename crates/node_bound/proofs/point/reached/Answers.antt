use Rattle.std.proofs.Common.{sym, subst}
use Rattle.bp_theory.specs.declared.Proof.{Proof}
use Rattle.search_laws.specs.GroveFacts.{best_cost}
use Rattle.search_laws.specs.Verdicts.{IsNext, cheaper_cost}
use Rattle.search_laws.specs.declared.Next.TheVariants.{Shut}
use Rattle.node_bound.proofs.Leaves.{verdict_is, point_next}
use Rattle.node_bound.proofs.point.reached.Goals as goal

pub returns-clause-verdict : goal.returns-clause-verdict
returns-clause-verdict c =
    verdict_is c.args.b.now.named.program c.args.b.now.blocking c.args.turn.now.depth c.args.turn.now.zone c.args.turn.now.bound c.args.best c.if_better.result _
    c.if_better.ensures.better
    (subst (λ (proof : Proof). IsNext c.args.b.now.blocking c.args.turn.now.depth c.args.turn.now.zone c.args.turn.now.bound
    (cheaper_cost (best_cost c.args.b.now.named.program c.if_better.result) c.args.best) (Shut proof)) (sym c.plain.ensures)
    (point_next c.args.b.now c.args.point c.args.turn.now.zone c.args.turn.now.depth c.args.turn.now.bound
    (cheaper_cost (best_cost c.args.b.now.named.program c.if_better.result) c.args.best) c.requires.formed c.requires.one c.if_better.ensures.known))
