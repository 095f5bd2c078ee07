use Rattle.std.proofs.Common.{Option, None, subst}
use Rattle.std.specs.Prelude.{ℤ}
use Rattle.search_laws.specs.GroveFacts.{best_cost}
use Rattle.search_laws.specs.Verdicts.{cheaper_cost}
use Rattle.search_laws.specs.declared.Next.TheVariants.{Shut}
use Rattle.node_bound.specs.Openings.{IsOpening}
use Rattle.node_bound.proofs.Leaves.{off_settles, verdict_is}
use Rattle.node_eval.proofs.leaf.many_points.Goals as goal

pub returns-in-Empty-clause-verdict : goal.returns-in-Empty-clause-verdict
returns-in-Empty-clause-verdict c =
    let known : Option ℤ = cheaper_cost (best_cost c.args.b.now.named.program None) c.args.best in
    verdict_is c.args.b.now.named.program c.args.b.now.blocking c.args.turn.now.depth c.args.turn.now.zone c.args.turn.now.bound c.args.best None (Shut c.in-Empty.proof) tt
    (off_settles c.args.b.now.blocking c.args.turn.now.depth c.args.turn.now.zone c.args.turn.now.bound known c.in-Empty.proof
    (subst (IsOpening c.args.b.now.blocking c.args.turn.now.zone c.args.turn.now.bound) c.in-Empty.is c.in_ok-proof-2.ensures.opening))
