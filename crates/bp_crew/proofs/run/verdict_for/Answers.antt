use Rattle.std.proofs.Common.{subst, sym}
use Rattle.branch_tree.specs.Turns.{IsTurn}
use Rattle.bp_search.proofs.Running.{turn_of}
use Rattle.bp_crew.proofs.run.verdict_for.Goals as goal

pub evaluate-requires-clause-turn : goal.evaluate-requires-clause-turn
evaluate-requires-clause-turn c =
    subst (IsTurn c.args.b.now) (sym c.in-Some.ensures.same)
    (turn_of c.args.b.now c.args.crew.now.grove c.args.crew.now.best c.in-Some.ensures.hand.turn c.requires.kept.running
    (c.requires.kept.turns c.args.worker c.in-Some.ensures.hand c.in-Some.ensures.holds))
