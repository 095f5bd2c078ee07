use Rattle.bp_gen.proofs.Draws.{HasDrawn}
use Rattle.bp_gen.proofs.drawn.Given as goal

abbrev pub invariant-loop : goal.invariant-loop
invariant-loop l = HasDrawn l.seed l.counter l.weights.items l.costs.items l.state
