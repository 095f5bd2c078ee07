use Rattle.open_nodes.specs.Paths.{GoesThrough}
use Rattle.open_nodes.proofs.path.up.Given as goal

abbrev pub invariant-loop : goal.invariant-loop
invariant-loop l = GoesThrough l.steps l.here l.counter
