use Rattle.cert_format.specs.Sketch.{tree_of, weight}
use Rattle.cert_format.proofs.sketch.Sketch.drop.Given as goal

abbrev pub decreases-loop-self : goal.decreases-loop-self
decreases-loop-self l = weight (tree_of l.self)
