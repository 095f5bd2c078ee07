use Rattle.std.proofs.Common.{ap, arith}
use Rattle.cert_format.specs.Sketch.{tree_of, weight}
use Rattle.cert_format.specs.declared.sketch.Sketch.{Sketch}
use Rattle.cert_format.proofs.sketch.Sketch.drop.Goals as goal

pub loop-self-smaller : goal.loop-self-smaller
loop-self-smaller c =
    let whole = ap (λ (t : Sketch). weight (tree_of t)) c.in-Fork.is in
    omega (arith, whole, c.lessened-self.ensures)
