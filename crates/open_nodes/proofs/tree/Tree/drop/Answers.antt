use Rattle.std.proofs.Common.{ap, arith}
use Rattle.open_nodes.specs.Trees.{tree_of, weight}
use Rattle.open_nodes.specs.declared.tree.Tree.{Tree}
use Rattle.open_nodes.proofs.tree.Tree.drop.Goals as goal

pub loop-self-smaller : goal.loop-self-smaller
loop-self-smaller c =
    let whole = ap (λ (t : Tree). weight (tree_of t)) c.in-Fork.is in
    omega (arith, whole, c.lessened-self.ensures)
