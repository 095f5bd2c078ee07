-- The trees that are joined are the groves'.
use Rattle.std.proofs.Common.{◌≡◌, subst}
use Rattle.std.specs.Prelude.{IfOk}
use Rattle.search_laws.specs.Grove.{GrowingTree}
use Rattle.open_nodes.specs.Trees.{tree_of}
use Rattle.tree_merge.specs.Merging.{merged, shut_by}
use Rattle.tree_merge.proofs.merging.joined.Goals as goal

pub returns : goal.returns
returns c =
    subst (λ (t : GrowingTree). IfOk c.join.result (λ tree. tree_of tree ≡ shut_by c.args.cost.now (merged t c.args.right.tree))) c.tree.ensures.tree
    (subst (λ (t : GrowingTree). IfOk c.join.result (λ tree. tree_of tree ≡ shut_by c.args.cost.now (merged (tree_of c.tree.result.now) t))) c.tree-2.ensures.tree
    c.join.ensures)
