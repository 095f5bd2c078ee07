use Rattle.std.proofs.Common.{◌∙◌, ap, subst}
use Rattle.bp_theory.specs.declared.Limits.{Limits}
use Rattle.tree_load.specs.Rooms.{rooms, FindsBehind}
use Rattle.open_nodes.specs.Trees.{tree_of}
use Rattle.tree_load.proofs.Descent.{loaded_leaf}
use Rattle.tree_load.proofs.nodes.load_end.Goals as goal

pub returns-clause-loaded : goal.returns-clause-loaded
returns-clause-loaded c = (
  tree_of c.in_ok-leaf.leaf,
  loaded_leaf c.args.b.now.named.program.limits c.args.b.now.blocking c.args.best.now c.args.at c.pass-end.result c.args.proof.now (tree_of c.in_ok-leaf.leaf)
      c.in_ok-leaf.ensures.loads c.pass-end.ensures.zone c.pass-end.ensures.depth c.pass-end.ensures.line
      (subst (λ (l : Limits). FindsBehind l c.args.at.deep (rooms (tree_of c.in_ok-leaf.leaf) c.args.at.depth c.args.at.zone) c.args.at.line c.pass-end.result.deep)
      (c.limits.ensures ∙ ap (λ m. m.program.limits) c.model.ensures.model) c.pass-end.ensures.deep),
  c.in_ok-node.ensures,
)
