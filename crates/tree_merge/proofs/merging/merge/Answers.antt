use Rattle.std.proofs.Common.{◌≡◌, sym, subst, refl}
use Rattle.search_laws.specs.Grove.{GrowingTree}
use Rattle.search_laws.specs.GroveFacts.{IsSearch}
use Rattle.branch_tree.specs.Adopted.{point_in}
use Rattle.open_nodes.specs.Trees.{tree_of}
use Rattle.tree_merge.specs.Laws.{merged_by}
use Rattle.tree_merge.specs.Merges.{cost_in, cheaper_of}
use Rattle.tree_merge.proofs.LoadedProof.{merged_search, merged_tree, few_merged, deep_merged, few_steps, merged_state}
use Rattle.tree_merge.proofs.merging.merge.Goals as goal

-- the tree that is adopted is the merged one
pub adopt-requires-clause-kept : goal.adopt-requires-clause-kept
adopt-requires-clause-kept c =
    let t : GrowingTree = c.args.first.grove.tree in
    let u : GrowingTree = c.args.second.grove.tree in
    let is : tree_of c.in_ok-tree.tree ≡ merged_by (cost_in c.args.first.best) (cost_in c.args.second.best) t u =
    merged_tree c.less_of-cost.result c.cost_in.result c.cost_in-2.result c.args.first.best c.args.second.best (tree_of c.in_ok-tree.tree)
    t u t u c.in_ok-tree.ensures c.less_of-cost.ensures c.cost_in.ensures c.cost_in-2.ensures refl refl in
    (subst (λ (m : GrowingTree). IsSearch c.args.b.now.named.program c.args.b.now.blocking m (point_in (cheaper_of c.args.first.best c.args.second.best))) (sym is)
    (merged_search c.args.b.now c.args.first.grove c.args.second.grove c.args.first.best c.args.second.best c.blocks-2.ensures.formed c.requires.first c.requires.second)).grove

pub adopt-requires-clause-deep : goal.adopt-requires-clause-deep
adopt-requires-clause-deep c =
    let t : GrowingTree = c.args.first.grove.tree in
    let u : GrowingTree = c.args.second.grove.tree in
    let is : tree_of c.in_ok-tree.tree ≡ merged_by (cost_in c.args.first.best) (cost_in c.args.second.best) t u =
    merged_tree c.less_of-cost.result c.cost_in.result c.cost_in-2.result c.args.first.best c.args.second.best (tree_of c.in_ok-tree.tree)
    t u t u c.in_ok-tree.ensures c.less_of-cost.ensures c.cost_in.ensures c.cost_in-2.ensures refl refl in
    deep_merged c.args.b.now (tree_of c.in_ok-tree.tree) (point_in (cheaper_of c.args.first.best c.args.second.best))
    (subst (λ (m : GrowingTree). IsSearch c.args.b.now.named.program c.args.b.now.blocking m (point_in (cheaper_of c.args.first.best c.args.second.best))) (sym is)
    (merged_search c.args.b.now c.args.first.grove c.args.second.grove c.args.first.best c.args.second.best c.blocks-2.ensures.formed c.requires.first c.requires.second))

pub adopt-requires-clause-few : goal.adopt-requires-clause-few
adopt-requires-clause-few c =
    let t : GrowingTree = c.args.first.grove.tree in
    let u : GrowingTree = c.args.second.grove.tree in
    let is : tree_of c.in_ok-tree.tree ≡ merged_by (cost_in c.args.first.best) (cost_in c.args.second.best) t u =
    merged_tree c.less_of-cost.result c.cost_in.result c.cost_in-2.result c.args.first.best c.args.second.best (tree_of c.in_ok-tree.tree)
    t u t u c.in_ok-tree.ensures c.less_of-cost.ensures c.cost_in.ensures c.cost_in-2.ensures refl refl in
    few_merged c.args.first.best c.args.second.best (tree_of c.in_ok-tree.tree) t u is c.requires.few

pub invariant_of-result : goal.invariant_of-result
invariant_of-result c =
    let t : GrowingTree = c.args.first.grove.tree in
    let u : GrowingTree = c.args.second.grove.tree in
    let is : tree_of c.in_ok-tree.tree ≡ merged_by (cost_in c.args.first.best) (cost_in c.args.second.best) t u =
    merged_tree c.less_of-cost.result c.cost_in.result c.cost_in-2.result c.args.first.best c.args.second.best (tree_of c.in_ok-tree.tree)
    t u t u c.in_ok-tree.ensures c.less_of-cost.ensures c.cost_in.ensures c.cost_in-2.ensures refl refl in
    record {
      few = few_steps c.in_ok-grove.grove (tree_of c.in_ok-tree.tree) c.in_ok-grove.ensures.adopted.tree
          (few_merged c.args.first.best c.args.second.best (tree_of c.in_ok-tree.tree) t u is c.requires.few);
    }

pub returns-clause-loaded : goal.returns-clause-loaded
returns-clause-loaded c =
    let t : GrowingTree = c.args.first.grove.tree in
    let u : GrowingTree = c.args.second.grove.tree in
    let is : tree_of c.in_ok-tree.tree ≡ merged_by (cost_in c.args.first.best) (cost_in c.args.second.best) t u =
    merged_tree c.less_of-cost.result c.cost_in.result c.cost_in-2.result c.args.first.best c.args.second.best (tree_of c.in_ok-tree.tree)
    t u t u c.in_ok-tree.ensures c.less_of-cost.ensures c.cost_in.ensures c.cost_in-2.ensures refl refl in
    merged_state c.args.b.now c.args.first.grove c.args.second.grove c.in_ok-grove.grove (tree_of c.in_ok-tree.tree) c.args.first.best c.args.second.best c.cheaper_of-best.result
    c.blocks-2.ensures.formed c.requires.first c.requires.second is c.in_ok-grove.ensures.adopted c.in_ok-grove.ensures.standing c.cheaper_of-best.ensures
