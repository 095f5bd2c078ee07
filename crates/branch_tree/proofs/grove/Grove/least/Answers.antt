use Rattle.std.proofs.Common.{◌≡◌, subst, sym, rules, arith, to_z, of_z, w64, ◌∙◌}
use Rattle.search_laws.specs.Grove.{live_bounds}
use Rattle.search_laws.specs.GroveFacts.{IsLeastOf}
use Rattle.open_nodes.specs.Trees.{tree_of}
use Rattle.branch_tree.proofs.Standing.{least_is_first, none_is_live}
use Rattle.branch_tree.proofs.grove.Grove.least.Goals as goal

pub unreachable-requires : goal.unreachable-requires
unreachable-requires c =
    let none = none_is_live (tree_of c.self.inside.tree) c.self.inside.root c.self.inside.queue c.args.self.now c.self.view_is c.self.invariant.0 c.in-None.ensures.none in
    omega (arith, none, c.requires)

pub returns : goal.returns
returns c =
    let same : to_z w64 (of_z w64 c.bound_of.result) ≡ c.bound_of.result = search rules in
    subst (IsLeastOf (live_bounds c.args.self.now.tree)) (sym (same ∙ c.bound_of.ensures))
    (least_is_first (tree_of c.self.inside.tree) c.self.inside.root c.self.inside.queue c.args.self.now _ _ _ c.self.view_is c.self.invariant.0 c.in-Some.ensures.some)
