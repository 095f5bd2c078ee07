use Rattle.std.proofs.Common.{refl}
use Rattle.open_nodes.specs.Trees.{tree_of}
use Rattle.branch_tree.proofs.Standing.{kept_turn, standing_of}
use Rattle.branch_tree.proofs.Below.{none_live, below_is_short, turn_below}
use Rattle.branch_tree.proofs.grove.Grove.take_below.Goals as goal

pub returns-in_default-clause-next : goal.returns-in_default-clause-next
returns-in_default-clause-next c =
    none_live (tree_of c.self.inside.tree) c.self.inside.root c.self.inside.queue c.args.self.now c.args.above.now c.self.view_is c.self.invariant.0
    c.in_default.ensures.none

pub turn_at-requires-clause-deep : goal.turn_at-requires-clause-deep
turn_at-requires-clause-deep c =
    below_is_short (tree_of c.self.inside.tree) c.self.inside.root c.self.inside.queue c.args.above.now _ _ c.in-Some.path.now c.self.invariant.0
    c.in-Some.ensures.some

pub returns-clause-next : goal.returns-clause-next
returns-clause-next c =
    turn_below (tree_of c.self.inside.tree) c.self.inside.root c.self.inside.root c.self.inside.queue c.args.self.now c.in_ok-leaf.leaf c.args.above.now _ _
    c.in-Some.path.now c.self.view_is c.self.invariant.0 c.in-Some.ensures.some refl c.in_ok-leaf.ensures.live c.in_ok-leaf.ensures.zone
    c.in_ok-leaf.ensures.path c.in_ok-leaf.ensures.depth

pub returns-clause-kept : goal.returns-clause-kept
returns-clause-kept c = λ b kept. kept_turn b c.args.self.now c.in_ok-leaf.leaf kept
    (standing_of (tree_of c.self.inside.tree) c.self.inside.root c.self.inside.queue c.args.self.now c.self.view_is c.self.invariant.0)
    (returns-clause-next c).live
