use Rattle.std.proofs.Common.{refl}
use Rattle.open_nodes.specs.Trees.{tree_of}
use Rattle.branch_tree.proofs.Standing.{next_turn, none_is_live, first_is_short, kept_turn, standing_of}
use Rattle.branch_tree.proofs.grove.Grove.take.Goals as goal

pub returns-in_default-clause-next : goal.returns-in_default-clause-next
returns-in_default-clause-next c =
    none_is_live (tree_of c.self.inside.tree) c.self.inside.root c.self.inside.queue c.args.self.now c.self.view_is c.self.invariant.0 c.in_default.ensures.none

pub turn_at-requires-clause-deep : goal.turn_at-requires-clause-deep
turn_at-requires-clause-deep c =
    first_is_short (tree_of c.self.inside.tree) c.self.inside.root c.self.inside.queue _ _ c.in-Some.path.now c.self.invariant.0 c.in-Some.ensures.some

pub returns-clause-next : goal.returns-clause-next
returns-clause-next c =
    next_turn (tree_of c.self.inside.tree) c.self.inside.root c.self.inside.root c.self.inside.queue c.args.self.now c.in_ok-turn.turn _ _ c.in-Some.path.now
    c.self.view_is c.self.invariant.0 c.in-Some.ensures.some refl c.in_ok-turn.ensures.live c.in_ok-turn.ensures.zone
    c.in_ok-turn.ensures.path c.in_ok-turn.ensures.depth

pub returns-clause-kept : goal.returns-clause-kept
returns-clause-kept c = λ b kept. kept_turn b c.args.self.now c.in_ok-turn.turn kept
    (standing_of (tree_of c.self.inside.tree) c.self.inside.root c.self.inside.queue c.args.self.now c.self.view_is c.self.invariant.0)
    (returns-clause-next c).live
