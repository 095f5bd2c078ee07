use Rattle.std.proofs.Common.{arith}
use Rattle.open_nodes.specs.Trees.{tree_of}
use Rattle.branch_tree.proofs.Standing.{shut_whole, shut_counts, shut_kept}
use Rattle.branch_tree.proofs.grove.Grove.shut.Goals as goal

pub overflow_sub-self : goal.overflow_sub-self
overflow_sub-self c =
    (shut_counts (tree_of c.self.inside.tree) c.self.inside.root c.self.inside.queue c.self.inside.live c.self.inside.count c.self.inside.depth
    c.args.self.now c.args.turn.now c.self.view_is c.self.invariant c.requires.turn).0

pub overflow_add-self : goal.overflow_add-self
overflow_add-self c =
    let few = (shut_counts (tree_of c.self.inside.tree) c.self.inside.root c.self.inside.queue c.self.inside.live c.self.inside.count c.self.inside.depth
    c.args.self.now c.args.turn.now c.self.view_is c.self.invariant c.requires.turn).1 in
    omega (arith, few)

pub invariant_of-self : goal.invariant_of-self
invariant_of-self c =
    shut_whole (tree_of c.self.inside.tree) c.self.inside.root c.self.inside.queue c.self.inside.live c.self.inside.count c.self.inside.depth
    c.args.self.now c.args.turn.now c.args.proof c.as_slice-path.result.now c.key_of-key.result.0 c.key_of-key.result.1 c.take_out.new.self (tree_of c.put.new.tree)
    c.self.view_is c.self.invariant c.requires.turn c.as_slice-path.ensures c.key_of-key.ensures c.take_out.ensures.without c.put.ensures

pub returns-clause-kept : goal.returns-clause-kept
returns-clause-kept c =
    shut_kept c.args.b.now (tree_of c.self.inside.tree) c.self.inside.root c.self.inside.queue c.args.self.now c.args.turn.now c.args.proof
    c.as_slice-path.result.now c.take_out.new.self (tree_of c.put.new.tree)
    c.self.view_is c.requires.kept c.requires.turn c.requires.sound c.as_slice-path.ensures c.put.ensures

pub returns-clause-standing : goal.returns-clause-standing
returns-clause-standing c = (invariant_of-self c).0
