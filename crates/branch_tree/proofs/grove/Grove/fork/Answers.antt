use Rattle.std.proofs.Common.{◌+◌, arith, refl}
use Rattle.branch_tree.proofs.Standing.{fork_there, fork_free, fork_fits, fork_whole, fork_kept, fork_from_queue}
use Rattle.open_nodes.specs.Trees.{tree_of}
use Rattle.branch_tree.proofs.grove.Grove.fork.Goals as goal

pub fork_leaf-requires-clause-there : goal.fork_leaf-requires-clause-there
fork_leaf-requires-clause-there c =
    fork_there (tree_of c.self.inside.tree) c.self.inside.root c.self.inside.queue c.self.inside.live c.self.inside.count c.self.inside.depth
    c.args.self.now c.args.turn.now c.self.view_is c.self.invariant c.requires.turn

pub fork_leaf-requires-clause-none : goal.fork_leaf-requires-clause-none
fork_leaf-requires-clause-none c =
    fork_free (tree_of c.self.inside.tree) c.self.inside.root c.self.inside.queue c.self.inside.live c.self.inside.count c.self.inside.depth
    _ (c.self.inside.live + c.self.inside.count) c.self.invariant (omega arith)

pub fork_leaf-requires-clause-none_behind : goal.fork_leaf-requires-clause-none_behind
fork_leaf-requires-clause-none_behind c =
    fork_free (tree_of c.self.inside.tree) c.self.inside.root c.self.inside.queue c.self.inside.live c.self.inside.count c.self.inside.depth
    _ (c.self.inside.live + c.self.inside.count + 1) c.self.invariant (omega arith)

pub fork_leaf-requires-clause-fits : goal.fork_leaf-requires-clause-fits
fork_leaf-requires-clause-fits c =
    fork_fits (tree_of c.self.inside.tree) c.self.inside.root c.self.inside.queue c.self.inside.live c.self.inside.count c.self.inside.depth
    c.args.self.now c.self.view_is c.self.invariant c.requires.count

pub invariant_of-self-2 : goal.invariant_of-self-2
invariant_of-self-2 c =
    fork_whole (tree_of c.self.inside.tree) c.self.inside.root c.self.inside.queue c.self.inside.live c.self.inside.count c.self.inside.depth
    c.max-self-inside.result c.args.self.now c.args.turn.now c.args.fork.var c.args.fork.at c.args.fork.proof c.args.fork.bound (c.self.inside.live + c.self.inside.count)
    c.fork_leaf.new.queue (tree_of c.fork_leaf.new.tree) c.self.view_is c.self.invariant c.requires.turn c.requires.split c.requires.depth c.requires.count
    refl c.in_ok-fork_leaf.ensures.queue c.in_ok-fork_leaf.ensures.tree c.max-self-inside.ensures

pub returns-clause-queue : goal.returns-clause-queue
returns-clause-queue c =
    fork_from_queue (tree_of c.self.inside.tree) c.self.inside.root c.self.inside.queue c.self.inside.live c.self.inside.count c.self.inside.depth
    c.args.self.now c.args.turn.now c.args.fork.bound (c.self.inside.live + c.self.inside.count) c.fork_leaf.new.queue
    c.self.view_is c.self.invariant c.requires.turn refl c.in_ok-fork_leaf.ensures.queue

pub returns-clause-kept : goal.returns-clause-kept
returns-clause-kept c =
    fork_kept c.args.b.now (tree_of c.self.inside.tree) c.self.inside.root c.self.inside.queue c.args.self.now c.args.turn.now
    c.args.fork.var c.args.fork.at c.args.fork.proof c.args.fork.bound c.args.turn.now.path c.fork_leaf.new.queue (tree_of c.fork_leaf.new.tree)
    c.self.view_is c.self.invariant.0 c.requires.kept c.requires.turn c.requires.split c.requires.sound c.requires.keeps refl c.in_ok-fork_leaf.ensures.tree

pub returns-clause-standing : goal.returns-clause-standing
returns-clause-standing c = (invariant_of-self-2 c).0
