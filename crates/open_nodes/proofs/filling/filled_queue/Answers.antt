use Rattle.std.proofs.Common.{◌≡◌, ◌+◌, ◌∙◌, ap, subst, sym, arith, refl, List, [], reverse}
use Rattle.search_laws.specs.Grove.{GrowingTree, fork, live_count}
use Rattle.open_nodes.specs.Trees.{tree_of}
use Rattle.open_nodes.specs.Queues.{queue_of}
use Rattle.open_nodes.specs.Filled.{IsFilled}
use Rattle.open_nodes.specs.declared.tree.Tree.{Tree}
use Rattle.open_nodes.specs.declared.filling.Ahead.{Ahead}
use Rattle.open_nodes.proofs.Ahead.{IsFilling, first_ahead, next_ahead, two_ahead, filling_begins, filling_leaf, filling_fork}
use Rattle.open_nodes.proofs.Preorder.{filled_leaf, filled_shut, filled_alone, free_behind}
use Rattle.open_nodes.proofs.filling.filled_queue.Goals as goal

pub loop-here-init : goal.loop-here-init
loop-here-init c =
    let t = tree_of c.args.tree.now in
    let empty = queue_of c.new-queue.result in
    let all = first_ahead c.new-ahead.result.items c.push.new.self.items c.ahead_of.result c.new-ahead.ensures.items c.in_ok-push.ensures.items in
    subst (λ (l : List Ahead). IsFilling t l empty 0) (sym all)
    (filling_begins c.ahead_of.result t empty c.ahead_of.ensures.node (c.ahead_of.ensures.path ∙ c.root.ensures)
    (λ z n l. c.new-queue.ensures z n) (λ after filled. filled_alone t empty after [] refl filled))

pub loop-here-preserved-in-Live : goal.loop-here-preserved-in-Live
loop-here-preserved-in-Live c =
    let t = tree_of c.args.tree.now in
    let here = c.in-Some.here in
    let before = queue_of c.loop-here.queue in
    let after = queue_of c.add.new.self in
    let taken = subst (λ (l : List Ahead). IsFilling t l before c.loop-here.next)
    (next_ahead c.loop-here.ahead.items c.pop.new.self.items here c.in-Some.ensures.items) c.loop-here.invariant in
    let filled : IsFilled before (tree_of here.node.now) here.path c.loop-here.next after =
    filled_leaf before (tree_of here.node.now) c.in-Live.field-0 c.in-Live.bound c.key_at.result here.path here.path c.loop-here.next after
    (ap tree_of c.in-Live.is) c.key_at.ensures refl c.loop-here.invariant.free c.in_ok-add-in-Live.ensures.added in
    let one : live_count (tree_of here.node.now) ≡ 1 = ap (λ (u : Tree). live_count (tree_of u)) c.in-Live.is in
    let count : c.loop-here.next + 1 ≡ c.loop-here.next + live_count (tree_of here.node.now) = omega (arith, one) in
    filling_leaf t here (reverse c.pop.new.self.items) before after c.loop-here.next (c.loop-here.next + 1) taken
    filled (free_behind before (tree_of here.node.now) here.path c.loop-here.next (c.loop-here.next + 1) after filled count) count

pub loop-here-preserved-in-Shut-1 : goal.loop-here-preserved-in-Shut-1
loop-here-preserved-in-Shut-1 c =
    let t = tree_of c.args.tree.now in
    let here = c.in-Some.here in
    let before = queue_of c.loop-here.queue in
    let taken = subst (λ (l : List Ahead). IsFilling t l before c.loop-here.next)
    (next_ahead c.loop-here.ahead.items c.pop.new.self.items here c.in-Some.ensures.items) c.loop-here.invariant in
    let filled : IsFilled before (tree_of here.node.now) here.path c.loop-here.next before =
    subst (λ (u : GrowingTree). IsFilled before u here.path c.loop-here.next before) (sym (ap tree_of c.in-Shut.is))
    (filled_shut before c.in-Shut.field-0 here.path c.loop-here.next c.loop-here.invariant.free) in
    let none : live_count (tree_of here.node.now) ≡ 0 = ap (λ (u : Tree). live_count (tree_of u)) c.in-Shut.is in
    let count : c.loop-here.next ≡ c.loop-here.next + live_count (tree_of here.node.now) = omega (arith, none) in
    filling_leaf t here (reverse c.pop.new.self.items) before before c.loop-here.next c.loop-here.next taken
    filled c.loop-here.invariant.free count

pub loop-here-preserved : goal.loop-here-preserved
loop-here-preserved c =
    let t = tree_of c.args.tree.now in
    let here = c.in-Some.here in
    let before = queue_of c.loop-here.queue in
    let high = c.ahead_of-in-Fork.result in
    let low = c.ahead_of-in-Fork-2.result in
    let taken = subst (λ (l : List Ahead). IsFilling t l before c.loop-here.next)
    (next_ahead c.loop-here.ahead.items c.pop.new.self.items here c.in-Some.ensures.items) c.loop-here.invariant in
    let low_tree : tree_of low.node.now ≡ tree_of c.in-Fork.low.value = c.ahead_of-in-Fork-2.ensures.node ∙ ap tree_of c.deref-in-Fork.ensures in
    let high_tree : tree_of high.node.now ≡ tree_of c.in-Fork.high.value = c.ahead_of-in-Fork.ensures.node ∙ ap tree_of c.deref.ensures in
    let is : tree_of here.node.now ≡ fork c.in-Fork.var c.in-Fork.at (tree_of low.node.now) (tree_of high.node.now) =
    ap tree_of c.in-Fork.is ∙ ap (λ (x : GrowingTree). fork c.in-Fork.var c.in-Fork.at x (tree_of c.in-Fork.high.value)) (sym low_tree)
    ∙ ap (λ (x : GrowingTree). fork c.in-Fork.var c.in-Fork.at (tree_of low.node.now) x) (sym high_tree) in
    subst (λ (l : List Ahead). IsFilling t l before c.loop-here.next)
    (sym (two_ahead c.pop.new.self.items c.push-in-Fork.new.self.items c.push-in-Fork-2.new.self.items high low c.in_ok-push-in-Fork.ensures.items c.in_ok-push-in-Fork-2.ensures.items))
    (filling_fork t here low high (reverse c.pop.new.self.items) before c.loop-here.next c.in-Fork.var c.in-Fork.at taken
    is (c.ahead_of-in-Fork-2.ensures.path ∙ c.in_ok-left-in-Fork.ensures.low) (c.ahead_of-in-Fork.ensures.path ∙ c.in_ok-left-in-Fork.ensures.high))
