use Rattle.std.proofs.Common.{◌≡◌, ◌+◌, ◌≤◌, ℕ, sym, ap, subst, arith, List, length, ⊎_elim}
use Rattle.std.proofs.lemmas.Bool.{cases_lt}
use Rattle.layer_graph.specs.Graphs.{arc_at}
use Rattle.state_graph.specs.Merges.{IsSettled, IsMergedTo}
use Rattle.state_graph.specs.declared.fans.Fan.{Fan}
use Rattle.state_graph.proofs.MergeLaws.{merged_more}
use Rattle.state_graph.proofs.merge.merge_layer.Goals as goal

past : (i a b : ℕ) → i ≤ a → (a ≡ i → ⊥) → a ≤ b → i + 1 ≤ b
past i a b least other le = ⊎_elim (λ less. omega (arith, less, le)) (λ high. absurd (other (omega (arith, least, high)))) (cases_lt i a)

pub loop-from-preserved : goal.loop-from-preserved
loop-from-preserved c =
    let list : c.copy_node.new.fans.list.items ≡ c.loop-from.fans.list.items = c.copy_node.ensures.list in
    let same : length c.copy_node.new.fans.list.items ≡ length c.loop-from.fans.list.items = ap (λ (xs : List Fan). length xs) list in
    let start : c.copy_node.new.fans.start ≡ length c.loop-from.fans.arcs.items = omega (arith, c.copy_node.ensures.start, c.loop-from.invariant.start, c.loop-from.fans.arcs.ok.0) in
    let end : c.settle.new.self.start ≡ length c.settle.new.self.arcs.items = omega (arith, c.in_ok-settle.ensures.start, c.settle.new.self.arcs.ok.0) in
    let settled : IsSettled c.copy_node.new.fans.arcs.items (length c.loop-from.fans.arcs.items) (length c.loop-from.fans.list.items) c.settle.new.self.arcs.items c.in_ok-settle.field-0 =
    subst (λ n. IsSettled c.copy_node.new.fans.arcs.items (length c.loop-from.fans.arcs.items) n c.settle.new.self.arcs.items c.in_ok-settle.field-0) same
    (subst (λ n. IsSettled c.copy_node.new.fans.arcs.items n (length c.copy_node.new.fans.list.items) c.settle.new.self.arcs.items c.in_ok-settle.field-0) start c.in_ok-settle.ensures.settled) in
    record {
      start = c.in_ok-settle.ensures.start;
      ahead = λ ordered j from there. past (c.loop-from.from) (arc_at c.args.arcs.now c.in_ok-place.place).from (arc_at c.args.arcs.now j).from
          (c.loop-from.invariant.ahead ordered c.in_ok-place.place c.in_ok-place.ensures.copied.rises (omega (arith, from, there)))
          (c.in_ok-place.ensures.stops (omega (arith, from, there)))
          (ordered c.in_ok-place.place j from there);
      merged = subst (λ (ns : List ℕ). IsMergedTo c.args.arcs.now c.args.behind.now c.in_ok-place.place (c.loop-from.from + 1) (length c.settle.new.self.list.items) c.settle.new.self.arcs.items ns)
          (sym c.in_ok-push.ensures.items)
          (merged_more c.args.arcs.now c.args.behind.now c.loop-from.place c.in_ok-place.place c.loop-from.from (length c.loop-from.fans.list.items) (length c.settle.new.self.list.items)
          c.loop-from.fans.arcs.items c.copy_node.new.fans.arcs.items c.settle.new.self.arcs.items c.loop-from.nodes.items c.in_ok-settle.field-0
          c.in_ok-place.ensures.copied settled c.in_ok-settle.ensures.node
          (omega (arith, c.in_ok-settle.ensures.grows, same)) (omega (arith, c.in_ok-settle.ensures.count, same))
          (omega (arith, c.loop-from.invariant.merged.bounded, c.loop-from-test.true, c.count_of-count.ensures.few))
          (λ k l. c.settle.new.self.parted.below k (omega (arith, l, end)))
          c.loop-from.invariant.merged);
    }

pub returns-then-place-arcs-clause-none : goal.returns-then-place-arcs-clause-none
returns-then-place-arcs-clause-none c = λ ordered.
    omega (
      arith,
      c.loop-from.invariant.ahead ordered c.loop-from.place (omega arith) c.if-place-arcs.true,
      c.count_of-count.ensures.above ordered c.loop-from.place c.if-place-arcs.true,
      c.loop-from-test.false,
    )
