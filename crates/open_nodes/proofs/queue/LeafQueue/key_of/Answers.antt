use Rattle.std.proofs.Common.{◌≡◌, ◌∙◌, ap, subst, sym, List, ℤ, ℕ, Some}
use Rattle.std.specs.List.{AllByRecursion}
use Rattle.std.specs.BTreeMap.Range.{entries_between}
use Rattle.std.specs.declared.ops.Bound.TheVariants.{Included, Unbounded}
use Rattle.search_laws.specs.declared.Side.{Side}
use Rattle.open_nodes.specs.Queues.{Entries, key_cmp, queue_of}
use Rattle.open_nodes.proofs.Keys.{starts_from_bound, each_is_found}
use Rattle.open_nodes.proofs.queue.LeafQueue.key_of.Goals as goal

pub loop-key-init : goal.loop-key-init
loop-key-init c = (
  starts_from_bound c.args.self.now c.into_iter-key-iterator.result c.key_at-start.result c.args.bound.now c.args.path.now
      c.key_at-start.ensures
      (c.into_iter-key-iterator.ensures.into_iter_gives ∙ c.range-key-items.ensures.between tt
      ∙ ap (λ (es : Entries). entries_between key_cmp (Included c.key_at-start.result) Unbounded es) c.self.view_is) c.requires,
  subst (λ (es : Entries). AllByRecursion (λ (e : (ℤ × ℕ) × List Side). queue_of es e.0.0 e.0.1 ≡ Some e.1) c.into_iter-key-iterator.result) c.self.view_is
      (subst (AllByRecursion (λ (e : (ℤ × ℕ) × List Side). queue_of c.self.inside.entries.entries e.0.0 e.0.1 ≡ Some e.1))
      (sym c.into_iter-key-iterator.ensures.into_iter_gives)
      (each_is_found c.self.inside.entries (Included c.key_at-start.result) Unbounded c.range-key-items.result ((c.range-key-items.ensures.in_range tt).0))),
)
