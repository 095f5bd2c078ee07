use Rattle.std.proofs.Common.{◌≡◌, ◌∙◌, subst, sym, refl, List, ◌∷◌, ℤ, ℕ, Some}
use Rattle.std.specs.List.{AllByRecursion}
use Rattle.std.specs.List.Sorted.{IsStrictlySortedBy}
use Rattle.std.specs.Map.{keys_of}
use Rattle.std.specs.declared.ops.Bound.TheVariants.{Unbounded}
use Rattle.search_laws.specs.declared.Side.{Side}
use Rattle.open_nodes.specs.Queues.{Entries, key_cmp, queue_of}
use Rattle.open_nodes.proofs.Keys.{each_is_found}
use Rattle.open_nodes.proofs.Below.{AreToCome, all_between, still_to_come, first_met, rest_in_order}
use Rattle.open_nodes.proofs.queue.LeafQueue.first_below.Goals as goal

pub loop-key-init : goal.loop-key-init
loop-key-init c =
    let whole : c.into_iter-key-iterator.result ≡ c.args.self.now =
    c.into_iter-key-iterator.ensures.into_iter_gives ∙ c.range-key-items.ensures.between tt
    ∙ all_between c.self.inside.entries.entries ∙ c.self.view_is in (
      subst (λ (es : Entries). AllByRecursion (λ (e : (ℤ × ℕ) × List Side). queue_of es e.0.0 e.0.1 ≡ Some e.1) c.into_iter-key-iterator.result) c.self.view_is
          (subst (AllByRecursion (λ (e : (ℤ × ℕ) × List Side). queue_of c.self.inside.entries.entries e.0.0 e.0.1 ≡ Some e.1))
          (sym c.into_iter-key-iterator.ensures.into_iter_gives)
          (each_is_found c.self.inside.entries Unbounded Unbounded c.range-key-items.result ((c.range-key-items.ensures.in_range tt).0))),
      subst (λ (es : Entries). AreToCome c.args.self.now es c.args.above.now) (sym whole) (λ z n path found below. found),
      subst (λ (es : Entries). IsStrictlySortedBy key_cmp (keys_of es)) (sym (whole ∙ sym c.self.view_is)) c.range-key-items.ensures.ordered,
    )

pub returns-then-lies_below-clause-some : goal.returns-then-lies_below-clause-some
returns-then-lies_below-clause-some c =
    let step : c.loop-key.key-iterator ≡ (c.in-Some.key.now, c.in-Some.path.now) ∷ c.next.new.self = c.in-Some.ensures.steps in
    let kept = subst (λ (es : Entries). AllByRecursion (λ (e : (ℤ × ℕ) × List Side). queue_of c.args.self.now e.0.0 e.0.1 ≡ Some e.1) es) step c.loop-key.invariant.0 in
    first_met c.args.self.now (c.in-Some.key.now, c.in-Some.path.now) c.next.new.self c.args.above.now c.in-Some.path.now kept.0
    (subst (λ (es : Entries). AreToCome c.args.self.now es c.args.above.now) step c.loop-key.invariant.1)
    (subst (λ (es : Entries). IsStrictlySortedBy key_cmp (keys_of es)) step c.loop-key.invariant.2)
    (c.lies_below.ensures.0 c.if-lies_below.true)
    refl

pub loop-key-preserved : goal.loop-key-preserved
loop-key-preserved c =
    let step : c.loop-key.key-iterator ≡ (c.in-Some.key.now, c.in-Some.path.now) ∷ c.next.new.self = c.in-Some.ensures.steps in
    let kept = subst (λ (es : Entries). AllByRecursion (λ (e : (ℤ × ℕ) × List Side). queue_of c.args.self.now e.0.0 e.0.1 ≡ Some e.1) es) step c.loop-key.invariant.0 in (
      kept.1,
      still_to_come c.args.self.now (c.in-Some.key.now, c.in-Some.path.now) c.next.new.self c.args.above.now
          (subst (λ (es : Entries). AreToCome c.args.self.now es c.args.above.now) step c.loop-key.invariant.1)
          (λ below. let t = c.lies_below.ensures.1 below in absurd (let f = c.if-lies_below.false in cc)),
      rest_in_order (c.in-Some.key.now, c.in-Some.path.now) c.next.new.self
          (subst (λ (es : Entries). IsStrictlySortedBy key_cmp (keys_of es)) step c.loop-key.invariant.2),
    )
