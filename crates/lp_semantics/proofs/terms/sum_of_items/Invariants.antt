use Rattle.std.proofs.Common.{◌≡◌, ◌≤◌, ◌+◌, ◌*◌, ◌^◌, ◌++◌, take}
use Rattle.std.specs.Prelude.{filter_map, ◌+ℤ◌, unsigned_abs}
use Rattle.bp_theory.specs.Sums.{sum_of}
use Rattle.lp_syntax.specs.TreeIn.{item_in}
use Rattle.lp_semantics.specs.Meaning.{minimised, constant_of}
use Rattle.lp_semantics.specs.Numbered.{raw_item, turned_by}
use Rattle.lp_semantics.proofs.terms.sum_of_items.Given as goal

abbrev pub invariant-loop-item : goal.invariant-loop-item
invariant-loop-item l = record {
  costs : l.objective.costs ≡ l.initial.objective.costs
      ++ filter_map (λ m. raw_item l.names (turned_by l.turned m.0) (item_in l.text m.1)) (take l.item-index l.item-items);
  constant : l.objective.constant ≡ l.initial.objective.constant
      +ℤ sum_of (λ m. minimised (turned_by l.turned m.0) (constant_of (item_in l.text m.1))) (take l.item-index l.item-items);
  small : unsigned_abs l.objective.constant ≤ (l.item-index + 1) * 2 ^ 62;
}
