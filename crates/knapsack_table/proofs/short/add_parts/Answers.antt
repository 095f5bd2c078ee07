use Rattle.std.proofs.Common.{◌≡◌, ◌∙◌, refl, sym, ap, subst, ◌∷◌, [], ◌++◌, ◌+◌, ◌≤◌, ℕ, sum, arith}
use Rattle.std.proofs.Math.Nat.{mul-le-mul_left}
use Rattle.std.specs.Prelude.{unsigned_abs}
use Rattle.knapsack_table.specs.Parts.{AreGrowing}
use Rattle.knapsack_table.specs.Tables.{row_from, IsTried}
use Rattle.knapsack_table.proofs.SplitLaws.{parts_grow, grown_more, sum_more}
use Rattle.knapsack_table.proofs.TableLaws.{tried_start, tried_part, tried_bounded}
use Rattle.knapsack_table.proofs.short.add_parts.Goals as goal

pub loop-units-init : goal.loop-units-init
loop-units-init c =
    let same : c.into_iter-units-iterator.result ≡ c.parts-units-items.result = c.into_iter-units-iterator.ensures.into_iter_gives in
    record {
      len = refl;
      within = omega (arith, ap sum same, c.parts-units-items.ensures.whole);
      growing = subst (AreGrowing 0) (sym same) (parts_grow c.args.item.now.width c.parts-units-items.result c.parts-units-items.ensures.parts);
      tried = tried_start c.args.item.now c.args.top (row_from c.args.cells.now c.args.start) (row_from c.copy_row.new.cells (c.args.start + (c.args.top + 1))) c.copy_row.ensures.row;
      below = c.copy_row.ensures.below;
    }

pub add_part-requires-clause-bounded : goal.add_part-requires-clause-bounded
add_part-requires-clause-bounded c = λ k t.
    omega (
      arith,
      tried_bounded c.args.item.now (sum c.loop-units.yielded) c.args.top _ (row_from c.args.cells.now c.args.start) (row_from c.loop-units.cells (c.args.start + (c.args.top + 1)))
          c.loop-units.invariant.tried c.requires.bounded k t,
      c.requires.cost,
      mul-le-mul_left (unsigned_abs c.args.item.now.cost) (done (sum c.loop-units.yielded) (sum c.loop-units.units-iterator) c.args.item.now.width c.loop-units.invariant.within),
    )
  where
    done : (a b n : ℕ) → a + b ≡ n → a ≤ n
    done a b n e = omega (arith, e)

pub loop-units-preserved : goal.loop-units-preserved
loop-units-preserved c =
    let grown = grown_more c.args.item.now.width (sum c.loop-units.yielded) c.loop-units.units-iterator c.next.new.self c.in-Some.units c.in-Some.ensures.steps
    c.loop-units.invariant.within c.loop-units.invariant.growing in
    let more : sum (c.loop-units.yielded ++ c.in-Some.units ∷ []) ≡ sum c.loop-units.yielded + c.in-Some.units = sum_more c.loop-units.yielded c.in-Some.units in
    record {
      len = c.add_part.ensures.len ∙ c.loop-units.invariant.len;
      within = omega (arith, more, grown.2);
      growing = subst (λ n. AreGrowing n c.next.new.self) (sym more) grown.3;
      tried = subst (λ n. IsTried c.args.item.now n c.args.top (row_from c.args.cells.now c.args.start) (row_from c.add_part.new.cells (c.args.start + (c.args.top + 1)))) (sym more)
          (tried_part c.args.item.now c.args.top (sum c.loop-units.yielded) c.in-Some.units (row_from c.args.cells.now c.args.start)
          (row_from c.loop-units.cells (c.args.start + (c.args.top + 1))) (row_from c.add_part.new.cells (c.args.start + (c.args.top + 1)))
          grown.1 c.add_part.ensures.part c.loop-units.invariant.tried);
      below = λ k l. c.add_part.ensures.below k l ∙ c.loop-units.invariant.below k l;
    }

pub returns-clause-tried : goal.returns-clause-tried
returns-clause-tried c =
    let done : sum c.loop-units.yielded ≡ c.args.item.now.width = omega (arith, c.loop-units.invariant.within, ap sum c.in-None.ensures.steps.0) in
    subst (λ n. IsTried c.args.item.now n c.args.top (row_from c.args.cells.now c.args.start) (row_from c.loop-units.cells (c.args.start + (c.args.top + 1))))
    done c.loop-units.invariant.tried

pub returns-clause-below : goal.returns-clause-below
returns-clause-below c = c.loop-units.invariant.below
