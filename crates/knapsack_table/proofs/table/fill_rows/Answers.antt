use Rattle.std.proofs.Common.{◌≡◌, ◌∙◌, sym, ap, subst, ◌+◌, ◌-◌, ◌*◌, ◌^◌, ◌<◌, ◌≤◌, ℕ, suc, List, ◌∷◌, length, drop, drop-cons, get_or, arith, pos}
use Rattle.std.specs.Prelude.{unsigned_abs}
use Rattle.knapsack_table.specs.declared.items.Item.{Item}
use Rattle.knapsack_table.specs.Tables.{far, row_from, row_at, AreRows}
use Rattle.knapsack_table.proofs.TableLaws.{rows_bounded, rows_more, worth_size-drop, worth_size-at}
use Rattle.knapsack_table.proofs.table.fill_rows.Goals as goal

pub add_item-requires-clause-cost : goal.add_item-requires-clause-cost
add_item-requires-clause-cost c =
    omega (arith, c.requires.cost, worth_size-at c.args.items.now (c.loop-k.k - 1) (record { weight = 0; width = 0; cost = pos 0 }) (omega (arith, c.loop-k-test.true, c.loop-k.auto.k)))

pub add_item-requires-clause-bounded : goal.add_item-requires-clause-bounded
add_item-requires-clause-bounded c = λ w t.
    subst (λ n. unsigned_abs (row_from c.loop-k.cells n w) ≤ 2 ^ 126 + 2 ^ 124) (sym c.loop-k.invariant.start)
    (omega (
      arith,
      rows_bounded far (drop c.loop-k.k c.args.items.now) c.args.top (row_at c.loop-k.cells c.args.top) c.loop-k.invariant.rows w t,
      c.requires.cost,
      worth_size-drop c.args.items.now c.loop-k.k,
    ))

pub loop-k-preserved : goal.loop-k-preserved
loop-k-preserved c =
    let there : c.loop-k.k - 1 < length c.args.items.now = omega (arith, c.loop-k-test.true, c.loop-k.auto.k) in
    let back : suc (c.loop-k.k - 1) ≡ c.loop-k.k = omega (arith, c.loop-k-test.true) in
    let none : Item = record { weight = 0; width = 0; cost = pos 0 } in
    let front : drop (c.loop-k.k - 1) c.args.items.now ≡ get_or c.args.items.now (c.loop-k.k - 1) none ∷ drop c.loop-k.k c.args.items.now =
    drop-cons c.args.items.now (c.loop-k.k - 1) none there ∙ ap (λ n. get_or c.args.items.now (c.loop-k.k - 1) none ∷ drop n c.args.items.now) back in
    record {
      len = c.add_item.ensures.len ∙ c.loop-k.invariant.len;
      start = ap (λ n. n + (c.args.top + 1)) c.loop-k.invariant.start ∙ next (length (drop c.loop-k.k c.args.items.now)) c.args.top
          ∙ ap (λ (xs : List Item). length xs * (c.args.top + 1)) (sym front);
      rows = subst (λ (xs : List Item). AreRows far xs c.args.top (row_at c.add_item.new.cells c.args.top)) (sym front)
          (rows_more far (drop c.loop-k.k c.args.items.now) (get_or c.args.items.now (c.loop-k.k - 1) none) c.args.top c.loop-k.start c.loop-k.cells c.add_item.new.cells
          c.loop-k.invariant.start c.loop-k.invariant.rows c.add_item.ensures.tried c.add_item.ensures.below);
    }
  where
    next : (n t : ℕ) → n * (t + 1) + (t + 1) ≡ suc n * (t + 1)
    next n t = omega arith
