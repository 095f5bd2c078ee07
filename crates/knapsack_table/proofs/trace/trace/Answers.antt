use Rattle.std.proofs.Common.{◌≡◌, ◌∙◌, sym, ap, subst, ◌+◌, ◌-◌, ◌*◌, ◌^◌, ◌<◌, ◌≤◌, ◌++◌, ◌∷◌, ℕ, List, [], pos, length, get_or, set, arith, ⊎_elim}
use Rattle.std.specs.Prelude.{◌<ℤ◌, unsigned_abs}
use Rattle.std.specs.Int.{w64}
use mir.Val.{of_z, to_z}
use Rattle.std.proofs.lemmas.List.{get_or-set_same, get_or-set_other, get_or_append_left, get_or_at}
use Rattle.std.proofs.lemmas.Bool.{cases_eq, cases_lt}
use Rattle.bp_theory.specs.Program.{span_at}
use Rattle.pricing_problem.proofs.Passed.{passed_short}
use Rattle.knapsack_table.specs.declared.items.Item.{Item}
use Rattle.knapsack_table.specs.Loads.{item_of, number_of}
use Rattle.knapsack_table.specs.Tables.{no_way, far, row_from, row_at, Reaches, Follows, worth_size}
use Rattle.knapsack_table.proofs.StepLaws.{length-items_of, get_or-items_of, point_from_places}
use Rattle.knapsack_table.proofs.TableLaws.{rows_at, rows_bounded_at, worth_size-at}
use Rattle.knapsack_table.proofs.PickLaws.{apart}
use Rattle.knapsack_table.proofs.TraceLaws.{traced_start, traced_count, traced_more, traced_end, next_row, row_fits}
use Rattle.knapsack_table.proofs.trace.trace.Goals as goal

pub loop-k-init : goal.loop-k-init
loop-k-init c = record {
  many = c.requires.point;
  here = ap (λ n. n * (c.args.top + 1)) (whole (length c.args.knapsack.now.zone.now));
  below = omega arith;
  way = ([], traced_start c.args.knapsack.now.items.now (row_at c.args.cells.now c.args.top) c.args.weight, λ i l. absurd (omega (arith, l)));
}
  where
    whole : (n : ℕ) → n ≡ n - 0
    whole n = omega arith

pub bounds-knapsack-k : goal.bounds-knapsack-k
bounds-knapsack-k c =
    let many : length c.args.knapsack.now.items.now ≡ length c.args.knapsack.now.zone.now =
    ap length c.requires.items ∙ length-items_of c.args.knapsack.now.coefs.now c.args.knapsack.now.zone.now c.args.knapsack.now.costs.now c.requires.coefs c.requires.costs in
    omega (arith, c.loop-k-test.true, many)

pub units_at-units-requires-clause-here : goal.units_at-units-requires-clause-here
units_at-units-requires-clause-here c =
    let many : length c.args.knapsack.now.items.now ≡ length c.args.knapsack.now.zone.now =
    ap length c.requires.items ∙ length-items_of c.args.knapsack.now.coefs.now c.args.knapsack.now.zone.now c.args.knapsack.now.costs.now c.requires.coefs c.requires.costs in
    let there : c.loop-k.k < length c.args.knapsack.now.items.now = omega (arith, c.loop-k-test.true, many) in
    let here : c.loop-k.here ≡ (length c.args.knapsack.now.items.now - c.loop-k.k) * (c.args.top + 1) =
    c.loop-k.invariant.here ∙ ap (λ n. (n - c.loop-k.k) * (c.args.top + 1)) (sym many) in
    let above : c.loop-k.here - (c.args.top + 1) ≡ (length c.args.knapsack.now.items.now - (c.loop-k.k + 1)) * (c.args.top + 1) =
    ap (λ m. m - (c.args.top + 1)) here ∙ next_row (length c.args.knapsack.now.items.now) c.loop-k.k c.args.top there in
    let low : c.loop-k.left ≤ c.args.top = omega (arith, c.loop-k.invariant.below, c.requires.weight) in
    let room : (length c.args.knapsack.now.items.now + 1) * (c.args.top + 1) ≤ length c.args.cells.now =
    subst (λ n. (n + 1) * (c.args.top + 1) ≤ length c.args.cells.now) (sym many) c.requires.room in
    subst (λ m. m + c.loop-k.left < length c.args.cells.now) (sym here)
    (row_fits (length c.args.knapsack.now.items.now) c.loop-k.k c.args.top c.loop-k.left (length c.args.cells.now) low room)

pub units_at-units-requires-clause-above : goal.units_at-units-requires-clause-above
units_at-units-requires-clause-above c =
    let many : length c.args.knapsack.now.items.now ≡ length c.args.knapsack.now.zone.now =
    ap length c.requires.items ∙ length-items_of c.args.knapsack.now.coefs.now c.args.knapsack.now.zone.now c.args.knapsack.now.costs.now c.requires.coefs c.requires.costs in
    let there : c.loop-k.k < length c.args.knapsack.now.items.now = omega (arith, c.loop-k-test.true, many) in
    let here : c.loop-k.here ≡ (length c.args.knapsack.now.items.now - c.loop-k.k) * (c.args.top + 1) =
    c.loop-k.invariant.here ∙ ap (λ n. (n - c.loop-k.k) * (c.args.top + 1)) (sym many) in
    let above : c.loop-k.here - (c.args.top + 1) ≡ (length c.args.knapsack.now.items.now - (c.loop-k.k + 1)) * (c.args.top + 1) =
    ap (λ m. m - (c.args.top + 1)) here ∙ next_row (length c.args.knapsack.now.items.now) c.loop-k.k c.args.top there in
    let low : c.loop-k.left ≤ c.args.top = omega (arith, c.loop-k.invariant.below, c.requires.weight) in
    let room : (length c.args.knapsack.now.items.now + 1) * (c.args.top + 1) ≤ length c.args.cells.now =
    subst (λ n. (n + 1) * (c.args.top + 1) ≤ length c.args.cells.now) (sym many) c.requires.room in
    subst (λ m. m + c.loop-k.left < length c.args.cells.now) (sym above)
    (row_fits (length c.args.knapsack.now.items.now) (c.loop-k.k + 1) c.args.top c.loop-k.left (length c.args.cells.now) low room)

pub units_at-units-requires-clause-cost : goal.units_at-units-requires-clause-cost
units_at-units-requires-clause-cost c =
    let many : length c.args.knapsack.now.items.now ≡ length c.args.knapsack.now.zone.now =
    ap length c.requires.items ∙ length-items_of c.args.knapsack.now.coefs.now c.args.knapsack.now.zone.now c.args.knapsack.now.costs.now c.requires.coefs c.requires.costs in
    let there : c.loop-k.k < length c.args.knapsack.now.items.now = omega (arith, c.loop-k-test.true, many) in
    omega (arith, c.requires.cost, worth_size-at c.args.knapsack.now.items.now c.loop-k.k (record { weight = 0; width = 0; cost = pos 0 }) there)

pub units_at-units-requires-clause-bounded : goal.units_at-units-requires-clause-bounded
units_at-units-requires-clause-bounded c = λ w t.
    let many : length c.args.knapsack.now.items.now ≡ length c.args.knapsack.now.zone.now =
    ap length c.requires.items ∙ length-items_of c.args.knapsack.now.coefs.now c.args.knapsack.now.zone.now c.args.knapsack.now.costs.now c.requires.coefs c.requires.costs in
    let there : c.loop-k.k < length c.args.knapsack.now.items.now = omega (arith, c.loop-k-test.true, many) in
    let here : c.loop-k.here ≡ (length c.args.knapsack.now.items.now - c.loop-k.k) * (c.args.top + 1) =
    c.loop-k.invariant.here ∙ ap (λ n. (n - c.loop-k.k) * (c.args.top + 1)) (sym many) in
    let above : c.loop-k.here - (c.args.top + 1) ≡ (length c.args.knapsack.now.items.now - (c.loop-k.k + 1)) * (c.args.top + 1) =
    ap (λ m. m - (c.args.top + 1)) here ∙ next_row (length c.args.knapsack.now.items.now) c.loop-k.k c.args.top there in
    let low : c.loop-k.left ≤ c.args.top = omega (arith, c.loop-k.invariant.below, c.requires.weight) in
    subst (λ m. unsigned_abs (row_from c.args.cells.now m w) ≤ 2 ^ 126 + 2 ^ 124) (sym above)
    (omega (
      arith,
      rows_bounded_at far c.args.knapsack.now.items.now c.args.top (row_at c.args.cells.now c.args.top) c.requires.rows (c.loop-k.k + 1) (omega (arith, there)) w (omega (arith, t, low)),
      c.requires.cost,
    ))

pub units_at-units-requires-clause-some : goal.units_at-units-requires-clause-some
units_at-units-requires-clause-some c =
    let many : length c.args.knapsack.now.items.now ≡ length c.args.knapsack.now.zone.now =
    ap length c.requires.items ∙ length-items_of c.args.knapsack.now.coefs.now c.args.knapsack.now.zone.now c.args.knapsack.now.costs.now c.requires.coefs c.requires.costs in
    let there : c.loop-k.k < length c.args.knapsack.now.items.now = omega (arith, c.loop-k-test.true, many) in
    let here : c.loop-k.here ≡ (length c.args.knapsack.now.items.now - c.loop-k.k) * (c.args.top + 1) =
    c.loop-k.invariant.here ∙ ap (λ n. (n - c.loop-k.k) * (c.args.top + 1)) (sym many) in
    let above : c.loop-k.here - (c.args.top + 1) ≡ (length c.args.knapsack.now.items.now - (c.loop-k.k + 1)) * (c.args.top + 1) =
    ap (λ m. m - (c.args.top + 1)) here ∙ next_row (length c.args.knapsack.now.items.now) c.loop-k.k c.args.top there in
    let low : c.loop-k.left ≤ c.args.top = omega (arith, c.loop-k.invariant.below, c.requires.weight) in
    subst (λ m. (u : ℕ) × (u ≤ (get_or c.args.knapsack.now.items.now c.loop-k.k (record { weight = 0; width = 0; cost = pos 0 })).width)
    × Follows (get_or c.args.knapsack.now.items.now c.loop-k.k (record { weight = 0; width = 0; cost = pos 0 })) (row_from c.args.cells.now m) c.loop-k.left (row_from c.args.cells.now c.loop-k.here c.loop-k.left) u) (sym above)
    (subst (λ m. (u : ℕ) × (u ≤ (get_or c.args.knapsack.now.items.now c.loop-k.k (record { weight = 0; width = 0; cost = pos 0 })).width)
    × Follows (get_or c.args.knapsack.now.items.now c.loop-k.k (record { weight = 0; width = 0; cost = pos 0 })) (row_at c.args.cells.now c.args.top (length c.args.knapsack.now.items.now - (c.loop-k.k + 1))) c.loop-k.left
    (row_from c.args.cells.now m c.loop-k.left) u) (sym here)
    ((rows_at far c.args.knapsack.now.items.now c.args.top (row_at c.args.cells.now c.args.top) c.requires.rows c.loop-k.k (record { weight = 0; width = 0; cost = pos 0 }) there).reached c.loop-k.left low))

pub number_with-requires-clause-fits : goal.number_with-requires-clause-fits
number_with-requires-clause-fits c =
    let item : get_or c.args.knapsack.now.items.now c.loop-k.k (record { weight = 0; width = 0; cost = pos 0 })
    ≡ item_of (get_or c.args.knapsack.now.coefs.now c.loop-k.k (pos 0)) (span_at c.args.knapsack.now.zone.now c.loop-k.k) (get_or c.args.knapsack.now.costs.now c.loop-k.k (pos 0)) =
    ap (λ (is : List Item). get_or is c.loop-k.k (record { weight = 0; width = 0; cost = pos 0 })) c.requires.items
    ∙ get_or-items_of c.args.knapsack.now.coefs.now c.args.knapsack.now.zone.now c.args.knapsack.now.costs.now c.loop-k.k (record { weight = 0; width = 0; cost = pos 0 }) c.requires.coefs c.requires.costs c.loop-k-test.true in
    subst (λ (i : Item). c.units_at-units.result ≤ i.width) item c.units_at-units.ensures.fits

pub bounds-knapsack-k-in-loop-k-4 : goal.bounds-knapsack-k-in-loop-k-4
bounds-knapsack-k-in-loop-k-4 c =
    let many : length c.args.knapsack.now.items.now ≡ length c.args.knapsack.now.zone.now =
    ap length c.requires.items ∙ length-items_of c.args.knapsack.now.coefs.now c.args.knapsack.now.zone.now c.args.knapsack.now.costs.now c.requires.coefs c.requires.costs in
    omega (arith, c.loop-k-test.true, many)

pub loop-k-preserved : goal.loop-k-preserved
loop-k-preserved c =
    let many : length c.args.knapsack.now.items.now ≡ length c.args.knapsack.now.zone.now =
    ap length c.requires.items ∙ length-items_of c.args.knapsack.now.coefs.now c.args.knapsack.now.zone.now c.args.knapsack.now.costs.now c.requires.coefs c.requires.costs in
    let there : c.loop-k.k < length c.args.knapsack.now.items.now = omega (arith, c.loop-k-test.true, many) in
    let here : c.loop-k.here ≡ (length c.args.knapsack.now.items.now - c.loop-k.k) * (c.args.top + 1) =
    c.loop-k.invariant.here ∙ ap (λ n. (n - c.loop-k.k) * (c.args.top + 1)) (sym many) in
    let above : c.loop-k.here - (c.args.top + 1) ≡ (length c.args.knapsack.now.items.now - (c.loop-k.k + 1)) * (c.args.top + 1) =
    ap (λ m. m - (c.args.top + 1)) here ∙ next_row (length c.args.knapsack.now.items.now) c.loop-k.k c.args.top there in
    let follows : Follows (get_or c.args.knapsack.now.items.now c.loop-k.k (record { weight = 0; width = 0; cost = pos 0 })) (row_at c.args.cells.now c.args.top (length c.args.knapsack.now.items.now - (c.loop-k.k + 1))) c.loop-k.left
    (row_at c.args.cells.now c.args.top (length c.args.knapsack.now.items.now - c.loop-k.k) c.loop-k.left) c.units_at-units.result =
    subst (λ m. Follows (get_or c.args.knapsack.now.items.now c.loop-k.k (record { weight = 0; width = 0; cost = pos 0 })) (row_at c.args.cells.now c.args.top (length c.args.knapsack.now.items.now - (c.loop-k.k + 1))) c.loop-k.left
    (row_from c.args.cells.now m c.loop-k.left) c.units_at-units.result) here
    (subst (λ m. Follows (get_or c.args.knapsack.now.items.now c.loop-k.k (record { weight = 0; width = 0; cost = pos 0 })) (row_from c.args.cells.now m) c.loop-k.left
    (row_from c.args.cells.now c.loop-k.here c.loop-k.left) c.units_at-units.result) above c.units_at-units.ensures.follows) in
    let count : length c.loop-k.invariant.way.0 ≡ c.loop-k.k =
    traced_count c.args.knapsack.now.items.now (row_at c.args.cells.now c.args.top) c.args.weight c.loop-k.k c.loop-k.left c.loop-k.invariant.way.0 (omega (arith, there)) c.loop-k.invariant.way.1 in
    record {
      many = omega (arith, c.loop-k.invariant.many);
      here = ap (λ m. m - (c.args.top + 1)) c.loop-k.invariant.here ∙ next_row (length c.args.knapsack.now.zone.now) c.loop-k.k c.args.top c.loop-k-test.true;
      below = omega (arith, c.loop-k.invariant.below);
      way = (
        c.loop-k.invariant.way.0 ++ c.units_at-units.result ∷ [],
        traced_more c.args.knapsack.now.items.now (row_at c.args.cells.now c.args.top) c.args.weight c.loop-k.k c.loop-k.left c.units_at-units.result c.loop-k.invariant.way.0 (record { weight = 0; width = 0; cost = pos 0 }) there
            c.units_at-units.ensures.fits follows c.loop-k.invariant.way.1,
        λ i l. ⊎_elim
            (λ (e : i ≡ c.loop-k.k).
            ap (λ j. get_or (set c.loop-k.point.items c.loop-k.k (to_z w64 (of_z w64 c.number_with.result))) j (pos 0)) e
            ∙ get_or-set_same c.loop-k.point.items c.loop-k.k (to_z w64 (of_z w64 c.number_with.result)) (pos 0) (omega (arith, c.loop-k-test.true, c.loop-k.invariant.many, c.loop-k.point.ok.0))
            ∙ passed_short c.number_with.result c.number_with.type_inv
            ∙ c.number_with.ensures
            ∙ ap (number_of (get_or c.args.knapsack.now.coefs.now c.loop-k.k (pos 0)) (span_at c.args.knapsack.now.zone.now c.loop-k.k) (get_or c.args.knapsack.now.costs.now c.loop-k.k (pos 0)))
            (sym (get_or_at c.loop-k.invariant.way.0 c.units_at-units.result [] 0 c.loop-k.k count))
            ∙ ap (λ j. number_of (get_or c.args.knapsack.now.coefs.now j (pos 0)) (span_at c.args.knapsack.now.zone.now j) (get_or c.args.knapsack.now.costs.now j (pos 0))
            (get_or (c.loop-k.invariant.way.0 ++ c.units_at-units.result ∷ []) j 0)) (sym e))
            (λ (other : i ≡ c.loop-k.k → ⊥).
            get_or-set_other c.loop-k.point.items c.loop-k.k i (to_z w64 (of_z w64 c.number_with.result)) (pos 0) other
            ∙ c.loop-k.invariant.way.2 i (below i c.loop-k.k l other)
            ∙ ap (number_of (get_or c.args.knapsack.now.coefs.now i (pos 0)) (span_at c.args.knapsack.now.zone.now i) (get_or c.args.knapsack.now.costs.now i (pos 0)))
            (sym (get_or_append_left c.loop-k.invariant.way.0 (c.units_at-units.result ∷ []) 0 i (subst (λ n. i < n) (sym count) (below i c.loop-k.k l other)))))
            (cases_eq i c.loop-k.k),
      );
    }
  where
    below : (i k : ℕ) → i < k + 1 → (i ≡ k → ⊥) → i < k
    below i k l n = ⊎_elim (λ less. less) (λ more. absurd (n (omega (arith, l, more)))) (cases_lt i k)

pub returns : goal.returns
returns c =
    let many : length c.args.knapsack.now.items.now ≡ length c.args.knapsack.now.zone.now =
    ap length c.requires.items ∙ length-items_of c.args.knapsack.now.coefs.now c.args.knapsack.now.zone.now c.args.knapsack.now.costs.now c.requires.coefs c.requires.costs in
    let end : c.loop-k.k ≡ length c.args.knapsack.now.items.now = omega (arith, many, c.loop-k-test.false, c.loop-k.auto.k-end) in
    let count : length c.loop-k.invariant.way.0 ≡ c.loop-k.k =
    traced_count c.args.knapsack.now.items.now (row_at c.args.cells.now c.args.top) c.args.weight c.loop-k.k c.loop-k.left c.loop-k.invariant.way.0 (omega (arith, end)) c.loop-k.invariant.way.1 in (
      c.loop-k.invariant.way.0,
      subst (λ n. Reaches c.args.knapsack.now.items.now c.loop-k.invariant.way.0 c.args.weight (row_at c.args.cells.now c.args.top n c.args.weight)) many
          (traced_end no_way far c.args.knapsack.now.items.now c.args.top (row_at c.args.cells.now c.args.top) c.args.weight c.loop-k.k c.loop-k.left c.loop-k.invariant.way.0
          c.requires.rows (apart (worth_size c.args.knapsack.now.items.now) c.requires.cost) c.requires.weight end
          (subst (λ n. row_at c.args.cells.now c.args.top n c.args.weight <ℤ no_way) (sym many) c.requires.way) c.loop-k.invariant.way.1),
      point_from_places c.loop-k.point.items c.args.knapsack.now.coefs.now c.args.knapsack.now.zone.now c.args.knapsack.now.costs.now c.loop-k.invariant.way.0
          c.requires.coefs c.requires.costs (count ∙ end ∙ many)
          (omega (arith, c.loop-k.invariant.many, c.loop-k.point.ok.0))
          (λ k l. c.loop-k.invariant.way.2 k (omega (arith, l, end, many))),
    )
