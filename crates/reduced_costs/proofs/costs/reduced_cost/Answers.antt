use Rattle.std.proofs.Common.{◌≡◌, ◌∙◌, ◌^◌, ◌<◌, ◌≤◌, ℕ, List, [], length, get_or, All, arith, to_z, of_z, ap, sym, subst}
use Rattle.std.specs.Prelude.{ℤ, pos, unsigned_abs, ◌*ℤ◌}
use Rattle.std.specs.Int.{w128}
use Rattle.std.proofs.lemmas.Int.{ints}
use Rattle.bp_theory.specs.Sums.{sum_of, sum_at}
use Rattle.bp_theory.specs.Blocking.{Copy}
use Rattle.reduced_costs.proofs.Steps.{reduced_fits, reduced_is, cost_at}
use Rattle.reduced_costs.proofs.costs.reduced_cost.Goals as goal

none : Copy
none = record { var = 0; cost = pos 0; coefs = [] }

pub payment-paid-requires-clause-few : goal.payment-paid-requires-clause-few
payment-paid-requires-clause-few c =
    subst (λ (xs : List (ℕ × ℤ)). length xs ≤ 1048832) (sym (c.master.ensures none)) (c.requires.copies c.args.place none c.requires.there).few

pub payment-paid-requires-clause-coefs : goal.payment-paid-requires-clause-coefs
payment-paid-requires-clause-coefs c =
    subst (λ (xs : List (ℕ × ℤ)). All (λ e. unsigned_abs e.1 < 2 ^ 62) xs) (sym (c.master.ensures none)) (c.requires.copies c.args.place none c.requires.there).coefs

pub minus-requires : goal.minus-requires
minus-requires c =
    let cost : ℤ = to_z w128 (of_z w128 c.scaled-cost.result) in
    let paid : ℤ = to_z w128 (of_z w128 c.payment-paid.result) in
    let same : cost ≡ c.scaled-cost.result = omega (arith, ints) in
    let also : paid ≡ c.payment-paid.result = omega (arith, ints) in
    let number : ℤ = get_or c.costs.result.now c.args.place (pos 0) in
    let size = cost_at c.args.block.now.block.copies c.args.place c.costs.result.now c.requires.there c.costs.ensures c.requires.copies in
    let h = reduced_fits c.args.proof.now.scale number cost paid (omega (arith, c.requires.proof.scale)) (same ∙ c.scaled-cost.ensures) size
    (omega (arith, ints, also, c.payment-paid.ensures.size)) in
    omega (arith, ints, h)

pub returns : goal.returns
returns c =
    let cost : ℤ = to_z w128 (of_z w128 c.scaled-cost.result) in
    let paid : ℤ = to_z w128 (of_z w128 c.payment-paid.result) in
    let same : cost ≡ c.scaled-cost.result = omega (arith, ints) in
    let also : paid ≡ c.payment-paid.result = omega (arith, ints) in
    let out : to_z w128 (of_z w128 c.minus.result) ≡ c.minus.result = omega (arith, ints) in
    let value = c.payment-paid.ensures.value in
    reduced_is c.args.proof.now c.args.block.now.block.copies c.args.place c.costs.result.now c.master.result.now cost paid _ c.requires.there
    c.costs.ensures c.master.ensures (same ∙ c.scaled-cost.ensures)
    (also ∙ value ∙ ap (λ (ms : List (ℕ × ℤ)). sum_of (λ (m : ℕ × ℤ). m.1 *ℤ sum_at (λ (e : ℕ × ℤ). e.0) (λ e. e.1) c.master.result.now m.0) ms) c.as_slice.ensures)
    (out ∙ c.minus.ensures)
