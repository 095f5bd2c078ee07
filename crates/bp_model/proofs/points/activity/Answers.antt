-- One more term keeps the sum so far within what the terms allow.
use Rattle.std.proofs.Common.{◌≡◌, ◌+◌, ◌<◌, ◌^◌, ℕ, List, length, get_or, take, arith, to_z}
use Rattle.std.specs.Prelude.{ℤ, pos, ◌+ℤ◌, ◌*ℤ◌, unsigned_abs, sum_by}
use Rattle.std.specs.Int.{w128}
use Rattle.std.proofs.lemmas.Int.{ints}
use Rattle.bp_theory.specs.Program.{value_at, activity}
use Rattle.bp_theory.specs.declared.Term.{Term}
use Rattle.bp_theory.proofs.SumLaws.{sum_of_more, sum_of_so_far_within}
use Rattle.bp_model.proofs.points.activity.Goals as goal

-- one more term keeps the sum so far within what the terms allow
one_more : (terms : List Term) (x : List ℤ) (i : ℕ) (d : Term) (sum more : ℤ) → i < length terms
    → sum ≡ activity (take i terms) x → more ≡ (get_or terms i d).coef *ℤ value_at x (get_or terms i d).var
    → sum_by (λ t. unsigned_abs (t.coef *ℤ value_at x t.var)) terms < 2 ^ 62
    → (sum +ℤ more ≡ activity (take (i + 1) terms) x) × (unsigned_abs (sum +ℤ more) < 2 ^ 62)
one_more terms x i d sum more l so_far next small =
    let f : Term → ℤ = λ t. t.coef *ℤ value_at x t.var in
    let step : sum +ℤ more ≡ activity (take (i + 1) terms) x = omega (arith, ints, sum_of_more f terms i d l, so_far, next) in
    (step, omega (arith, ints, step, sum_of_so_far_within f terms (i + 1), small))

pub plus-sum-requires : goal.plus-sum-requires
plus-sum-requires c =
    let h = one_more c.args.terms.now c.args.point.now c.loop-term.term-index (record { var = 0; coef = pos 0 }) (to_z w128 c.loop-term.sum-bits) c.product-more.result
    c.loop-term-test.true c.loop-term.invariant c.product-more.ensures c.requires.small in
    omega (arith, ints, h.1)

pub loop-term-preserved : goal.loop-term-preserved
loop-term-preserved c =
    let h = one_more c.args.terms.now c.args.point.now c.loop-term.term-index (record { var = 0; coef = pos 0 }) (to_z w128 c.loop-term.sum-bits) c.product-more.result
    c.loop-term-test.true c.loop-term.invariant c.product-more.ensures c.requires.small in
    omega (arith, ints, h.0)
