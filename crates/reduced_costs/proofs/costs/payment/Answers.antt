use Rattle.std.proofs.Common.{◌∙◌, ℕ, arith, to_z}
use Rattle.std.specs.Prelude.{ℤ, ◌*ℤ◌}
use Rattle.std.specs.Int.{w128}
use Rattle.std.proofs.lemmas.Int.{ints}
use Rattle.bp_theory.specs.Sums.{sum_at}
use Rattle.reduced_costs.proofs.MultLemmas.{by_multipliers, payment_within, payment_step, all_taken}
use Rattle.reduced_costs.proofs.costs.payment.Goals as goal

pub plus-sum-requires : goal.plus-sum-requires
plus-sum-requires c =
    let h = payment_step c.args.mults.now c.args.coefs.now c.loop-coef.coef-index (to_z w128 c.loop-coef.sum-bits) c.coef_product-more.result
    c.loop-coef-test.true c.loop-coef.invariant c.coef_product-more.ensures c.requires.ascend c.requires.sizes c.requires.few c.requires.coefs in
    omega (arith, ints, h.1)

pub loop-coef-preserved : goal.loop-coef-preserved
loop-coef-preserved c =
    let h = payment_step c.args.mults.now c.args.coefs.now c.loop-coef.coef-index (to_z w128 c.loop-coef.sum-bits) c.coef_product-more.result
    c.loop-coef-test.true c.loop-coef.invariant c.coef_product-more.ensures c.requires.ascend c.requires.sizes c.requires.few c.requires.coefs in
    omega (arith, ints, h.0)

pub returns-clause-value : goal.returns-clause-value
returns-clause-value c =
    all_taken (λ (e : ℕ × ℤ). sum_at (λ (m : ℕ × ℤ). m.0) (λ m. m.1) c.args.mults.now e.0 *ℤ e.1) c.args.coefs.now c.loop-coef.coef-index _ (omega arith) c.loop-coef.invariant
    ∙ by_multipliers c.args.mults.now c.args.coefs.now

pub returns-clause-size : goal.returns-clause-size
returns-clause-size c =
    omega (
      arith,
      ints,
      c.loop-coef.invariant,
      payment_within c.args.mults.now c.args.coefs.now c.loop-coef.coef-index c.requires.ascend c.requires.sizes c.requires.few c.requires.coefs,
    )
