-- One coefficient more, times the number.
use Rattle.std.proofs.Common.{◌≡◌, ap, ◌∙◌, ℕ, pos, List, get_or, to_z, of_z}
use Rattle.std.specs.Prelude.{ℤ, ◌+ℤ◌, ◌*ℤ◌}
use Rattle.std.specs.Int.{w128, int_wrap}
use Rattle.std.specs.Ordering.{nat_cmp}
use Rattle.std.specs.BTreeMap.{get}
use Rattle.std.proofs.lemmas.List.{take_all}
use Rattle.bp_theory.specs.Sums.{sum_at}
use Rattle.col_pool.proofs.PoolLemmas.{passed, scaled_more}
use Rattle.col_pool.proofs.activities.add_scaled.Goals as goal

pub loop-coef-preserved : goal.loop-coef-preserved
loop-coef-preserved c =
    let coefs = c.args.coefs.now in
    let i = c.loop-coef.coef-index in
    let e : ℕ × ℤ = get_or coefs i (0, pos 0) in
    let number = c.args.number.now in
    let had = c.sum_in-had.result in
    let value : to_z w128 (of_z w128 c.plus.result) ≡ int_wrap w128 (had +ℤ e.1 *ℤ number) =
    passed c.plus.result c.plus.type_inv ∙ c.plus.ensures
    ∙ ap (λ z. int_wrap w128 (z +ℤ to_z w128 (of_z w128 c.product-more.result))) (passed had c.sum_in-had.type_inv)
    ∙ ap (λ z. int_wrap w128 (had +ℤ z)) (passed c.product-more.result c.product-more.type_inv ∙ c.product-more.ensures) in
    record {
      sums = scaled_more (get nat_cmp c.args.sums.now) (get nat_cmp c.loop-coef.sums) (get nat_cmp c.insert.new.self) coefs number i (0, pos 0)
          had (to_z w128 (of_z w128 c.plus.result)) c.loop-coef-test.true c.loop-coef.invariant.sums c.sum_in-had.ensures value
          (λ v. c.in_ok-insert.ensures.updates.0 v);
      ordered = c.in_ok-insert.ensures.ordered;
    }

pub returns-clause-sums : goal.returns-clause-sums
returns-clause-sums c = λ row t e.
    c.loop-coef.invariant.sums row t e
    ∙ ap (λ (es : List (ℕ × ℤ)). int_wrap w128 (t +ℤ sum_at (λ (e : ℕ × ℤ). e.0) (λ (e : ℕ × ℤ). e.1) es row *ℤ c.args.number.now))
    (take_all c.loop-coef.coef-index c.args.coefs.now c.loop-coef-test.false)
