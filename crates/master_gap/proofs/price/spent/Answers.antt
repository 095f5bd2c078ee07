use Rattle.std.proofs.Common.{sym, ap, ◌∙◌, ℕ, pos, take, get_or}
use Rattle.std.specs.Prelude.{ℤ, ◌*ℤ◌}
use Rattle.std.specs.Int.{w128, int_wrap}
use Rattle.bp_theory.specs.Sums.{sum_of}
use Rattle.bp_theory.proofs.SumLaws.{sum_of_more}
use Rattle.search_laws.specs.Master.{multiplier}
use Rattle.master_gap.proofs.Steps.{wrap_step, passed_short}
use Rattle.master_gap.proofs.price.spent.Goals as goal

pub loop-act-preserved : goal.loop-act-preserved
loop-act-preserved c =
    let acts = c.args.acts.now in
    let mults = c.args.mults.now in
    let j = c.loop-act.act-index in
    let e : ℕ × ℤ = get_or acts j (0, pos 0) in
    wrap_step _ _ _ (sum_of (λ (e : ℕ × ℤ). e.1 *ℤ multiplier mults e.0) (take j acts)) (e.1 *ℤ multiplier mults e.0)
    c.plus-sum.type_inv c.product-part.type_inv c.plus-sum.ensures c.loop-act.invariant
    (c.product-part.ensures ∙ ap (λ z. e.1 *ℤ z) (passed_short c.multiplier_of-mult.result c.multiplier_of-mult.type_inv ∙ c.multiplier_of-mult.ensures))
    ∙ ap (int_wrap w128) (sym (sum_of_more (λ (e : ℕ × ℤ). e.1 *ℤ multiplier mults e.0) acts j (0, pos 0) c.loop-act-test.true))
