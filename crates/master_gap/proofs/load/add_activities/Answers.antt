use Rattle.std.proofs.Common.{ap, ◌∙◌, ◌≡◌, ℕ, ◌<◌, pos, List, take, get_or, length, arith}
use Rattle.std.specs.Prelude.{ℤ, ◌+ℤ◌, ◌*ℤ◌}
use Rattle.std.specs.Int.{w128, int_wrap}
use Rattle.std.proofs.lemmas.List.{take_all}
use Rattle.bp_theory.specs.Sums.{sum_at}
use mir.Val.{to_z, of_z}
use Rattle.master_gap.proofs.Steps.{passed, scatter, act_more}
use Rattle.master_gap.proofs.load.add_activities.Goals as goal

pub loop-act-preserved : goal.loop-act-preserved
loop-act-preserved c =
    let acts = c.args.acts.now in
    let j = c.loop-act.act-index in
    let e : ℕ × ℤ = get_or acts j (0, pos 0) in
    let w = c.args.weight.now in
    let now = c.loop-act.sums in
    let there : e.0 < length now = omega (arith, c.requires j (0, pos 0) c.loop-act-test.true, c.loop-act.auto.sums) in
    let value : to_z w128 (of_z w128 c.plus.result) ≡ int_wrap w128 (get_or now e.0 (pos 0) +ℤ e.1 *ℤ w) =
    passed c.plus.result c.plus.type_inv ∙ c.plus.ensures
    ∙ ap (λ z. int_wrap w128 (get_or now e.0 (pos 0) +ℤ z)) (passed c.product-more.result c.product-more.type_inv ∙ c.product-more.ensures) in
    λ i t h.
    scatter now e.0 (e.1 *ℤ w) (to_z w128 (of_z w128 c.plus.result)) i (t +ℤ sum_at (λ (e : ℕ × ℤ). e.0) (λ (e : ℕ × ℤ). e.1) (take j acts) i *ℤ w) there value (c.loop-act.invariant i t h)
    ∙ ap (int_wrap w128) (act_more acts j (0, pos 0) i t w c.loop-act-test.true)

pub returns : goal.returns
returns c = λ i t h.
    c.loop-act.invariant i t h
    ∙ ap (λ (es : List (ℕ × ℤ)). int_wrap w128 (t +ℤ sum_at (λ (e : ℕ × ℤ). e.0) (λ (e : ℕ × ℤ). e.1) es i *ℤ c.args.weight.now)) (take_all c.loop-act.act-index c.args.acts.now c.loop-act-test.false)
