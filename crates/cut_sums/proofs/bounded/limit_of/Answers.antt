use Rattle.std.proofs.Common.{◌≡◌, ◌∙◌, ◌^◌, ℕ, pos, get_or, arith, ⊎_elim}
use Rattle.std.specs.Prelude.{ℤ, unsigned_abs}
use Rattle.std.proofs.lemmas.Bool.{cases_lt}
use Rattle.std.proofs.lemmas.Int.{ints}
use Rattle.bp_model.specs.Tidy.{pair_limit}
use Rattle.bp_model.proofs.TidyLemmas.{fits_over}
use Rattle.cut_sums.proofs.SizeLemmas.{over_alone}
use Rattle.cut_sums.proofs.bounded.limit_of.Goals as goal

pub returns-then-size-ge-LIMIT : goal.returns-then-size-ge-LIMIT
returns-then-size-ge-LIMIT c =
    let none : ℕ × ℤ = (0, pos 0) in
    let size : c.unsigned_abs-size.result ≡ unsigned_abs (get_or c.args.coefs.now c.loop-coef.coef-index none).1 = omega (arith, ints, c.unsigned_abs-size.ensures.value) in
    over_alone c.args.spans.now c.args.coefs.now c.unsigned_abs-size.result c.loop-coef.coef-index none c.loop-coef-test.true size c.if-size-ge-LIMIT.true

pub returns-then-limit-ge-LIMIT : goal.returns-then-limit-ge-LIMIT
returns-then-limit-ge-LIMIT c =
    let none : ℕ × ℤ = (0, pos 0) in
    let size : c.unsigned_abs-size.result ≡ unsigned_abs (get_or c.args.coefs.now c.loop-coef.coef-index none).1 = omega (arith, ints, c.unsigned_abs-size.ensures.value) in ⊎_elim
    (λ small. absurd (fits_over c.args.spans.now c.args.coefs.now 0 c.loop-coef.limit c.unsigned_abs-size.result c.from.result c.loop-coef.coef-index none
    c.loop-coef-test.true (omega (arith, c.loop-coef.invariant.limit)) size (c.from.ensures ∙ c.reach.ensures) c.if-limit-ge-LIMIT.true (omega (arith, small))))
    (λ large. large)
    (cases_lt (pair_limit c.args.spans.now c.args.coefs.now) (2 ^ 62))
