use Rattle.std.proofs.Common.{◌≡◌, ◌∙◌, ℕ, pos, get_or, arith}
use Rattle.std.specs.Prelude.{ℤ, unsigned_abs}
use Rattle.std.proofs.lemmas.Int.{ints}
use Rattle.bp_model.proofs.TidyLemmas.{fits_over}
use Rattle.bp_model.proofs.tidy.fits.Goals as goal

pub returns-then-limit-ge-LIMIT : goal.returns-then-limit-ge-LIMIT
returns-then-limit-ge-LIMIT c =
    let none : ℕ × ℤ = (0, pos 0) in
    let size : c.unsigned_abs-size.result ≡ unsigned_abs (get_or c.args.sums.now c.loop-sum.sum-index none).1 = omega (arith, ints, c.unsigned_abs-size.ensures.value) in (
      (λ h. absurd (cc)),
      λ small. absurd (fits_over c.args.spans.now c.args.sums.now c.args.base c.loop-sum.limit c.unsigned_abs-size.result c.from.result c.loop-sum.sum-index none
          c.loop-sum-test.true c.loop-sum.invariant.limit size (c.from.ensures ∙ c.reach.ensures) c.if-limit-ge-LIMIT.true small),
    )
