use Rattle.std.proofs.Common.{ℕ, refl}
use Rattle.std.specs.Prelude.{ℤ, pos}
use Rattle.std.proofs.lemmas.List.Elements.{All-more}
use Rattle.cut_sums.specs.Cutting.{IsWhole}
use Rattle.cut_sums.specs.Rows.{row_in}
use Rattle.round_cut.proofs.rules.are_whole.Goals as goal

pub loop-mult-preserved : goal.loop-mult-preserved
loop-mult-preserved c =
    All-more (λ (m : ℕ × ℤ). IsWhole (row_in c.args.rows.now m.0)) c.args.mults.now c.loop-mult.mult-index (0, pos 0) c.loop-mult-test.true c.loop-mult.invariant
    (c.if-not-has.ensures.0 refl)

pub returns-then-not-has : goal.returns-then-not-has
returns-then-not-has c = (
  (λ h. absurd (cc)),
  λ all. c.if-not-has.ensures.1 (all c.loop-mult.mult-index (0, pos 0) c.loop-mult-test.true),
)
