use Rattle.std.proofs.Common.{ℕ, get_or, refl, sym, subst}
use Rattle.std.specs.Prelude.{ℤ, pos}
use Rattle.std.proofs.lemmas.List.Elements.{All-more}
use Rattle.bp_theory.specs.Cuts.{CombinesWell}
use Rattle.bp_theory.specs.Decomposition.{ProofRow}
use Rattle.cut_sums.specs.Rows.{row_in}
use Rattle.cut_sums.proofs.signs.signs_fit.Goals as goal

pub at-row-requires-clause-bounded : goal.at-row-requires-clause-bounded
at-row-requires-clause-bounded c = (c.requires.entries.each c.loop-mult.mult-index (0, pos 0) c.loop-mult-test.true).row

pub loop-mult-preserved : goal.loop-mult-preserved
loop-mult-preserved c =
    let m : ℕ × ℤ = get_or c.args.mults.now c.loop-mult.mult-index (0, pos 0) in
    All-more (λ (m : ℕ × ℤ). CombinesWell (row_in c.args.rows.now m.0) m.1) c.args.mults.now c.loop-mult.mult-index (0, pos 0) c.loop-mult-test.true c.loop-mult.invariant
    (subst (λ (row : ProofRow). CombinesWell row m.1) (sym c.at-row.ensures.row) (c.if-not-sign_fits.ensures.0 refl))

pub returns-then-not-sign_fits : goal.returns-then-not-sign_fits
returns-then-not-sign_fits c =
    let m : ℕ × ℤ = get_or c.args.mults.now c.loop-mult.mult-index (0, pos 0) in (
      (λ h. absurd (cc)),
      λ all. c.if-not-sign_fits.ensures.1 (subst (λ (row : ProofRow). CombinesWell row m.1) c.at-row.ensures.row (all c.loop-mult.mult-index (0, pos 0) c.loop-mult-test.true)),
    )
