use Rattle.std.proofs.Common.{List, ℕ, sym, subst}
use Rattle.std.specs.Prelude.{ℤ}
use Rattle.block_program.specs.Fitting.{FitRows}
use Rattle.block_program.proofs.fitting.fits.Goals as goal

pub returns-then-not-rows_fit : goal.returns-then-not-rows_fit
returns-then-not-rows_fit c = (
  (λ h. absurd (cc)),
  λ f. c.if-not-rows_fit.ensures.1 (subst (λ (ms : List (ℕ × ℤ)). FitRows c.args.b.now.blocking ms) (sym c.as_slice.ensures)
      (record { sizes = f.sizes; nonzero = f.nonzero; rows = f.rows; ascend = f.ascend })),
)
