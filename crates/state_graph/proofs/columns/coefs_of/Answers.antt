use Rattle.std.proofs.Common.{◌≡◌, ◌∙◌, sym, ap, subst, ◌<◌, ◌^◌, pos, ◌+ℤ◌, ℤ, length, get_or, take, arith}
use Rattle.std.specs.Prelude.{unsigned_abs, FitsSigned}
use Rattle.std.specs.Int.{w64}
use Rattle.std.proofs.lemmas.Int.{ints, fits_signed_from_abs}
use Rattle.bp_theory.specs.Program.{coefficient}
use Rattle.state_graph.proofs.SizeLaws.{coefficient_short, term_short}
use Rattle.std.proofs.lemmas.List.{get_or_read}
use Rattle.state_graph.proofs.ColumnLaws.{coefficient_more}
use Rattle.state_graph.proofs.columns.coefs_of.Goals as goal

pub loop-term-preserved : goal.loop-term-preserved
loop-term-preserved c =
    let there : (get_or c.args.terms.now c.loop-term.term-index (record { var = 0; coef = pos 0 })).var < length c.loop-term.coefs.items =
    omega (arith, c.requires c.loop-term.term-index (record { var = 0; coef = pos 0 }) c.loop-term-test.true, c.loop-term.invariant.len, c.loop-term.coefs.ok.0) in
    record {
      len = c.loop-term.invariant.len;
      sums = coefficient_more c.args.terms.now c.loop-term.coefs.items c.loop-term.term-index (record { var = 0; coef = pos 0 }) c.add_to.new.sum
          c.loop-term-test.true there
          (c.if-not-add_to.ensures.sum ∙ ap (λ z. z +ℤ (get_or c.args.terms.now c.loop-term.term-index (record { var = 0; coef = pos 0 })).coef)
          (get_or_read c.loop-term.coefs.items (get_or c.args.terms.now c.loop-term.term-index (record { var = 0; coef = pos 0 })).var c.index_mut.result.now there c.index_mut.ensures.value (pos 0)))
          c.loop-term.invariant.sums;
    }

pub returns-then-not-add_to-clause-none : goal.returns-then-not-add_to-clause-none
returns-then-not-add_to-clause-none c = λ spans small.
    let there : (get_or c.args.terms.now c.loop-term.term-index (record { var = 0; coef = pos 0 })).var < length c.loop-term.coefs.items =
    omega (arith, c.requires c.loop-term.term-index (record { var = 0; coef = pos 0 }) c.loop-term-test.true, c.loop-term.invariant.len, c.loop-term.coefs.ok.0) in
    let old : c.index_mut.result.now ≡ coefficient (take c.loop-term.term-index c.args.terms.now) (get_or c.args.terms.now c.loop-term.term-index (record { var = 0; coef = pos 0 })).var =
    get_or_read c.loop-term.coefs.items (get_or c.args.terms.now c.loop-term.term-index (record { var = 0; coef = pos 0 })).var c.index_mut.result.now there c.index_mut.ensures.value (pos 0)
    ∙ c.loop-term.invariant.sums (get_or c.args.terms.now c.loop-term.term-index (record { var = 0; coef = pos 0 })).var in
    c.if-not-add_to.ensures.over (fits c.index_mut.result.now (get_or c.args.terms.now c.loop-term.term-index (record { var = 0; coef = pos 0 })).coef
    (subst (λ z. unsigned_abs z < 2 ^ 62) (sym old) (coefficient_short spans c.args.terms.now c.loop-term.term-index (get_or c.args.terms.now c.loop-term.term-index (record { var = 0; coef = pos 0 })).var small))
    (term_short spans c.args.terms.now c.loop-term.term-index (record { var = 0; coef = pos 0 }) small c.loop-term-test.true))
  where
    fits : (a b : ℤ) → unsigned_abs a < 2 ^ 62 → unsigned_abs b < 2 ^ 62 → FitsSigned w64 (a +ℤ b)
    fits a b h k = fits_signed_from_abs w64 (a +ℤ b) (omega (arith, ints, h, k))
