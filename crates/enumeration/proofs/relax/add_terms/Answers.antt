use Rattle.std.proofs.Common.{◌∙◌, ap, ◌<◌, pos, ◌+ℤ◌, length, get_or, arith}
use Rattle.std.proofs.Math.IntN.{◌*ℤ◌}
use Rattle.std.specs.Int.{w128}
use Rattle.std.proofs.lemmas.Int.{to_z-of_z}
use Rattle.std.proofs.lemmas.List.{get_or_read}
use mir.Val.{of_z, to_z}
use Rattle.bp_theory.specs.declared.Term.{Term}
use Rattle.enumeration.proofs.RelaxLaws.{added_term}
use Rattle.enumeration.proofs.relax.add_terms.Goals as goal

pub loop-term-preserved : goal.loop-term-preserved
loop-term-preserved c =
    let t : Term = get_or c.args.terms.now c.loop-term.term-index (record { var = 0; coef = pos 0 }) in
    let there : t.var < length c.loop-term.costs.items =
    omega (arith, c.requires c.loop-term.term-index (record { var = 0; coef = pos 0 }) c.loop-term-test.true, c.loop-term.invariant.len, c.loop-term.costs.ok.0) in
    record {
      len = omega (arith, c.loop-term.invariant.len);
      added = λ y many. added_term c.args.costs.now.items c.loop-term.costs.items y c.args.terms.now c.loop-term.term-index (record { var = 0; coef = pos 0 })
          c.args.factor.now (to_z w128 (of_z w128 c.in-Some.sum)) c.loop-term-test.true there (omega (arith, many, c.loop-term.invariant.len, c.loop-term.costs.ok.0, c.args.costs.now.ok.0))
          (to_z-of_z w128 c.in-Some.sum c.in-Some.ensures.fits
          ∙ c.in-Some.ensures.sum
          ∙ ap (λ z. z +ℤ c.args.factor.now *ℤ t.coef) (get_or_read c.loop-term.costs.items t.var c.index.result.now there c.index.ensures (pos 0)))
          (c.loop-term.invariant.added y many);
    }
