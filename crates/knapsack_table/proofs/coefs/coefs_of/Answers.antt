use Rattle.std.proofs.Common.{◌≡◌, ◌∙◌, sym, ap, subst, ◌^◌, ◌<◌, ℕ, List, pos, ◌+ℤ◌, take, length, vec_len, get_or, set, arith}
use Rattle.std.proofs.Math.IntN.{ℤ}
use Rattle.std.specs.Prelude.{unsigned_abs}
use Rattle.std.specs.Int.{w128}
use Rattle.std.proofs.lemmas.List.{get_or_read, take_all}
use mir.Val.{of_z, to_z}
use Rattle.bp_theory.specs.Program.{coefficient}
use Rattle.bp_theory.specs.declared.Term.{Term}
use Rattle.pricing_problem.proofs.Passed.{passed}
use Rattle.knapsack_table.specs.Taken.{dense}
use Rattle.knapsack_table.proofs.CoefLaws.{coefficient_short, term_short, coef_sum_fits, coefficient_more, dense_from_places}
use Rattle.knapsack_table.proofs.coefs.coefs_of.Goals as goal

pub plus-requires : goal.plus-requires
plus-requires c =
    let t : Term = get_or c.args.terms.now c.loop-term.term-index (record { var = 0; coef = pos 0 }) in
    let there : t.var < length c.loop-term.coefs.items =
    omega (arith, c.requires.places c.loop-term.term-index (record { var = 0; coef = pos 0 }) c.loop-term-test.true, c.loop-term.invariant.len, c.loop-term.coefs.ok.0) in
    let read : c.index.result.now ≡ coefficient (take c.loop-term.term-index c.args.terms.now) t.var =
    get_or_read c.loop-term.coefs.items t.var c.index.result.now there c.index.ensures (pos 0) ∙ c.loop-term.invariant.sums t.var in
    coef_sum_fits c.index.result.now (to_z w128 (of_z w128 c.widened-more.result))
    (subst (λ z. unsigned_abs z < 2 ^ 62) (sym read) (coefficient_short c.args.spans.now c.args.terms.now c.loop-term.term-index t.var c.requires.small))
    (subst (λ z. unsigned_abs z < 2 ^ 62) (sym (passed c.widened-more.result c.widened-more.type_inv ∙ c.widened-more.ensures))
    (term_short c.args.spans.now c.args.terms.now c.loop-term.term-index (record { var = 0; coef = pos 0 }) c.requires.small c.loop-term-test.true))

pub loop-term-preserved : goal.loop-term-preserved
loop-term-preserved c =
    let t : Term = get_or c.args.terms.now c.loop-term.term-index (record { var = 0; coef = pos 0 }) in
    let there : t.var < length c.loop-term.coefs.items =
    omega (arith, c.requires.places c.loop-term.term-index (record { var = 0; coef = pos 0 }) c.loop-term-test.true, c.loop-term.invariant.len, c.loop-term.coefs.ok.0) in
    record {
      len = c.loop-term.invariant.len;
      sums = coefficient_more c.args.terms.now c.loop-term.coefs.items c.loop-term.term-index (record { var = 0; coef = pos 0 }) (to_z w128 (of_z w128 c.plus.result))
          c.loop-term-test.true there
          (passed c.plus.result c.plus.type_inv
          ∙ c.plus.ensures
          ∙ ap (λ z. z +ℤ to_z w128 (of_z w128 c.widened-more.result)) (get_or_read c.loop-term.coefs.items t.var c.index.result.now there c.index.ensures (pos 0))
          ∙ ap (λ z. get_or c.loop-term.coefs.items t.var (pos 0) +ℤ z) (passed c.widened-more.result c.widened-more.type_inv ∙ c.widened-more.ensures))
          c.loop-term.invariant.sums;
    }

pub returns : goal.returns
returns c =
    dense_from_places c.args.terms.now (length c.args.spans.now) c.loop-term.coefs.items (omega (arith, c.loop-term.invariant.len, c.loop-term.coefs.ok.0))
    (λ j. c.loop-term.invariant.sums j ∙ ap (λ (ts : List Term). coefficient ts j) (take_all c.loop-term.term-index c.args.terms.now c.loop-term-test.false))
