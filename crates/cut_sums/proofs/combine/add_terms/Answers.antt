use Rattle.std.proofs.Common.{◌≡◌, ◌∙◌, ℕ, Some, cond, pos, get_or, ap, arith, to_z, of_z}
use Rattle.std.specs.Prelude.{◌+ℤ◌, ◌*ℤ◌, unwrap_or}
use Rattle.std.specs.Ordering.{nat_cmp}
use Rattle.std.specs.BTreeMap.{get, is_at}
use Rattle.std.specs.Int.{w128}
use Rattle.std.proofs.lemmas.Int.{ints}
use Rattle.bp_theory.specs.declared.Term.{Term}
use Rattle.cut_sums.proofs.SizeLemmas.{so_far_within}
use Rattle.cut_sums.proofs.CombineLemmas.{term_added, none_added}
use Rattle.cut_sums.proofs.combine.add_terms.Goals as goal

pub loop-term-init : goal.loop-term-init
loop-term-init c = record {
  sums = λ v. none_added (unwrap_or (get nat_cmp c.args.sums.now v) (pos 0)) c.args.mult.now v c.args.terms.now;
  ordered = c.requires.ordered;
}

pub more-sum-requires : goal.more-sum-requires
more-sum-requires c =
    let v : ℕ = (get_or c.args.terms.now c.loop-term.term-index (record { var = 0; coef = pos 0 })).var in
    omega (
      arith,
      ints,
      c.sum_at-had.ensures,
      c.loop-term.invariant.sums v,
      c.requires.small v,
      so_far_within c.args.terms.now c.args.mult.now c.loop-term.term-index v c.requires.terms c.requires.mult,
    )

pub loop-term-preserved : goal.loop-term-preserved
loop-term-preserved c =
    let none : Term = record { var = 0; coef = pos 0 } in
    let cast : to_z w128 (of_z w128 c.more-sum.result) ≡ c.more-sum.result = omega (arith, ints) in
    let sum : c.more-sum.result ≡ c.sum_at-had.result +ℤ c.args.mult.now *ℤ (get_or c.args.terms.now c.loop-term.term-index none).coef = omega (arith, ints, c.more-sum.ensures) in record {
      sums = term_added c.args.terms.now c.loop-term.term-index none (get nat_cmp c.args.sums.now) (get nat_cmp c.loop-term.sums) (get nat_cmp c.insert.new.self) c.args.mult.now
          c.sum_at-had.result c.more-sum.result c.loop-term-test.true c.loop-term.invariant.sums c.sum_at-had.ensures sum
          (λ v. c.in_ok-insert.ensures.updates.0 v ∙ ap (λ z. cond (is_at (nat_cmp (get_or c.args.terms.now c.loop-term.term-index none).var) v) (Some z) (get nat_cmp c.loop-term.sums v)) cast);
      ordered = c.in_ok-insert.ensures.ordered;
    }
