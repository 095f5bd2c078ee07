use Rattle.std.proofs.Common.{◌≡◌, ◌+◌, ◌≤◌, ◌^◌, ◌∙◌, ℕ, Some, cond, pos, get_or, ap, arith, to_z, of_z}
use Rattle.std.specs.Prelude.{◌+ℤ◌, unsigned_abs}
use Rattle.std.specs.Ordering.{nat_cmp}
use Rattle.std.specs.BTreeMap.{get, is_at}
use Rattle.std.specs.Int.{w128}
use Rattle.std.proofs.lemmas.Int.{ints}
use Rattle.bp_theory.specs.declared.Term.{Term}
use Rattle.bp_model.proofs.TidyLemmas.{added_step}
use Rattle.bp_model.proofs.tidy.added.Goals as goal

pub loop-term-preserved : goal.loop-term-preserved
loop-term-preserved c =
    let none : Term = record { var = 0; coef = pos 0 } in
    let cast : to_z w128 (of_z w128 c.more-sum.result) ≡ c.more-sum.result = omega (arith, ints) in
    let sum : c.more-sum.result ≡ c.sum_at-had.result +ℤ (get_or c.args.terms.now c.loop-term.term-index none).coef = omega (arith, ints, c.more-sum.ensures.value) in
    let size : unsigned_abs c.more-sum.result ≤ unsigned_abs c.sum_at-had.result + 2 ^ 63 = omega (arith, ints, c.more-sum.ensures.size) in
    let step = added_step c.args.terms.now c.loop-term.term-index none (get nat_cmp c.loop-term.sums) (get nat_cmp c.insert.new.self) c.sum_at-had.result c.more-sum.result
    c.loop-term-test.true c.loop-term.invariant.sums c.loop-term.invariant.small
    c.sum_at-had.ensures sum size
    (λ v. c.in_ok-insert.ensures.updates.0 v ∙ ap (λ z. cond (is_at (nat_cmp (get_or c.args.terms.now c.loop-term.term-index none).var) v) (Some z) (get nat_cmp c.loop-term.sums v)) cast) in record {
      sums = λ v. (step v).0;
      small = λ v. (step v).1;
      ordered = c.in_ok-insert.ensures.ordered;
    }
