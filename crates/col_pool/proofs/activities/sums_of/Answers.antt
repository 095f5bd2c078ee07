-- One copy more of the block.
use Rattle.std.proofs.Common.{sym, ap, ◌∙◌, ℕ, pos, List, [], map, take, get_or, arith}
use Rattle.std.specs.Prelude.{ℤ, ◌+ℤ◌, ◌*ℤ◌}
use Rattle.std.specs.Int.{w128, int_wrap}
use Rattle.bp_theory.specs.Sums.{sum_at, dot}
use Rattle.bp_theory.specs.Blocking.{Copy, coef_in}
use Rattle.col_pool.proofs.PoolLemmas.{copies_more}
use Rattle.col_pool.proofs.activities.sums_of.Goals as goal

pub loop-place-preserved : goal.loop-place-preserved
loop-place-preserved c =
    let copies = c.args.block.now.block.copies in
    let point = c.args.point.now in
    let k = c.loop-place.place in
    let none : Copy = record { var = 0; cost = pos 0; coefs = [] } in
    record {
      sums = λ row.
          let so_far : ℤ = dot (take k (map (λ (c : Copy). coef_in c row) copies)) point in
          c.in_ok-add_scaled.ensures.sums row so_far (c.loop-place.invariant.sums row)
          ∙ ap (λ (es : List (ℕ × ℤ)). int_wrap w128 (so_far +ℤ sum_at (λ (e : ℕ × ℤ). e.0) (λ (e : ℕ × ℤ). e.1) es row *ℤ get_or point k (pos 0))) (c.master.ensures none)
          ∙ ap (int_wrap w128) (sym (copies_more copies point row k none (omega arith) c.requires));
      ordered = c.in_ok-add_scaled.ensures.ordered;
    }
