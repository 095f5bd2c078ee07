use Rattle.std.proofs.Common.{sym, ap, ◌∙◌, ◌≡◌, ◌<◌, ℕ, pos, take, get_or, length, arith}
use Rattle.std.specs.Prelude.{ℤ, ◌+ℤ◌, zip}
use Rattle.std.specs.Int.{w128, int_wrap}
use Rattle.std.proofs.lemmas.List.{take_all, get_or_read}
use Rattle.std.proofs.lemmas.Slice.Zip.{length-zip}
use Rattle.search_laws.specs.declared.Column.{Column}
use Rattle.search_laws.specs.Master.{class_weight}
use mir.Val.{to_z, of_z}
use Rattle.std.specs.Prelude.{◌==◌, if◌then◌else◌}
use Rattle.master_gap.proofs.Steps.{passed, scatter, zip_more}
use Rattle.master_gap.proofs.load.class_weights.Goals as goal

pub loop-j-preserved : goal.loop-j-preserved
loop-j-preserved c =
    let cols = c.args.cols.now in
    let weights = c.args.weights.now in
    let j = c.loop-j.j in
    let d : Column = c.index-cols-j.result in
    let class : ℕ = (get_or cols j d).class in
    let sums = c.loop-j.sums.items in
    let w : ℤ = get_or weights j (pos 0) in
    let there : class < length sums = omega (arith, c.requires.known j d c.loop-j-test.true, c.loop-j.invariant.many, c.loop-j.sums.ok.0) in
    let value : to_z w128 (of_z w128 c.plus.result) ≡ int_wrap w128 (get_or sums class (pos 0) +ℤ w) =
    passed c.plus.result c.plus.type_inv
    ∙ c.plus.ensures
    ∙ ap (λ z. int_wrap w128 (z +ℤ to_z w128 (of_z w128 c.widened-more.result))) (get_or_read sums class c.index.result.now there c.index.ensures (pos 0))
    ∙ ap (λ z. int_wrap w128 (get_or sums class (pos 0) +ℤ z)) (passed c.widened-more.result c.widened-more.type_inv ∙ c.widened-more.ensures) in
    record {
      many = c.loop-j.invariant.many;
      sums = λ k l.
          scatter sums class w (to_z w128 (of_z w128 c.plus.result)) k (class_weight (take j (zip cols weights)) k) there value (c.loop-j.invariant.sums k l)
          ∙ ap (int_wrap w128) (sym (zip_more (λ (e : Column × ℤ). if e.0.class == k then e.1 else pos 0) cols weights j d (pos 0) c.requires.each c.loop-j-test.true));
    }

pub returns-clause-sums : goal.returns-clause-sums
returns-clause-sums c = λ k l.
    c.loop-j.invariant.sums k l
    ∙ ap (λ ys. int_wrap w128 (class_weight ys k))
    (take_all c.loop-j.j (zip c.args.cols.now c.args.weights.now) (omega (arith, length-zip c.args.cols.now c.args.weights.now, c.requires.each, c.loop-j-test.false)))
