use Rattle.std.proofs.Common.{sym, ap, subst, ◌∙◌, ◌≡◌, ◌<◌, ℕ, List, pos, take, drop, get_or, length, arith}
use Rattle.std.specs.Prelude.{ℤ, ◌+ℤ◌, ◌*ℤ◌, zip, All}
use Rattle.std.specs.Int.{w128, int_wrap}
use Rattle.std.proofs.lemmas.List.{take_all}
use Rattle.std.proofs.lemmas.Slice.Zip.{length-zip}
use Rattle.bp_theory.specs.Sums.{sum_at}
use Rattle.search_laws.specs.declared.Column.{Column}
use Rattle.search_laws.specs.Master.{weighted_activity, column_activity}
use Rattle.master_gap.proofs.Steps.{spliced, zip_more}
use Rattle.master_gap.proofs.load.activities.Goals as goal

pub add_activities-requires : goal.add_activities-requires
add_activities-requires c =
    let d : Column = c.index-cols-j.result in
    let many : c.args.rows ≡ length c.deref_mut.result.now = omega (arith, c.deref_mut.ensures.len, c.loop-j.invariant.many) in
    subst (λ (es : List (ℕ × ℤ)). All (λ e. e.0 < length c.deref_mut.result.now) es) (sym c.as_slice.ensures)
    (λ k e l. omega (arith, c.requires.known c.loop-j.j d c.loop-j-test.true k e l, many))

pub loop-j-preserved : goal.loop-j-preserved
loop-j-preserved c =
    let cols = c.args.cols.now in
    let weights = c.args.weights.now in
    let j = c.loop-j.j in
    let d : Column = c.index-cols-j.result in
    let zs = zip cols weights in
    let new = c.add_activities.new.sums in
    let old = c.loop-j.sums.items in
    record {
      many = c.loop-j.invariant.many;
      sums = λ i l.
          ap (λ xs. get_or xs i (pos 0)) (spliced c.loop-j.sums.len new (drop (length new) old) (omega (arith, c.add_activities.auto.sums, c.deref_mut.ensures.len)))
          ∙ c.add_activities.ensures i (weighted_activity (take j zs) i) (ap (λ xs. get_or xs i (pos 0)) c.deref_mut.ensures.value ∙ c.loop-j.invariant.sums i l)
          ∙ ap (λ (es : List (ℕ × ℤ)). int_wrap w128 (weighted_activity (take j zs) i +ℤ sum_at (λ (e : ℕ × ℤ). e.0) (λ (e : ℕ × ℤ). e.1) es i *ℤ get_or weights j (pos 0))) c.as_slice.ensures
          ∙ ap (int_wrap w128) (sym (zip_more (λ (e : Column × ℤ). column_activity e.0 i *ℤ e.1) cols weights j d (pos 0) c.requires.each c.loop-j-test.true));
    }

pub returns-clause-sums : goal.returns-clause-sums
returns-clause-sums c = λ i l.
    c.loop-j.invariant.sums i l
    ∙ ap (λ ys. int_wrap w128 (weighted_activity ys i))
    (take_all c.loop-j.j (zip c.args.cols.now c.args.weights.now) (omega (arith, length-zip c.args.cols.now c.args.weights.now, c.requires.each, c.loop-j-test.false)))
