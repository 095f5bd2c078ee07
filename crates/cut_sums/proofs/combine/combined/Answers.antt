use Rattle.std.proofs.Common.{◌≤◌, ◌^◌, ◌∙◌, ℕ, List, get_or, sym, subst, ap}
use Rattle.std.specs.Prelude.{ℤ, pos, ◌*ℤ◌, ◌+ℤ◌, unwrap_or, unsigned_abs}
use Rattle.std.specs.Ordering.{nat_cmp}
use Rattle.std.specs.BTreeMap.{get}
use Rattle.bp_theory.specs.Program.{coefficient}
use Rattle.bp_theory.specs.declared.Term.{Term}
use Rattle.cut_sums.specs.Rows.{program_of, rows_in, IsSmall}
use Rattle.cut_sums.proofs.SizeLemmas.{sum_in_within, small_terms}
use Rattle.cut_sums.proofs.CombineLemmas.{entry_added}
use Rattle.cut_sums.proofs.combine.combined.Goals as goal

pub at-row-requires-clause-bounded : goal.at-row-requires-clause-bounded
at-row-requires-clause-bounded c = (c.requires.entries.each c.loop-mult.mult-index (0, pos 0) c.loop-mult-test.true).row

pub add_terms-requires-clause-small : goal.add_terms-requires-clause-small
add_terms-requires-clause-small c v =
    subst (λ (z : ℤ). unsigned_abs z ≤ 2 ^ 116) (sym (c.loop-mult.invariant.sums v))
    (sum_in_within (program_of c.args.rows.now) (rows_in c.args.rows.now) c.args.mults.now c.loop-mult.mult-index v c.requires.entries)

pub add_terms-requires-clause-terms : goal.add_terms-requires-clause-terms
add_terms-requires-clause-terms c =
    subst IsSmall (sym c.as_slice.ensures) (small_terms (program_of c.args.rows.now) c.at-row.result.now c.at-row.ensures.bounded)

pub add_terms-requires-clause-mult : goal.add_terms-requires-clause-mult
add_terms-requires-clause-mult c = (c.requires.entries.each c.loop-mult.mult-index (0, pos 0) c.loop-mult-test.true).size

pub loop-mult-preserved : goal.loop-mult-preserved
loop-mult-preserved c = record {
  sums = λ v.
      let m : ℕ × ℤ = get_or c.args.mults.now c.loop-mult.mult-index (0, pos 0) in
      let old : ℤ = unwrap_or (get nat_cmp c.loop-mult.sums v) (pos 0) in
      entry_added (rows_in c.args.rows.now) c.args.mults.now c.loop-mult.mult-index c.at-row.result.now old _ v c.loop-mult-test.true
      (c.loop-mult.invariant.sums v) c.at-row.ensures.row
      (c.in_ok-add_terms.ensures.sums v ∙ ap (λ (ts : List Term). old +ℤ m.1 *ℤ coefficient ts v) c.as_slice.ensures);
  ordered = c.in_ok-add_terms.ensures.ordered;
}
