use Rattle.std.proofs.Common.{◌∙◌, sym, ap, ◌++◌, arith, List, take}
use Rattle.bp_theory.specs.declared.Term.{Term}
use Rattle.enumeration.specs.Columns.{row_entries, column_from}
use Rattle.enumeration.proofs.ColumnLaws.{column_from_more}
use Rattle.enumeration.proofs.columns.columns_of.Goals as goal

pub loop-number-preserved : goal.loop-number-preserved
loop-number-preserved c = record {
  len = omega (arith, c.loop-number.invariant.len, c.in_ok-add_terms.ensures.len);
  columns = λ j m.
      c.in_ok-add_terms.ensures.added j (omega (arith, m, c.loop-number.invariant.len))
      ∙ ap (λ es. es ++ row_entries c.loop-number.number j c.as_slice.result.now) (c.loop-number.invariant.columns j m)
      ∙ ap
      (λ (ts : List Term). column_from 0 (take c.loop-number.number c.args.rows.now) j ++ row_entries c.loop-number.number j ts)
      c.as_slice.ensures
      ∙ sym (column_from_more c.args.rows.now c.loop-number.number j c.index-rows-number.result (omega arith) c.index-rows-number.is);
}
