use Rattle.std.proofs.Common.{arith, rules, vec_len}
use Rattle.enumeration.proofs.ColumnLaws.{columns_more}
use Rattle.enumeration.proofs.columns.add_terms.Goals as goal

pub loop-term-preserved : goal.loop-term-preserved
loop-term-preserved c = record {
  len = omega (arith, c.loop-term.invariant.len, c.in_ok-add_term.ensures.len);
  added = columns_more c.args.row (vec_len c.args.columns.now) c.args.columns.now.items c.loop-term.columns.items c.add_term.new.columns.items
      c.args.terms.now c.loop-term.term-index _ (omega arith)
      (search rules)
      c.loop-term.invariant.added
      c.in_ok-add_term.ensures.added;
}
