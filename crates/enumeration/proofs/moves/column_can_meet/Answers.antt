use Rattle.std.proofs.Common.{subst, List, pos, arith, vec_len}
use Rattle.std.specs.Prelude.{All}
use Rattle.enumeration.specs.Search.{CanMeetAt}
use Rattle.enumeration.specs.declared.columns.Entry.{Entry}
use Rattle.enumeration.proofs.PlaceLaws.{column_is, entries_named}
use Rattle.enumeration.proofs.moves.column_can_meet.Goals as goal

pub row_can_meet-requires-clause-there : goal.row_can_meet-requires-clause-there
row_can_meet-requires-clause-there c =
    entries_named c.args.form.now.rows.items c.args.var (vec_len c.args.form.now.rows) c.as_slice-column.result.now
    (column_is c.args.form.now c.args.zone.now c.args.costs.now c.args.var c.requires.priceable c.requires.there
    c.index.result.now c.as_slice-column.result.now c.as_slice-column.ensures c.index.ensures)
    (omega (arith, c.args.form.now.rows.ok.0))
    c.loop-entry.entry-index (record { row = 0; coef = pos 0 }) c.loop-entry-test.true

pub returns-clause-yes : goal.returns-clause-yes
returns-clause-yes c =
    subst (λ (es : List Entry). All (λ (e : Entry). CanMeetAt c.args.form.now.rows.items c.args.dive.now.zone.items e.row) es)
    (column_is c.args.form.now c.args.zone.now c.args.costs.now c.args.var c.requires.priceable c.requires.there
    c.index.result.now c.as_slice-column.result.now c.as_slice-column.ensures c.index.ensures)
    (λ k d l. c.loop-entry.invariant k d (omega (arith, l, c.loop-entry-test.false)))
