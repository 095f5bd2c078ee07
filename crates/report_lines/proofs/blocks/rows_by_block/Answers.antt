use Rattle.std.proofs.Common.{◌≡◌, ◌∙◌, length, ap, arith, refl}
use Rattle.report_lines.proofs.BlockRows.{rows_below, rows_more, rows_all}
use Rattle.report_lines.proofs.blocks.rows_by_block.Goals as goal

pub loop-row-preserved : goal.loop-row-preserved
loop-row-preserved c = record {
  each = omega (arith, c.push_row.ensures.len, c.loop-row.invariant.each);
  rows = λ k l. rows_more c.args.places.now c.loop-row.row k _ _ _ refl (c.loop-row.invariant.rows k l) (c.in_ok-push_row.ensures.pushed k);
}

pub returns : goal.returns
returns c =
    let end : c.loop-row.row ≡ length c.args.places.now = omega (arith, c.loop-row-test.false, c.loop-row.auto.row-end) in
    rows_all c.args.places.now c.args.blocks c.loop-row.all.items (omega (arith, c.loop-row.invariant.each, c.loop-row.all.ok))
    (λ k l. c.loop-row.invariant.rows k l ∙ ap (λ n. rows_below c.args.places.now n k) end)
