use Rattle.std.proofs.Common.{◌≡◌, ◌∙◌, arith, length}
use Rattle.report_lines.specs.Blocks.{shown_block}
use Rattle.report_lines.proofs.Pieces.{piece_more}
use Rattle.report_lines.proofs.BlockRows.{rows_at, rows_count}
use Rattle.report_lines.proofs.blocks.push_blocks.Goals as goal

pub index-requires : goal.index-requires
index-requires c =
    let count : length c.in_ok-rows.rows.items ≡ length c.args.b.now.blocking.blocks =
    rows_count c.args.b.now.dec.places (length c.args.b.now.blocking.blocks) c.in_ok-rows.rows.items c.in_ok-rows.ensures in
    omega (arith, count, c.in_ok-rows.rows.ok, c.blocks-block-end.ensures.blocks)

pub push_block-requires-clause-rows : goal.push_block-requires-clause-rows
push_block-requires-clause-rows c =
    rows_at c.args.b.now.dec.places (length c.args.b.now.blocking.blocks) c.loop-block.block c.in_ok-rows.rows.items c.as_slice.result.now c.index.result.now
    c.in_ok-rows.ensures (omega (arith, c.blocks-block-end.ensures.blocks)) (c.as_slice.ensures ∙ c.index.ensures)

pub loop-block-preserved : goal.loop-block-preserved
loop-block-preserved c =
    piece_more (shown_block c.args.b.now) c.loop-block.block c.args.text.now.items c.loop-block.text.items c.push_block.new.text.items
    c.loop-block.invariant c.in_ok-push_block.ensures
