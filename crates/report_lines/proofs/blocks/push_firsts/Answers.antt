use Rattle.std.proofs.Common.{◌≡◌, ◌∙◌, ◌++◌, ap, arith, length}
use Rattle.search_laws.specs.Spread.{class_at}
use Rattle.report_lines.specs.Blocks.{shown_block}
use Rattle.report_lines.proofs.Pieces.{piece_more}
use Rattle.report_lines.proofs.BlockRows.{rows_at, rows_count}
use Rattle.report_lines.proofs.blocks.push_firsts.Goals as goal

pub index-requires : goal.index-requires
index-requires c =
    let count : length c.in_ok-rows.rows.items ≡ length c.args.b.now.blocking.blocks =
    rows_count c.args.b.now.dec.places (length c.args.b.now.blocking.blocks) c.in_ok-rows.rows.items c.in_ok-rows.ensures in
    let there = (c.requires.firsts c.loop-class.class (omega (arith, c.len-class-end.ensures))).there in
    omega (arith, count, c.in_ok-rows.rows.ok, there, c.requires.each, c.first-first.ensures)

pub push_block-requires-clause-rows : goal.push_block-requires-clause-rows
push_block-requires-clause-rows c =
    let there = (c.requires.firsts c.loop-class.class (omega (arith, c.len-class-end.ensures))).there in
    rows_at c.args.b.now.dec.places (length c.args.b.now.blocking.blocks) c.first-first.result c.in_ok-rows.rows.items c.as_slice.result.now c.index.result.now
    c.in_ok-rows.ensures (omega (arith, there, c.requires.each, c.first-first.ensures)) (c.as_slice.ensures ∙ c.index.ensures)

pub loop-class-preserved : goal.loop-class-preserved
loop-class-preserved c =
    piece_more (λ class. shown_block c.args.b.now (class_at c.args.root.now.firsts class)) c.loop-class.class c.args.text.now.items c.loop-class.text.items c.push_block.new.text.items
    c.loop-class.invariant
    (c.in_ok-push_block.ensures ∙ ap (λ first. c.loop-class.text.items ++ shown_block c.args.b.now first) c.first-first.ensures)
