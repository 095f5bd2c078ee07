use Rattle.std.proofs.Common.{arith}
use Rattle.std.specs.Prelude.{codes}
use Rattle.report_lines.proofs.BlockRows.{names_more, names_all}
use Rattle.report_lines.proofs.blocks.push_row_names.Goals as goal

pub loop-row-preserved : goal.loop-row-preserved
loop-row-preserved c =
    names_more c.args.m.now.row_names c.args.rows.now c.loop-row.row-index c.push_named.new.text.items c.loop-row.text.items c.push_name.new.text.items
    c.row_name.result.now (omega arith) c.loop-row.invariant c.in_ok-push_name.ensures c.row_name.ensures

pub returns : goal.returns
returns c =
    names_all c.args.m.now.row_names c.args.rows.now c.loop-row.row-index c.args.text.now.items c.push_named.new.text.items c.loop-row.text.items (codes " rows ")
    (omega arith) c.in_ok-push_named.ensures c.loop-row.invariant
