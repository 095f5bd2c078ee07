use Rattle.std.proofs.Common.{arith}
use Rattle.std.specs.Prelude.{codes}
use Rattle.report_lines.proofs.BlockRows.{names_more, names_all}
use Rattle.report_lines.proofs.blocks.push_var_names.Goals as goal

pub loop-var-preserved : goal.loop-var-preserved
loop-var-preserved c =
    names_more c.args.m.now.names c.args.vars.now c.loop-var.var-index c.push_named.new.text.items c.loop-var.text.items c.push_name.new.text.items
    c.name.result.now (omega arith) c.loop-var.invariant c.in_ok-push_name.ensures c.name.ensures

pub returns : goal.returns
returns c =
    names_all c.args.m.now.names c.args.vars.now c.loop-var.var-index c.args.text.now.items c.push_named.new.text.items c.loop-var.text.items (codes " variables ")
    (omega arith) c.in_ok-push_named.ensures c.loop-var.invariant
