use Rattle.std.proofs.Common.{◌∙◌, ap}
use Rattle.report_lines.proofs.BlockRows.{vars_known}
use Rattle.report_lines.proofs.blocks.vars_of.Goals as goal

pub returns-clause-known : goal.returns-clause-known
returns-clause-known c =
    vars_known c.args.b.now c.block.result.now.block c.args.block c.vars.result.now c.blocks-blocks.ensures.formed c.requires (c.block.ensures.block _) c.vars.ensures
