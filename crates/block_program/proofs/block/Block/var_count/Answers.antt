use Rattle.std.proofs.Common.{◌∙◌, length, sym, ap}
use Rattle.block_program.specs.Blocked.{RootBlock}
use Rattle.block_program.proofs.BlockLemmas.{length-copies}
use Rattle.block_program.proofs.block.Block.var_count.Goals as goal

pub returns : goal.returns
returns c =
    let b = c.self.inside in
    c.len.ensures ∙ sym (length-copies b.vars b.costs b.masters c.self.invariant.0 c.self.invariant.1)
    ∙ ap (λ (k : RootBlock). length k.block.copies) c.self.view_is
