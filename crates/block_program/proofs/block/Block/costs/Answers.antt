use Rattle.std.proofs.Common.{◌∙◌, map, sym, ap}
use Rattle.bp_theory.specs.Blocking.{Copy}
use Rattle.block_program.specs.Blocked.{RootBlock}
use Rattle.block_program.proofs.BlockLemmas.{costs_of_copies}
use Rattle.block_program.proofs.block.Block.costs.Goals as goal

pub returns : goal.returns
returns c =
    let b = c.self.inside in
    c.as_slice.ensures ∙ sym (costs_of_copies b.vars b.costs b.masters c.self.invariant.0 c.self.invariant.1)
    ∙ ap (λ (k : RootBlock). map (λ (p : Copy). p.cost) k.block.copies) c.self.view_is
