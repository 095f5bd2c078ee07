use Rattle.std.proofs.Common.{◌∙◌, List, length, sym, ap}
use Rattle.bp_theory.specs.declared.Span.{Span}
use Rattle.block_program.specs.Blocked.{RootBlock}
use Rattle.block_program.proofs.BlockLemmas.{length-copies}
use Rattle.block_program.proofs.block.Block.spans.Goals as goal

pub returns-clause-each : goal.returns-clause-each
returns-clause-each c =
    let b = c.self.inside in
    ap (λ (spans : List Span). length spans) c.as_slice.ensures ∙ c.self.invariant.2
    ∙ sym (length-copies b.vars b.costs b.masters c.self.invariant.0 c.self.invariant.1)
    ∙ ap (λ (k : RootBlock). length k.block.copies) c.self.view_is
