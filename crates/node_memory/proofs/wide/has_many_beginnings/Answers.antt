use Rattle.std.proofs.Common.{sym, subst, ℕ, ◌<◌, [], length, All}
use Rattle.bp_theory.specs.Blocking.{Blocking, Block, Copy}
use Rattle.bp_theory.specs.Trees.{IsSubspan}
use Rattle.bp_theory.proofs.ZipLaws.{AllZip-length}
use Rattle.node_memory.proofs.EveryBlock.{known}
use Rattle.node_memory.proofs.wide.has_many_beginnings.Goals as goal

pub fill_spans-requires-clause-there : goal.fill_spans-requires-clause-there
fill_spans-requires-clause-there c =
    let n : ℕ = length c.args.b.now.named.program.spans in
    let none : Block = record { copies = []; rows = [] } in
    let all : All (λ (k : Block). All (λ (e : Copy). e.var < n) k.copies) c.args.b.now.blocking.blocks =
    subst (λ (bl : Blocking). All (λ (k : Block). All (λ (e : Copy). e.var < n) k.copies) bl.blocks) (sym c.blocks-2.ensures.formed.blocking)
    (known c.args.b.now c.blocks-2.ensures.formed) in
    let here : All (λ (e : Copy). e.var < n) c.block-block.result.now.block.copies =
    subst (λ (k : Block). All (λ (e : Copy). e.var < n) k.copies) (sym (c.block-block.ensures.block none)) (all c.args.number none c.requires.there) in
    subst (λ (m : ℕ). All (λ (e : Copy). e.var < m) c.block-block.result.now.block.copies)
    (sym (AllZip-length IsSubspan c.args.zone.now c.args.b.now.named.program.spans c.requires.zone.inside)) here
