-- The first copy of a variable is one of its block's copies.
use Rattle.std.proofs.Common.{sym, subst, ◌<◌, length}
use Rattle.bp_theory.specs.Blocking.{Block}
use Rattle.cut_separation.proofs.by_columns.may_serve.Goals as goal

pub master-requires : goal.master-requires
master-requires c =
    let d : Block = c.block.result.now.block in
    subst (λ (e : Block). c.var_place-number.result.1 < length e.copies) (sym (c.block.ensures.block d)) (c.var_place-number.ensures.copy.within d)
