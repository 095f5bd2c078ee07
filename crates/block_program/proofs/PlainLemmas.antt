-- Where a program in blocks has no cuts, its blocking is that without them.
use Rattle.std.proofs.Common.{◌≡◌, List, [], ap, ◌∙◌}
use Rattle.bp_theory.specs.Decomposition.{blocking_of}
use Rattle.bp_theory.specs.Cuts.{cut_rows}
use Rattle.bp_theory.specs.declared.Cut.{Cut}
use Rattle.block_program.specs.Blocked.{BlockedProgram, IsFormed}

pub plain_blocking : {b : BlockedProgram} → IsFormed b → b.cuts ≡ [] → b.blocking ≡ blocking_of b.named.program b.dec []
plain_blocking {b} formed uncut =
    formed.blocking ∙ ap (λ (cuts : List Cut). blocking_of b.named.program b.dec (cut_rows b.named.program b.dec [] cuts)) uncut
