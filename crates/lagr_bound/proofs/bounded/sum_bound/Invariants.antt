use Rattle.std.proofs.Common.{◌≡◌, ◌≤◌}
use Rattle.block_pricers.specs.Works.{forms_of, IsSilent}
use Rattle.lagr_bound.proofs.PartLemmas.{HasParts}
use Rattle.lagr_bound.proofs.bounded.sum_bound.Given as goal

abbrev pub invariant-loop-number : goal.invariant-loop-number
invariant-loop-number l =
    (forms_of l.work ≡ forms_of l.initial.work) × IsSilent l.work × HasParts l.b.blocking l.zone l.proof l.number l.sum × (l.number ≤ l.blocks)
