use Rattle.std.proofs.Common.{◌≡◌, ◌≤◌, map}
use Rattle.lagr_bound.specs.Bounded.{AreKnown, AreTold}
use Rattle.block_pricers.specs.Told.{told_point}
use Rattle.block_pricers.specs.Works.{forms_of}
use Rattle.lagr_bound.proofs.PartLemmas.{HasParts}
use Rattle.lagr_bound.proofs.alike.bound.Given as goal

abbrev pub invariant-loop-number : goal.invariant-loop-number
invariant-loop-number l =
    (forms_of l.work ≡ forms_of l.initial.work) × HasParts l.b.blocking l.zone l.proof l.number l.sum × (l.number ≤ l.blocks)
    × AreKnown l.b.blocking l.zone l.proof l.classes.classes l.classes.firsts l.number l.work.known.items
    × AreTold l.b.blocking l.zone l.proof l.classes.classes l.number (map told_point l.work.told.items)
