use Rattle.std.proofs.Common.{◌≡◌, All, map, take}
use Rattle.block_pricers.specs.Desks.{form_of}
use Rattle.block_pricers.specs.Forms.{form_at, forms_in}
use Rattle.block_pricers.specs.Pricers.{AreEnough, IsFitting}
use Rattle.block_pricers.specs.declared.desk.Desk.{Desk}
use Rattle.block_pricers.specs.Desks.{HaveGraphs}
use Rattle.block_pricers.proofs.GraphLemmas.{IsSpending}
use Rattle.block_pricers.proofs.desks.desks_of.Given as goal

abbrev pub invariant-loop-number : goal.invariant-loop-number
invariant-loop-number l =
    (map form_of l.desks.items ≡ map (form_at (forms_in l.b)) (take l.number-index l.blocks))
    × AreEnough l.most (map form_of l.desks.items) × All (λ (desk : Desk). IsFitting desk.pricer) l.desks.items
    × IsSpending l.room l.desks.items × HaveGraphs l.desks.items
