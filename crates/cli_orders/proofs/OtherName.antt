-- A subcommand that is none of the program's.
use Rattle.std.proofs.Common.{◌≢◌, List, codes}
use Rattle.clap.specs.Words.{Row, Text}
use Rattle.cli_orders.specs.Orders.{HasValues}
use Rattle.cli_orders.specs.declared.order.Order.{Order}
use Rattle.cli_orders.specs.declared.order.Order.TheVariants.{Solve, Check, Show, Gen, Demo, Detect, Propose, Merge, Migrate}

-- no order goes by another name than those of the subcommands
pub other_name : (name : Text) (rows : List Row) (order : Order) → name ≢ codes "solve" → name ≢ codes "check" → name ≢ codes "show" → name ≢ codes "gen"
    → name ≢ codes "demo" → name ≢ codes "detect" → name ≢ codes "propose" → name ≢ codes "merge" → name ≢ codes "migrate" → HasValues name rows order → ⊥
other_name name rows (Solve given) s c h g d t p m n has = s has.0
other_name name rows (Check given) s c h g d t p m n has = c has.0
other_name name rows (Show lp dec blocks classes limits) s c h g d t p m n has = h has.0
other_name name rows (Gen seed size lp dec) s c h g d t p m n has = g has.0
other_name name rows (Demo seed size) s c h g d t p m n has = d has.0
other_name name rows (Detect lp list dec limits) s c h g d t p m n has = t has.0
other_name name rows (Propose lp dec limits) s c h g d t p m n has = p has.0
other_name name rows (Merge given) s c h g d t p m n has = m has.0
other_name name rows (Migrate lp cert new dec limits) s c h g d t p m n has = n has.0
