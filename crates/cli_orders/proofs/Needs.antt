-- What an order needs of the rows of its subcommand.
use Rattle.std.proofs.Common.{◌≡◌, sym, subst, ℕ, Bool, true, false, List, Option, Some, None, codes}
use Rattle.std.specs.Str.{bytes_eq}
use Rattle.clap.specs.Words.{Row, Text, first_of}
use Rattle.cli_orders.specs.CommandLine.{most_visits}
use Rattle.cli_orders.specs.Orders.{HasValues, ArePlaced, MayHaveNumber}
use Rattle.cli_orders.specs.Parts.{IsPair, AreSides, IsScale, AreSolveNumbers}
use Rattle.cli_orders.specs.declared.order.Order.{Order}
use Rattle.cli_orders.specs.declared.order.Order.TheVariants.{Solve, Check, Show, Gen, Demo, Detect, Propose, Merge, Migrate}
use Rattle.cli_orders.specs.declared.parts.Pair.{Pair}
use Rattle.cli_orders.specs.declared.parts.Sides.{Sides}
use Rattle.cli_orders.specs.declared.parts.Scale.{Scale}
use Rattle.cli_orders.specs.declared.parts.SolveNumbers.{SolveNumbers}

-- a value is there
pub record IsThere (given : Option Text) : Type 0 where
  pub text : Text
  pub is : given ≡ Some text

pub not_there : (given : Option Text) → given ≡ None → IsThere given → ⊥
not_there given none there = let e = there.is in absurd (cc)

pub record SolveNeeds (rows : List Row) : Type 0 where
  pub numbers : SolveNumbers
  pub are : AreSolveNumbers rows numbers
  pub placed : ArePlaced rows
  pub lp : IsThere (first_of (codes "lp") rows)

pub record CheckNeeds (rows : List Row) : Type 0 where
  pub visits : Option ℕ
  pub number : MayHaveNumber (first_of (codes "visits") rows) 0 most_visits visits
  pub cert : IsThere (first_of (codes "cert") rows)
  pub lp : IsThere (first_of (codes "lp") rows)

pub record ShowNeeds (rows : List Row) : Type 0 where
  pub lp : IsThere (first_of (codes "lp") rows)

pub record GenNeeds (rows : List Row) : Type 0 where
  pub scale : Scale
  pub is : IsScale rows scale
  pub pair : Pair
  pub files : IsPair rows pair

pub record DemoNeeds (rows : List Row) : Type 0 where
  pub scale : Scale
  pub is : IsScale rows scale

pub record DetectNeeds (rows : List Row) : Type 0 where
  pub list : IsThere (first_of (codes "rows") rows)
  pub pair : Pair
  pub files : IsPair rows pair

pub record ProposeNeeds (rows : List Row) : Type 0 where
  pub pair : Pair
  pub files : IsPair rows pair

pub record MergeNeeds (rows : List Row) : Type 0 where
  pub sides : Sides
  pub are : AreSides rows sides
  pub new : IsThere (first_of (codes "new") rows)
  pub lp : IsThere (first_of (codes "lp") rows)

pub record MigrateNeeds (rows : List Row) : Type 0 where
  pub cert : IsThere (first_of (codes "cert") rows)
  pub new : IsThere (first_of (codes "new") rows)
  pub lp : IsThere (first_of (codes "lp") rows)

-- one of two types, by a test
abbrev choose : Bool → Type 0 → Type 0 → Type 0
choose true one other = one
choose false one other = other

-- what the subcommand of a name needs
abbrev Needs : Text → List Row → Type 0
Needs name rows = choose (bytes_eq name (codes "solve")) (SolveNeeds rows)
    (choose (bytes_eq name (codes "check")) (CheckNeeds rows)
    (choose (bytes_eq name (codes "show")) (ShowNeeds rows)
    (choose (bytes_eq name (codes "gen")) (GenNeeds rows)
    (choose (bytes_eq name (codes "demo")) (DemoNeeds rows)
    (choose (bytes_eq name (codes "detect")) (DetectNeeds rows)
    (choose (bytes_eq name (codes "propose")) (ProposeNeeds rows)
    (choose (bytes_eq name (codes "merge")) (MergeNeeds rows)
    (choose (bytes_eq name (codes "migrate")) (MigrateNeeds rows) (Unit {0})))))))))

by_name : (name : Text) (rows : List Row) (known : Text) → name ≡ known → Needs known rows → Needs name rows
by_name name rows known is needs = subst (λ (n : Text). Needs n rows) (sym is) needs

needs : (name : Text) (rows : List Row) (order : Order) → HasValues name rows order → Needs name rows
needs name rows (Solve given) has = by_name name rows (codes "solve") has.0 (record {
  numbers = record { steps = given.steps; leaf = given.leaf; workers = given.workers; order = given.order; cuts = given.cuts };
  are = record { steps = has.3; leaf = has.6; workers = has.7; order = has.8; cuts = has.10 };
  placed = has.9;
  lp = record { text = given.lp; is = has.1 };
})
needs name rows (Check given) has = by_name name rows (codes "check") has.0 (record {
  visits = given.visits;
  number = has.4;
  cert = record { text = given.cert; is = has.2 };
  lp = record { text = given.lp; is = has.1 };
})
needs name rows (Show lp dec blocks classes limits) has = by_name name rows (codes "show") has.0 (record { lp = record { text = lp; is = has.1 } })
needs name rows (Gen seed size lp dec) has = by_name name rows (codes "gen") has.0 (record {
  scale = record { seed = seed; size = size };
  is = record { seed = has.1; size = has.2 };
  pair = record { lp = lp; dec = dec };
  files = record { lp = has.3; dec = has.4 };
})
needs name rows (Demo seed size) has = by_name name rows (codes "demo") has.0 (record {
  scale = record { seed = seed; size = size };
  is = record { seed = has.1; size = has.2 };
})
needs name rows (Detect lp list dec limits) has = by_name name rows (codes "detect") has.0 (record {
  list = record { text = list; is = has.2 };
  pair = record { lp = lp; dec = dec };
  files = record { lp = has.1; dec = has.3 };
})
needs name rows (Propose lp dec limits) has = by_name name rows (codes "propose") has.0 (record {
  pair = record { lp = lp; dec = dec };
  files = record { lp = has.1; dec = has.2 };
})
needs name rows (Merge given) has = by_name name rows (codes "merge") has.0 (record {
  sides = record { first = given.first; second = given.second };
  are = record { first = has.2; second = has.3 };
  new = record { text = given.new; is = has.4 };
  lp = record { text = given.lp; is = has.1 };
})
needs name rows (Migrate lp cert new dec limits) has = by_name name rows (codes "migrate") has.0 (record {
  cert = record { text = cert; is = has.2 };
  new = record { text = new; is = has.3 };
  lp = record { text = lp; is = has.1 };
})

pub solve_needs : (rows : List Row) (order : Order) → HasValues (codes "solve") rows order → SolveNeeds rows
solve_needs = needs (codes "solve")

pub check_needs : (rows : List Row) (order : Order) → HasValues (codes "check") rows order → CheckNeeds rows
check_needs = needs (codes "check")

pub show_needs : (rows : List Row) (order : Order) → HasValues (codes "show") rows order → ShowNeeds rows
show_needs = needs (codes "show")

pub gen_needs : (rows : List Row) (order : Order) → HasValues (codes "gen") rows order → GenNeeds rows
gen_needs = needs (codes "gen")

pub demo_needs : (rows : List Row) (order : Order) → HasValues (codes "demo") rows order → DemoNeeds rows
demo_needs = needs (codes "demo")

pub detect_needs : (rows : List Row) (order : Order) → HasValues (codes "detect") rows order → DetectNeeds rows
detect_needs = needs (codes "detect")

pub propose_needs : (rows : List Row) (order : Order) → HasValues (codes "propose") rows order → ProposeNeeds rows
propose_needs = needs (codes "propose")

pub merge_needs : (rows : List Row) (order : Order) → HasValues (codes "merge") rows order → MergeNeeds rows
merge_needs = needs (codes "merge")

pub migrate_needs : (rows : List Row) (order : Order) → HasValues (codes "migrate") rows order → MigrateNeeds rows
migrate_needs = needs (codes "migrate")
