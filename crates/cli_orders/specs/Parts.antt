-- What the rows of a subcommand say of the files and numbers that several orders name alike.
use Rattle.std.specs.Prelude.{◌≡◌, List, Some, codes}
use Rattle.clap.specs.Words.{Row, first_of}
use Rattle.cli_orders.specs.CommandLine.{most_steps, most_leaf, most_seed, most_size, most_workers, most_cuts}
use Rattle.cli_orders.specs.Orders.{HasNumber, MayHaveNumber, HasCount}
use Rattle.cli_orders.specs.declared.parts.Problem.{Problem}
use Rattle.cli_orders.specs.declared.parts.Pair.{Pair}
use Rattle.cli_orders.specs.declared.parts.Sides.{Sides}
use Rattle.cli_orders.specs.declared.parts.Ends.{Ends}
use Rattle.cli_orders.specs.declared.parts.Scale.{Scale}
use Rattle.cli_orders.specs.declared.parts.SolveNumbers.{SolveNumbers}

pub record IsProblem (rows : List Row) (problem : Problem) : Type 0 where
  pub lp : first_of (codes "lp") rows ≡ Some problem.lp
  pub dec : first_of (codes "dec") rows ≡ problem.dec

pub record IsPair (rows : List Row) (pair : Pair) : Type 0 where
  pub lp : first_of (codes "lp") rows ≡ Some pair.lp
  pub dec : first_of (codes "dec") rows ≡ Some pair.dec

pub record AreSides (rows : List Row) (sides : Sides) : Type 0 where
  pub first : first_of (codes "first") rows ≡ Some sides.first
  pub second : first_of (codes "second") rows ≡ Some sides.second

pub record AreEnds (rows : List Row) (ends : Ends) : Type 0 where
  pub cert : first_of (codes "cert") rows ≡ ends.cert
  pub from : first_of (codes "from") rows ≡ ends.from

pub record IsScale (rows : List Row) (scale : Scale) : Type 0 where
  pub seed : HasNumber (first_of (codes "seed") rows) 0 most_seed scale.seed
  pub size : HasNumber (first_of (codes "size") rows) 1 most_size scale.size

pub record AreSolveNumbers (rows : List Row) (numbers : SolveNumbers) : Type 0 where
  pub steps : MayHaveNumber (first_of (codes "steps") rows) 0 most_steps numbers.steps
  pub leaf : MayHaveNumber (first_of (codes "leaf") rows) 1 most_leaf numbers.leaf
  pub workers : MayHaveNumber (first_of (codes "workers") rows) 1 most_workers numbers.workers
  pub order : MayHaveNumber (first_of (codes "order") rows) 0 most_seed numbers.order
  pub cuts : HasCount (first_of (codes "cuts") rows) most_cuts numbers.cuts
