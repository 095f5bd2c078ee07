-- Decompositions of a model.
use Rattle.std.specs.Prelude.{ℕ, ◌<◌, List, [], map, length, Option, None, All}
use Rattle.bp_theory.specs.Program.{Program}
use Rattle.bp_theory.specs.Decomposition.{Decomposition, HasPlaces, IsPlace}

-- the decomposition without a text: every row is a master row
abbrev pub plain_of : Program → Decomposition
plain_of p = record { blocks = 0; places = map (λ row. None) p.rows; listed = [] }

-- the listed variables and their places are there
abbrev pub HasListed : Program → Decomposition → Type 0
HasListed p d = All (λ e. (e.0 < length p.spans) × IsPlace d.blocks e.1) d.listed

-- a decomposition goes with a program
pub record GoesWith (p : Program) (d : Decomposition) : Type 0 where
  pub places : HasPlaces p d
  pub listed : HasListed p d
