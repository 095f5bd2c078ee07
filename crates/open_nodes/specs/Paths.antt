-- The sides of steps.
use Rattle.std.specs.Prelude.{◌≡◌, ◌<◌, ◌^◌, ℕ, List, [], ◌∷◌, ◌++◌, length}
use Rattle.search_laws.specs.declared.Side.{Side}
use Rattle.search_laws.specs.declared.Side.TheVariants.{Low, High}
use Rattle.open_nodes.specs.declared.path.Steps.{Steps}
use Rattle.open_nodes.specs.declared.path.Steps.TheVariants.{Root, Low', High'}

-- the sides of steps, from the root down
abbrev pub sides_of : Steps → List Side
sides_of Root = []
sides_of (Low' p above) = sides_of above ++ Low ∷ []
sides_of (High' p above) = sides_of above ++ High ∷ []

-- a number of 64 bits is the length of sides, where that fits
abbrev pub IsLength : ℕ → List Side → Type 0
IsLength n sides = length sides < 2 ^ 64 → n ≡ length sides

-- steps go through others, so many steps further up
abbrev pub GoesThrough : Steps → Steps → ℕ → Type 0
GoesThrough steps above count = (rest : List Side) × (sides_of steps ≡ sides_of above ++ rest) × (length rest ≡ count)
