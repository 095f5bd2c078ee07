-- Points of blocks that are told.
use Rattle.std.specs.Prelude.{ℕ, List, length, ℤ, Option, Some, None, if◌then◌else◌}
use Rattle.block_pricers.specs.declared.told.Told.{Told}

-- the point that is told
abbrev pub told_point : Told → Option (List ℤ)
told_point told = if told.tells then Some told.numbers.items else None

-- how many numbers it has room for
abbrev pub room_of : Told → ℕ
room_of told = length told.numbers.items
