-- Lists of multipliers that are made of others.
use Rattle.std.specs.Prelude.{◌≡◌, ℕ, ◌^◌, List, [], ◌∷◌, ◌++◌, ℤ, pos, ◌+ℤ◌, ◌*ℤ◌, take, drop, if◌then◌else◌, nat_eq, ◌||◌}
use Rattle.std.specs.Ordering.{int_eq}
use Rattle.open_nodes.specs.declared.changes.Change.{Change}

-- a number of two halves, the low one of 32 bits
abbrev pub from_halves : ℤ → ℕ → ℤ
from_halves high low = high *ℤ pos (2 ^ 32) +ℤ pos low

-- the multiplier that a change's row gets
abbrev pub mult_of : Change → ℤ
mult_of c = from_halves c.high c.low

-- what a change puts behind those that it keeps
abbrev pub placed : Change → List (ℕ × ℤ)
placed c = if int_eq (mult_of c) (pos 0) then [] else (c.row, mult_of c) ∷ []

-- what a change leaves of those behind
abbrev pub passed : Change → List (ℕ × ℤ) → List (ℕ × ℤ)
passed c [] = []
passed c (p ∷ rest) = if int_eq (mult_of c) (pos 0) || nat_eq p.0 c.row then rest else p ∷ rest

-- what changes make of a list
abbrev pub replay : List (ℕ × ℤ) → List Change → List (ℕ × ℤ)
replay old [] = old
replay old (c ∷ changes) = take c.keep old ++ (placed c ++ replay (passed c (drop c.keep old)) changes)

-- two lists start with one pair, and these stand behind it
pub record Starts (old new before rest : List (ℕ × ℤ)) : Type 0 where
  pub pair : ℕ × ℤ
  pub old_is : old ≡ pair ∷ before
  pub new_is : new ≡ pair ∷ rest
