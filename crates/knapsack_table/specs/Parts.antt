-- The parts that are left of a number that is split.
use Rattle.std.specs.Prelude.{ℕ, ◌+◌, ◌≤◌, ◌<◌, List, [], ◌∷◌, ◌++◌}
use Rattle.search_laws.specs.Parts.{doubles, rest_part}

-- so many doubles from a first number on, and a rest
abbrev pub parts_left : (first count rest : ℕ) → List ℕ
parts_left first count rest = doubles first count ++ rest_part rest

-- each part is at least 1, and at most one more than those before it together
abbrev pub AreGrowing : ℕ → List ℕ → Type 0
AreGrowing done [] = Unit {0}
AreGrowing done (p ∷ ps) = (0 < p) × (p ≤ done + 1) × AreGrowing (done + p) ps
