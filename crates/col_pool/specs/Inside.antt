-- The numbers of the columns inside a zone.
use Rattle.std.specs.Prelude.{ℕ, suc, Bool, true, false, ◌&&◌, List, [], ◌∷◌, ℤ, int_le, if◌then◌else◌}
use Rattle.bp_theory.specs.declared.Span.{Span}
use Rattle.col_pool.specs.declared.column.Column.{Column}

-- whether a number lies within a span
abbrev pub is_within : Span → ℤ → Bool
is_within s v = int_le s.lo v && int_le v s.hi

-- whether a point has a number for each span, each within its span
abbrev pub is_inside : List Span → List ℤ → Bool
is_inside [] [] = true
is_inside [] (v ∷ vs) = false
is_inside (s ∷ ss) [] = false
is_inside (s ∷ ss) (v ∷ vs) = is_within s v && is_inside ss vs

-- the numbers of the columns inside a zone, ascending, where the first column has a number
abbrev pub numbers_inside : List Span → List Column → ℕ → List ℕ
numbers_inside zone [] n = []
numbers_inside zone (c ∷ cs) n = if is_inside zone c.point then n ∷ numbers_inside zone cs (suc n) else numbers_inside zone cs (suc n)
