-- Sums by variable, divided and rounded up.
use Rattle.std.specs.Prelude.{ℕ, ℤ}
use Rattle.bp_theory.specs.Sums.{round_up}

-- an entry with its number divided and rounded up
abbrev pub round_entry : ℕ → ℕ × ℤ → ℕ × ℤ
round_entry q e = (e.0, round_up e.1 q)
