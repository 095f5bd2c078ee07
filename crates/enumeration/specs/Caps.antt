-- Prefixes that are cut off.
use Rattle.std.specs.Prelude.{ℕ, ◌^◌, min, List}
use Rattle.bp_theory.specs.Classes.{prefixes}
use Rattle.bp_theory.specs.declared.Span.{Span}

-- how many beginnings of assignments spans have, cut off at 2 to the 127
abbrev pub cut_prefixes : List Span → ℕ
cut_prefixes spans = min (prefixes spans) (2 ^ 127)
