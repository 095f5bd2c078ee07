-- The versions that a program reads.
use Rattle.std.specs.Prelude.{ℕ, List, [], ◌∷◌, Option, ℤ}
use Rattle.std.specs.Ordering.{int_eq}
use Rattle.cert_format.specs.Cert.{changed}
use Rattle.cert_format.specs.Text as texts
use Rattle.cert_format.specs.Text.{Kind, first_kind, is_past}
use Rattle.cert_format.specs.declared.fault.CertKind.TheVariants.{TooLarge, Number}
use Rattle.cert_format.specs.declared.version.Version.{Version}
use Rattle.cert_format.specs.declared.version.Version.TheVariants.{One, Two, Three}

-- a version of the text
abbrev pub version_of : Version → texts.Version
version_of One = texts.One
version_of Two = texts.Two
version_of Three = texts.Three

-- the multipliers that the next leaf changes, behind a leaf with these changes
abbrev pub had_behind : Version → List (ℕ × ℤ) → List (ℕ × ℤ) → List (ℕ × ℤ)
had_behind One had changes = []
had_behind _ had changes = changed had changes

-- what is wrong with a multiplier, within a limit, of a row that had another one
abbrev pub changed_fault : ℕ → ℤ → ℤ → Option Kind
changed_fault limit had z = first_kind ((is_past limit z, TooLarge) ∷ (int_eq z had, Number) ∷ [])
