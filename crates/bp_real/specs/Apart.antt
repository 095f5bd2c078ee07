-- Names that are not the same.
use Rattle.std.specs.Prelude.{◌≢◌, ℕ, List, Option, Some, None, ⊤}

-- two names are not the same, where both are given
abbrev pub Differ : Option (List ℕ) → Option (List ℕ) → Type 0
Differ None other = ⊤
Differ (Some name) None = ⊤
Differ (Some name) (Some other) = name ≢ other
