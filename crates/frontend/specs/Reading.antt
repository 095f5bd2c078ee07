-- What reading a file says of its bytes.
use Rattle.std.specs.Prelude.{◌≡◌, ℕ, Bool, IsTrue, List, take, length, Option, IfSome}

-- where files are told, these are the first bytes of the file, if it is there
abbrev pub HasFront : Bool → Option (List ℕ) → List ℕ → Type 0
HasFront told file bytes = IsTrue told → IfSome file (λ all. bytes ≡ take (length bytes) all)
