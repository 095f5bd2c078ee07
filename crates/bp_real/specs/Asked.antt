-- What a disk was asked, call by call, where it keeps an account of that.
use Rattle.std.specs.Prelude.{◌≡◌, ℕ, Bool, List, [], ◌∷◌, ◌++◌, Option, Some, None, ⊤, take, Result, Ok, Err}

-- a call with what it came to: the bytes that a read gave, if it gave any, and whether a write was done
pub data Asked : Type 0 where
  reads : List ℕ → ℕ → Option (List ℕ) → Asked
  replaces : List ℕ → List ℕ → Bool → Asked
  extends : List ℕ → List ℕ → Bool → Asked

-- the bytes that a read gave, which are the first of the buffer
abbrev pub given : {E : Type 0} → Result ℕ E → List ℕ → Option (List ℕ)
given (Ok count) buffer = Some (take count buffer)
given (Err _) buffer = None

-- an account has this call more; one that isn't kept, or is kept no longer, says nothing
abbrev pub Asks : Option (List Asked) → Option (List Asked) → Asked → Type 0
Asks None now call = ⊤
Asks (Some calls) None call = ⊤
Asks (Some calls) (Some more) call = more ≡ calls ++ call ∷ []
