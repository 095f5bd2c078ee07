-- How far `check` reads a certificate.
use Rattle.std.specs.Prelude.{ℕ, ◌⊎◌, List, [], ◌∷◌, ◌++◌, take, Result, Ok, Err, IsOk}
use Rattle.std.specs.List.{Contains, FoldsTo, concat}
use Rattle.bp_shelf.specs.declared.shelf.ShelfFault.{ShelfFault}
use Rattle.block_program.specs.Blocked.{BlockedProgram}
use Rattle.cert_format.specs.Fault.{IsSeenFault}
use Rattle.cert_format.specs.declared.fault.CertKind.{CertKind}
use Rattle.cert_text.specs.Programs.{frame_for}

-- the piece that a call gave, by the buffer behind it: none where it failed
abbrev pub piece_of : Result ℕ ShelfFault → (buffer : List ℕ) → List ℕ
piece_of (Ok count) buffer = take count buffer
piece_of (Err _) buffer = []

-- the text has a fault that no further bytes can mend
abbrev pub IsBeyondMending : BlockedProgram → List ℕ → Type 0
IsBeyondMending b text = (line : ℕ) × (kind : CertKind) × IsSeenFault (frame_for b) text line kind

-- the pieces of a text that came so far settle what is answered: one of them is empty, so that the text has ended; or together they have a
-- fault that no further bytes can mend
abbrev pub Settles : BlockedProgram → List (List ℕ) → Type 0
Settles b pieces = Contains pieces [] ⊎ IsBeyondMending b (concat pieces)

-- the pieces that were asked for, one call after the other, are the fewest that settle what is answered: without the last one they don't. Where
-- a read failed or memory was wanting, none was asked for behind it
pub record AsksForFewest {Source : Type 0} (b : BlockedProgram) (asks : Source → List ℕ → Source → Type 0) (old new : Source) (result : Result (Unit {0}) ShelfFault) : Type 0 where
  pub pieces : List (List ℕ)
  pub last : List ℕ
  pub asked : FoldsTo asks old (pieces ++ last ∷ []) new
  pub unsettled : Settles b pieces → ⊥
  pub settled : IsOk result → Settles b (pieces ++ last ∷ [])
