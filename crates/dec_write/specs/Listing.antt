-- What is kept of the words of a row list that were taken.
use Rattle.std.specs.Prelude.{◌≡◌, ℕ, ◌<◌, ◌++◌, ◌∷◌, [], List, map, take, drop, length, Option, None, Some, Result, Ok, Err, All}
use Rattle.std.specs.declared.alloc.AllocError.{AllocError}
use Rattle.bp_model.specs.Named.{NamedProgram}
use Rattle.dec_syntax.specs.Cut.{Token, tokens}
use Rattle.dec_syntax.specs.Parts.{is_among, number_among}
use Rattle.dec_write.specs.Rows.{words_in, fault_at}
use Rattle.dec_write.specs.declared.fault.RowsKind.{RowsKind}
use Rattle.dec_write.specs.declared.rows.Listing.{Listing}

-- a listing has the rows that words name, in order, and for each row whether it is listed
pub record Keeps (names : List (List ℕ)) (listing : Listing) (words : List (List ℕ)) : Type 0 where
  pub seen : listing.seen.items ≡ map (is_among words) names
  pub rows : listing.rows.items ≡ map (number_among names) words
  pub below : All (λ r. r < length names) listing.rows.items

-- a word without this fault is kept, and else the fault is told
abbrev pub Takes : Option RowsKind → List (List ℕ) → Listing → (earlier : List (List ℕ)) → (word : List ℕ) → Result (Option RowsKind) AllocError → Type 0
Takes fault names listing earlier word (Ok None) = (fault ≡ None) × Keeps names listing (earlier ++ word ∷ [])
Takes fault names listing earlier word (Ok (Some kind)) = fault ≡ Some kind
Takes fault names listing earlier word (Err e) = Unit {0}

-- a listing of a text's words before these tokens, none of which was at fault
pub record StandsBefore (text : List ℕ) (m : NamedProgram) (listing : Listing) (left : List Token) : Type 0 where
  pub place : ℕ
  pub left_is : left ≡ drop place (tokens text)
  pub faultless : (k : ℕ) → k < place → fault_at m (tokens text) k ≡ None
  pub keeps : Keeps m.row_names listing (words_in (take place (tokens text)))
