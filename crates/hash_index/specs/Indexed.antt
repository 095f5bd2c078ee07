-- What an index of hashes tells.
use Rattle.std.specs.Prelude.{◌≡◌, ◌≢◌, ℕ, ◌-◌, ◌<◌, ◌≤◌, ◌%◌, List, length, slice_index_or}
use Rattle.hash_index.specs.declared.index.HashIndex.{HashIndex}

-- one more than the number of the last hash below another number that falls into a slot of so many, 0 where none does
pub record IsLast (hashes : List ℕ) (slots slot below last : ℕ) : Type 0 where
  pub within : last ≤ below
  pub there : 0 < last → slice_index_or hashes (last - 1) 0 % slots ≡ slot
  pub others : (k : ℕ) → last ≤ k → k < below → slice_index_or hashes k 0 % slots ≢ slot

-- the slot of a hash
abbrev pub slot_in : HashIndex → ℕ → ℕ
slot_in index hash = hash % length index.heads.items

-- an index tells for each slot the last of these hashes in it, and for each hash the last before it in its slot
pub record IsIndexOf (index : HashIndex) (hashes : List ℕ) : Type 0 where
  pub many : length index.links.items ≡ length hashes
  pub heads : (slot : ℕ) → slot < length index.heads.items →
      IsLast hashes (length index.heads.items) slot (length hashes) (slice_index_or index.heads.items slot 0)
  pub links : (k : ℕ) → k < length hashes →
      IsLast hashes (length index.heads.items) (slot_in index (slice_index_or hashes k 0)) k (slice_index_or index.links.items k 0)
