-- The queue of live leaves as a list of entries.
use Rattle.std.specs.Prelude.{◌≡◌, ℕ, ◌+◌, List, [], ◌∷◌, ◌++◌, length, Some, None, ℤ}
use Rattle.std.specs.List.{filter}
use Rattle.std.specs.Ordering.{is_eq, is_lt, int_cmp, nat_cmp, ordering_then}
use Rattle.std.specs.Map.{lookup}
use Rattle.std.specs.declared.cmp.Ordering.{Ordering}
use Rattle.search_laws.specs.Queue.{Queue, SameKey, ComesFirst}
use Rattle.search_laws.specs.declared.Side.{Side}
use Rattle.search_laws.specs.declared.Side.TheVariants.{Low, High}

-- entries in order: a bound and a number of making, and the path of the leaf
abbrev pub Entries : Type 0
Entries = List ((ℤ × ℕ) × List Side)

-- the order of entries: by bound, then by number
abbrev pub key_cmp : ℤ × ℕ → ℤ × ℕ → Ordering
key_cmp x y = ordering_then (int_cmp x.0 y.0) (nat_cmp x.1 y.1)

-- entries as a look-up
abbrev pub queue_of : Entries → Queue
queue_of entries z n = lookup (λ k. is_eq (key_cmp (z, n) k)) entries

-- how many entries come before a key: those of a lower bound, and of its own bound those with a lower number
abbrev pub count_before : Entries → ℤ → ℕ → ℕ
count_before entries z n = length (filter (λ e. is_lt (key_cmp e.0 (z, n))) entries)

-- the entry at a place, from 0: exactly so many come before it
pub record IsEntryAt (entries : Entries) (place : ℕ) (z : ℤ) (n : ℕ) (path : List Side) : Type 0 where
  pub there : queue_of entries z n ≡ Some path
  pub before : count_before entries z n ≡ place

-- a queue with two entries in place of one: under a key, and under that of the next number
pub record IsDivided (before : Queue) (z : ℤ) (n : ℕ) (next : ℤ) (number : ℕ) (first second : List Side) (after : Queue) : Type 0 where
  pub gone : after z n ≡ None
  pub low : after next number ≡ Some first
  pub high : after next (number + 1) ≡ Some second
  pub others : (w : ℤ) (m : ℕ) → (SameKey w m z n → ⊥) → (SameKey w m next number → ⊥) → (SameKey w m next (number + 1) → ⊥) → after w m ≡ before w m

-- a queue with the two parts of a leaf in place of its path: they have a bound, and a number and the next one, the low part the lower
pub record IsParted (before : Queue) (path : List Side) (next : ℤ) (number : ℕ) (after : Queue) : Type 0 where
  pub bound : ℤ
  pub made : ℕ
  pub there : before bound made ≡ Some path
  pub divided : IsDivided before bound made next number (path ++ Low ∷ []) (path ++ High ∷ []) after

-- a path goes through a node's path, or is it: what it leads to lies at or below the node
abbrev pub LiesBelow : (above path : List Side) → Type 0
LiesBelow above path = (rest : List Side) × (path ≡ above ++ rest)

-- an entry of a leaf at or below a node, which no other such entry comes before
pub record IsFirstBelow (entry : Queue) (above : List Side) (z : ℤ) (n : ℕ) (path : List Side) : Type 0 where
  pub there : entry z n ≡ Some path
  pub below : LiesBelow above path
  pub first : (w : ℤ) (m : ℕ) (other : List Side) → entry w m ≡ Some other → LiesBelow above other → ComesFirst z n w m
