-- What an index of numbers tells.
use Rattle.std.specs.Prelude.{ℕ, ◌*◌, ◌/◌, ◌%◌, ◌^◌, List, map}
use Rattle.hash_index.specs.Indexed.{IsIndexOf}
use Rattle.hash_index.specs.declared.index.HashIndex.{HashIndex}

-- the hash of a number: the upper half of its product, modulo 2 ^ 64, with 2 ^ 64 divided by the golden ratio
abbrev pub mixed : ℕ → ℕ
mixed n = n * 11400714819323198485 % 2 ^ 64 / 2 ^ 32

-- an index of the hashes of numbers
abbrev pub IndexesNumbers : HashIndex → List ℕ → Type 0
IndexesNumbers index numbers = IsIndexOf index (map mixed numbers)
