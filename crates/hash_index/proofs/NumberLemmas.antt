-- Numbers and their hashes.
use Rattle.std.proofs.Common.{◌≡◌, ◌≢◌, ◌∙◌, refl, ap, ℕ, zero, suc, ◌<◌, List, [], ◌∷◌, map, length, get_or, arith, Contains}
use Rattle.hash_index.specs.Numbers.{mixed}
use Rattle.hash_index.specs.declared.index.HashIndex.{HashIndex}
use Rattle.hash_index.proofs.WalkLemmas.{AreOthers, others_by_hash}

-- a number with another hash is another one
pub other_numbers : (index : HashIndex) (numbers : List ℕ) (number : ℕ)
    → AreOthers index (map mixed numbers) (mixed number) (λ k. get_or numbers k 0 ≢ number)
other_numbers index numbers number =
    others_by_hash mixed index numbers (mixed number) (λ k. get_or numbers k 0 ≢ number) (λ k l apart same. apart 0 (ap mixed same))

-- what is read at a place that is there
pub same_read : (xs : List ℕ) (k d e : ℕ) → k < length xs → get_or xs k d ≡ get_or xs k e
same_read [] k d e l = let none : ⊥ = omega (arith, l) in absurd none
same_read (y ∷ ys) zero d e l = refl
same_read (y ∷ ys) (suc k) d e l = same_read ys k d e (omega (arith, l))

-- where each number is another one, the number isn't there
pub none_there : (numbers : List ℕ) (number : ℕ) → ((k : ℕ) → k < length numbers → get_or numbers k 0 ≢ number) → Contains numbers number → ⊥
none_there numbers number others there = others there.0 there.1 (same_read numbers there.0 0 number there.1 ∙ there.2)
