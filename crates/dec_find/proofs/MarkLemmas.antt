-- The rows that are marked, of the first ones.
use Rattle.std.proofs.Common.{◌≡◌, ℕ, ◌+◌, ◌<◌, Bool, true, false, cond, List, [], ◌∷◌, ◌++◌, get_or, All, sym, ap, ◌∙◌, arith, append-nil}
use Rattle.std.specs.Prelude.{filter}
use Rattle.std.specs.List.{range_with_len}
use Rattle.std.proofs.lemmas.List.{map-id}
use Rattle.std.proofs.lemmas.List.FromFn.{filter_of_map_range_with_len_more, length-range_with_len, get_or-range_with_len}
use Rattle.std.proofs.lemmas.List.Elements.{All-filter}

abbrev pub marked_below : (marks : List Bool) → (rows : ℕ) → List ℕ
marked_below marks n = filter (λ r. get_or marks r false) (range_with_len 0 n)

more : (marks : List Bool) (n : ℕ) → marked_below marks (n + 1) ≡ marked_below marks n ++ cond (get_or marks n false) (n ∷ []) []
more marks n =
    let test : ℕ → Bool = λ r. get_or marks r false in
    let same : 0 + n ≡ n = omega arith in
    sym (ap (filter test) (map-id (range_with_len 0 (n + 1))))
    ∙ filter_of_map_range_with_len_more test (λ (r : ℕ). r) 0 n n same
    ∙ ap (λ (xs : List ℕ). filter test xs ++ cond (test n) (n ∷ []) []) (map-id (range_with_len 0 n))

pub marked_more : (marks : List Bool) (n : ℕ) → get_or marks n false ≡ true → marked_below marks (n + 1) ≡ marked_below marks n ++ (n ∷ [])
marked_more marks n is = more marks n ∙ ap (λ (b : Bool). marked_below marks n ++ cond b (n ∷ []) []) is

pub unmarked_more : (marks : List Bool) (n : ℕ) → get_or marks n false ≡ false → marked_below marks (n + 1) ≡ marked_below marks n
unmarked_more marks n is = more marks n ∙ ap (λ (b : Bool). marked_below marks n ++ cond b (n ∷ []) []) is ∙ append-nil (marked_below marks n)

-- the marked rows are rows
pub marked_there : (marks : List Bool) (n : ℕ) → All (λ r. r < n) (marked_below marks n)
marked_there marks n = All-filter (λ r. get_or marks r false) (λ r. r < n) (range_with_len 0 n) below
  where
    below : All (λ r. r < n) (range_with_len 0 n)
    below = λ k d l.
        let low : k < n = omega (arith, l, length-range_with_len 0 n) in
        omega (arith, low, get_or-range_with_len 0 n k d low)
