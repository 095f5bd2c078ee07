-- Walks along the chain of a hash, from the last to the first.
use Rattle.std.proofs.Common.{◌≡◌, ◌≢◌, refl, sym, ap, subst, ◌∙◌, ℕ, zero, suc, ◌+◌, ◌-◌, ◌<◌, ◌≤◌, List, [], ◌∷◌, ◌++◌, map, take, length, get_or, arith, ⊎_elim}
use Rattle.std.proofs.lemmas.Bool.{cases_lt}
use Rattle.std.proofs.lemmas.List.{length-map, get_or-map}
use Rattle.hash_index.specs.declared.index.HashIndex.{HashIndex}
use Rattle.hash_index.specs.Indexed.{IsLast, IsIndexOf, slot_in}

-- a walk has told of each number from here on that it isn't the one that is looked for
pub record IsWalk (index : HashIndex) (hashes : List ℕ) (hash : ℕ) (IsOther : ℕ → Type 0) (last : ℕ) : Type 0 where
  pub within : last ≤ length hashes
  pub there : 0 < last → slot_in index (get_or hashes (last - 1) 0) ≡ slot_in index hash
  pub others : (k : ℕ) → last ≤ k → k < length hashes → IsOther k

-- what stands in another slot is another one
abbrev pub AreOthers : HashIndex → List ℕ → ℕ → (ℕ → Type 0) → Type 0
AreOthers index hashes hash IsOther = (k : ℕ) → k < length hashes → slot_in index (get_or hashes k 0) ≢ slot_in index hash → IsOther k

pub walk_first : (index : HashIndex) (hashes : List ℕ) (hash : ℕ) (IsOther : ℕ → Type 0) (last : ℕ) → IsIndexOf index hashes → AreOthers index hashes hash IsOther
    → slot_in index hash < length index.heads.items → last ≡ get_or index.heads.items (slot_in index hash) 0 → IsWalk index hashes hash IsOther last
walk_first index hashes hash IsOther last i others inside e =
    let l = subst (IsLast hashes (length index.heads.items) (slot_in index hash) (length hashes)) (sym e) (i.heads (slot_in index hash) inside) in
    record { within = l.within; there = l.there; others = λ k from to. others k to (l.others k from to) }

pub walk_next : (index : HashIndex) (hashes : List ℕ) (hash : ℕ) (IsOther : ℕ → Type 0) (last next : ℕ) → IsIndexOf index hashes → AreOthers index hashes hash IsOther
    → IsWalk index hashes hash IsOther last → 0 < last → IsOther (last - 1) → next ≡ get_or index.links.items (last - 1) 0 → IsWalk index hashes hash IsOther next
walk_next index hashes hash IsOther last next i others w some other e =
    let inside : last - 1 < length hashes = omega (arith, some, w.within) in
    let l = subst (IsLast hashes (length index.heads.items) (slot_in index (get_or hashes (last - 1) 0)) (last - 1)) (sym e) (i.links (last - 1) inside) in
    record {
      within = omega (arith, l.within, inside);
      there = λ more. l.there more ∙ w.there some;
      others = λ k from to. ⊎_elim
          (λ before. others k to (λ same. l.others k from before (same ∙ sym (w.there some))))
          (λ behind. ⊎_elim
          (λ at. subst IsOther (let here : last - 1 ≡ k = omega (arith, behind, at) in here) other)
          (λ after. w.others k after to)
          (cases_lt k last))
          (cases_lt k (last - 1));
    }

-- a walk goes down
pub walk_down : (index : HashIndex) (hashes : List ℕ) (last next : ℕ) → IsIndexOf index hashes → last ≤ length hashes → 0 < last
    → next ≡ get_or index.links.items (last - 1) 0 → next < last
walk_down index hashes last next i within some e =
    let inside : last - 1 < length hashes = omega (arith, some, within) in
    omega (arith, (i.links (last - 1) inside).within, e, some)

-- ---- the hashes of a list's elements

-- those of the first elements and the next
pub hashes_next : {X : Type 0} (f : X → ℕ) (xs : List X) (i : ℕ) (x : X) → i < length xs → x ≡ get_or xs i x
    → map f (take i xs) ++ f x ∷ [] ≡ map f (take (i + 1) xs)
hashes_next {X} f xs i x l e =
    let one : suc i ≡ i + 1 = omega arith in
    by xs i l e ∙ ap (λ k. map f (take k xs)) one
  where
    by : (xs : List X) (i : ℕ) → i < length xs → x ≡ get_or xs i x → map f (take i xs) ++ f x ∷ [] ≡ map f (take (suc i) xs)
    by [] i l e = let none : ⊥ = omega (arith, l) in absurd none
    by (y ∷ ys) zero l e = ap (λ z. f z ∷ []) e
    by (y ∷ ys) (suc i) l e = ap (λ zs. f y ∷ zs) (by ys i (omega (arith, l)) e)

-- those of elements and one more
pub hashes_more : {X : Type 0} (f : X → ℕ) (xs : List X) (x : X) → map f xs ++ f x ∷ [] ≡ map f (xs ++ x ∷ [])
hashes_more f [] x = refl
hashes_more f (y ∷ ys) x = ap (λ zs. f y ∷ zs) (hashes_more f ys x)

-- how many there are of the first elements
pub count_first : {X : Type 0} (f : X → ℕ) (xs : List X) (i : ℕ) → i ≤ length xs → length (map f (take i xs)) ≡ i
count_first f [] zero l = refl
count_first f [] (suc i) l = let none : ⊥ = omega (arith, l) in absurd none
count_first f (x ∷ xs) zero l = refl
count_first f (x ∷ xs) (suc i) l = ap suc (count_first f xs i (omega (arith, l)))

-- an element in another slot has another hash, and so is another one
pub others_by_hash : {X : Type 0} (f : X → ℕ) (index : HashIndex) (xs : List X) (hash : ℕ) (IsOther : ℕ → Type 0)
    → ((k : ℕ) → k < length xs → ((d : X) → f (get_or xs k d) ≢ hash) → IsOther k) → AreOthers index (map f xs) hash IsOther
others_by_hash f index xs hash IsOther told = λ k inside apart.
    let there : k < length xs = omega (arith, inside, length-map xs f) in
    told k there (λ d same. apart (ap (slot_in index) (get_or-map f xs k d 0 there ∙ same)))
