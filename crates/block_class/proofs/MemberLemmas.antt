-- The blocks of each class, block by block.
use Rattle.std.proofs.Common.{◌≡◌, ℕ, zero, suc, ◌+◌, ◌<◌, ◌≤◌, Bool, true, false, List, [], ◌∷◌, ◌++◌, map, filter, length, take, get_or, set, refl, sym, ap, ◌∙◌, ⊎_elim, arith, add-one, if◌then◌else◌, length-append, zero-add}
use Rattle.std.specs.Prelude.{◌==◌, count_by}
use Rattle.std.specs.List.{range_with_len}
use Rattle.std.specs.List.Sorted.{IsStrictlyIncreasing}
use Rattle.std.proofs.lemmas.Bool.Decides.{eqb_tells}
use Rattle.std.proofs.lemmas.List.{take_all, get_or-set_same, get_or-set_other}
use Rattle.std.proofs.lemmas.List.FromFn.{get_or-range_with_len, length-range_with_len, fill_by_all, length-map-range_with_len, get_or-map-range_with_len}
use Rattle.std.proofs.lemmas.List.Kept.{IsStrictlyIncreasing-filter}
use Rattle.std.proofs.lemmas.List.Sums.{count_by_more_yes, count_by_more_no}
use Rattle.block_program.proofs.StandLemmas.{range_more}
use Rattle.search_laws.specs.Spread.{class_at, class_blocks}
use Rattle.block_class.specs.Classes.{members_of}

-- the blocks of a class among the first ones
abbrev pub members_below : List ℕ → ℕ → ℕ → List ℕ
members_below classes k c = filter (λ j. class_at classes j == c) (range_with_len 0 k)

filter_more : (q : ℕ → Bool) (xs : List ℕ) (x : ℕ) → filter q (xs ++ x ∷ []) ≡ filter q xs ++ (if q x then x ∷ [] else [])
filter_more q [] x = refl
filter_more q (y ∷ ys) x = by (q y) (filter_more q ys x)
  where
    by : (t : Bool) → filter q (ys ++ x ∷ []) ≡ filter q ys ++ (if q x then x ∷ [] else [])
        → (if t then y ∷ filter q (ys ++ x ∷ []) else filter q (ys ++ x ∷ [])) ≡ (if t then y ∷ filter q ys else filter q ys) ++ (if q x then x ∷ [] else [])
    by true e = ap (λ zs. y ∷ zs) e
    by false e = e

below_more : (classes : List ℕ) (k c : ℕ) → members_below classes (k + 1) c ≡ members_below classes k c ++ (if class_at classes k == c then k ∷ [] else [])
below_more classes k c =
    let q : ℕ → Bool = λ j. class_at classes j == c in
    ap (λ n. filter q (range_with_len 0 n)) (add-one k) ∙ ap (filter q) (range_more 0 k)
    ∙ ap (λ n. filter q (range_with_len 0 k ++ n ∷ [])) (zero-add k) ∙ filter_more q (range_with_len 0 k) k

nothing_behind : (xs : List ℕ) → xs ++ [] ≡ xs
nothing_behind [] = refl
nothing_behind (x ∷ xs) = ap (λ ys. x ∷ ys) (nothing_behind xs)

-- a block more in its class
pub members_more : (classes : List ℕ) (k class n : ℕ) (old new : List (List ℕ)) → class ≡ class_at classes k → n ≡ length old → class < n
    → new ≡ set old class (get_or old class [] ++ k ∷ []) → ((c : ℕ) → c < n → get_or old c [] ≡ members_below classes k c)
    → (c : ℕ) → c < n → get_or new c [] ≡ members_below classes (k + 1) c
members_more classes k class n old new class_is n_is there new_is h c l =
    ap (λ (all : List (List ℕ)). get_or all c []) new_is ∙ ⊎_elim
    (λ same.
    let at : class ≡ c = class_is ∙ same.1 in
    ap (λ i. get_or (set old i (get_or old i [] ++ k ∷ [])) c []) at ∙ get_or-set_same old c (get_or old c [] ++ k ∷ []) [] (omega (arith, l, n_is))
    ∙ ap (λ (ms : List ℕ). ms ++ k ∷ []) (h c l) ∙ ap (λ t. members_below classes k c ++ (if t then k ∷ [] else [])) (sym same.0))
    (λ other. get_or-set_other old class c (get_or old class [] ++ k ∷ []) [] (λ e. other.1 (sym class_is ∙ sym e)) ∙ h c l ∙ sym (nothing_behind (members_below classes k c)) ∙ ap (λ t. members_below classes k c ++ (if t then k ∷ [] else [])) (sym other.0))
    (eqb_tells (class_at classes k) c)
    ∙ sym (below_more classes k c)

-- all blocks in their classes
pub members_all : (classes : List ℕ) (n : ℕ) (all : List (List ℕ)) → length all ≡ n → ((c : ℕ) → c < n → get_or all c [] ≡ members_below classes (length classes) c)
    → all ≡ map (members_of classes) (range_with_len 0 n)
members_all classes n all each h = fill_by_all (members_of classes) all n [] each h

-- a class has as many members as blocks
pub counted : (classes : List ℕ) (c : ℕ) → length (members_of classes c) ≡ class_blocks classes c
counted classes c = so_far (length classes) (omega arith) ∙ ap (count_by (λ x. x == c)) (take_all (length classes) classes (omega arith))
  where
    last : (t : Bool) (xs : List ℕ) (x n m : ℕ) → length xs ≡ n → (t ≡ true → m ≡ n + 1) → (t ≡ false → m ≡ n) → length (xs ++ (if t then x ∷ [] else [])) ≡ m
    last true xs x n m e more same = omega (arith, length-append xs (x ∷ []), e, more refl)
    last false xs x n m e more same = ap length (nothing_behind xs) ∙ e ∙ sym (same refl)

    so_far : (k : ℕ) → k ≤ length classes → length (members_below classes k c) ≡ count_by (λ x. x == c) (take k classes)
    so_far zero l = refl
    so_far (suc k) l =
        ap (λ n. length (members_below classes n c)) (sym (add-one k)) ∙ ap length (below_more classes k c)
        ∙ last (class_at classes k == c) (members_below classes k c) k (count_by (λ x. x == c) (take k classes)) (count_by (λ x. x == c) (take (k + 1) classes))
        (so_far k (omega (arith, l)))
        (count_by_more_yes (λ x. x == c) classes k 0 (omega (arith, l)))
        (count_by_more_no (λ x. x == c) classes k 0 (omega (arith, l)))
        ∙ ap (λ n. count_by (λ x. x == c) (take n classes)) (add-one k)

-- members ascend
pub members_ascend : (classes : List ℕ) (c : ℕ) → IsStrictlyIncreasing (members_of classes c)
members_ascend classes c = IsStrictlyIncreasing-filter (λ j. class_at classes j == c) (range_with_len 0 (length classes)) (rising 0 (length classes))
  where
    rising : (a n : ℕ) → IsStrictlyIncreasing (range_with_len a n)
    rising a n k l =
        let short : length (range_with_len a n) ≡ n = length-range_with_len a n in
        omega (arith, get_or-range_with_len a n k 0 (omega (arith, l, short)), get_or-range_with_len a n (k + 1) 0 (omega (arith, l, short)))

-- the members at a class's place
pub all_are : (classes : List ℕ) (n : ℕ) (all : List (List ℕ)) → all ≡ map (members_of classes) (range_with_len 0 n) → length all ≡ n
all_are classes n all are = ap length are ∙ length-map-range_with_len (members_of classes) 0 n

pub members_at : (classes : List ℕ) (n c : ℕ) (all : List (List ℕ)) (x : List ℕ) → all ≡ map (members_of classes) (range_with_len 0 n) → c < n → x ≡ get_or all c x
    → x ≡ members_of classes c
members_at classes n c all x are l is =
    is ∙ ap (λ (ms : List (List ℕ)). get_or ms c x) are ∙ get_or-map-range_with_len (members_of classes) 0 n c c x l (zero-add c)

-- a class has no more members than there are blocks
pub few_members : (classes : List ℕ) (c : ℕ) → length (members_of classes c) ≤ length classes
few_members classes c = omega (arith, few (λ j. class_at classes j == c) (range_with_len 0 (length classes)), length-range_with_len 0 (length classes))
  where
    few : (q : ℕ → Bool) (xs : List ℕ) → length (filter q xs) ≤ length xs
    few q [] = omega arith
    few q (x ∷ xs) = by (q x) (few q xs)
      where
        by : (t : Bool) → length (filter q xs) ≤ length xs → length (if t then x ∷ filter q xs else filter q xs) ≤ suc (length xs)
        by true h = omega (arith, h)
        by false h = omega (arith, h)
