-- An index of hashes after a push, and without its first.
use Rattle.std.proofs.Common.{◌≡◌, ◌≢◌, refl, sym, ap, subst, ◌∙◌, ℕ, zero, suc, ◌+◌, ◌-◌, ◌<◌, ◌≤◌, ◌%◌, List, [], ◌∷◌, ◌++◌, map, take, drop, set, length, get_or, arith, ⊎_elim}
use Rattle.std.proofs.lemmas.Bool.{cases_lt}
use Rattle.std.proofs.lemmas.Bool.Decides.{eqb_tells}
use Rattle.std.proofs.lemmas.List.{get_or-map, length-map, length-set, get_or-set_same, get_or-set_other}
use Rattle.hash_index.specs.declared.index.HashIndex.{HashIndex}
use Rattle.hash_index.specs.Indexed.{IsLast, IsIndexOf, slot_in}

-- ---- lists

pub length_more : (xs : List ℕ) (x : ℕ) → length (xs ++ x ∷ []) ≡ suc (length xs)
length_more [] x = refl
length_more (y ∷ ys) x = ap suc (length_more ys x)

pub more_before : (xs : List ℕ) (x k : ℕ) → k < length xs → get_or (xs ++ x ∷ []) k 0 ≡ get_or xs k 0
more_before [] x k l = let none : ⊥ = omega (arith, l) in absurd none
more_before (y ∷ ys) x zero l = refl
more_before (y ∷ ys) x (suc k) l = more_before ys x k (omega (arith, l))

pub more_last : (xs : List ℕ) (x : ℕ) → get_or (xs ++ x ∷ []) (length xs) 0 ≡ x
more_last [] x = refl
more_last (y ∷ ys) x = more_last ys x

length_dropped : (xs : List ℕ) → length (drop 1 xs) ≡ length xs - 1
length_dropped [] = refl
length_dropped (x ∷ xs) = omega arith

dropped_at : (xs : List ℕ) (k : ℕ) → get_or (drop 1 xs) k 0 ≡ get_or xs (suc k) 0
dropped_at [] k = refl
dropped_at (x ∷ xs) k = refl

-- a slice written back whole
pub whole : (xs items : List ℕ) (n : ℕ) → n ≡ length xs → take n (xs ++ drop (length xs) items) ≡ xs
whole xs items n e = ap (λ k. take k (xs ++ drop (length xs) items)) e ∙ by xs (drop (length xs) items)
  where
    by : (xs ys : List ℕ) → take (length xs) (xs ++ ys) ≡ xs
    by [] ys = refl
    by (x ∷ xs) ys = ap (λ zs. x ∷ zs) (by xs ys)

-- what is read at a place that is there
pub read_at : (xs : List ℕ) (k x : ℕ) → k < length xs → x ≡ get_or xs k x → x ≡ get_or xs k 0
read_at [] k x l e = let none : ⊥ = omega (arith, l) in absurd none
read_at (y ∷ ys) zero x l e = e
read_at (y ∷ ys) (suc k) x l e = read_at ys k x (omega (arith, l)) e

-- one number more is one less
lowered_next : (xs : List ℕ) (i x : ℕ) → i < length xs → x ≡ get_or (map (λ n. n - 1) (take i xs) ++ drop i xs) i 0 - 1
    → set (map (λ n. n - 1) (take i xs) ++ drop i xs) i x ≡ map (λ n. n - 1) (take (suc i) xs) ++ drop (suc i) xs
lowered_next [] i x l e = let none : ⊥ = omega (arith, l) in absurd none
lowered_next (y ∷ ys) zero x l e = ap (λ z. z ∷ ys) e
lowered_next (y ∷ ys) (suc i) x l e = ap (λ zs. (y - 1) ∷ zs) (lowered_next ys i x (omega (arith, l)) e)

pub lowered_more : (xs now : List ℕ) (i x : ℕ) → i < length xs → now ≡ map (λ n. n - 1) (take i xs) ++ drop i xs → x ≡ get_or now i 0 - 1
    → set now i x ≡ map (λ n. n - 1) (take (i + 1) xs) ++ drop (i + 1) xs
lowered_more xs now i x l is e =
    let one : suc i ≡ i + 1 = omega arith in
    ap (λ ns. set ns i x) is ∙ lowered_next xs i x l (e ∙ ap (λ ns. get_or ns i 0 - 1) is) ∙ ap (λ k. map (λ n. n - 1) (take k xs) ++ drop k xs) one

-- ---- the last in a slot

-- one hash more doesn't matter to what is below it
last_kept : (hashes : List ℕ) (h slots slot below last : ℕ) → below ≤ length hashes → IsLast hashes slots slot below last
    → IsLast (hashes ++ h ∷ []) slots slot below last
last_kept hashes h slots slot below last few l = record {
  within = l.within;
  there = λ some. ap (λ x. x % slots) (more_before hashes h (last - 1) (omega (arith, some, few, l.within))) ∙ l.there some;
  others = λ k from to same. l.others k from to (ap (λ x. x % slots) (sym (more_before hashes h k (omega (arith, to, few)))) ∙ same);
}

-- a hash more in another slot
last_other : (hashes : List ℕ) (h slots slot last : ℕ) → h % slots ≢ slot → IsLast hashes slots slot (length hashes) last
    → IsLast (hashes ++ h ∷ []) slots slot (length (hashes ++ h ∷ [])) last
last_other hashes h slots slot last apart l =
    let kept = last_kept hashes h slots slot (length hashes) last (omega arith) l in
    record {
      within = omega (arith, l.within, length_more hashes h);
      there = kept.there;
      others = λ k from to same. ⊎_elim
          (λ before. kept.others k from before same)
          (λ behind.
          let here : k ≡ length hashes = omega (arith, behind, to, length_more hashes h) in
          apart (ap (λ x. x % slots) (sym (ap (λ n. get_or (hashes ++ h ∷ []) n 0) here ∙ more_last hashes h)) ∙ same))
          (cases_lt k (length hashes));
    }

-- a hash more in this slot
last_here : (hashes : List ℕ) (h slots slot last : ℕ) → h % slots ≡ slot → last ≡ suc (length hashes)
    → IsLast (hashes ++ h ∷ []) slots slot (length (hashes ++ h ∷ [])) last
last_here hashes h slots slot last same is = record {
  within = omega (arith, is, length_more hashes h);
  there = λ some.
      let place : last - 1 ≡ length hashes = omega (arith, is) in
      ap (λ x. x % slots) (ap (λ n. get_or (hashes ++ h ∷ []) n 0) place ∙ more_last hashes h) ∙ same;
  others = λ k from to e. let none : ⊥ = omega (arith, from, to, is, length_more hashes h) in none;
}

-- without the first hash each stands one place lower
last_lower : (hashes : List ℕ) (slots slot below last : ℕ) → IsLast hashes slots slot (suc below) last
    → IsLast (drop 1 hashes) slots slot below (last - 1)
last_lower hashes slots slot below last l = record {
  within = omega (arith, l.within);
  there = λ some.
      let place : suc (last - 1 - 1) ≡ last - 1 = omega (arith, some) in
      ap (λ x. x % slots) (dropped_at hashes (last - 1 - 1) ∙ ap (λ n. get_or hashes n 0) place) ∙ l.there (omega (arith, some));
  others = λ k from to same.
      l.others (suc k) (omega (arith, from)) (omega (arith, to)) (ap (λ x. x % slots) (sym (dropped_at hashes k)) ∙ same);
}

-- ---- the index

-- with a hash more
pub index_more : (old new : HashIndex) (hashes : List ℕ) (h : ℕ) → IsIndexOf old hashes
    → length new.heads.items ≡ length old.heads.items
    → new.links.items ≡ old.links.items ++ get_or old.heads.items (slot_in old h) 0 ∷ []
    → slot_in old h < length old.heads.items
    → get_or new.heads.items (slot_in old h) 0 ≡ suc (length hashes)
    → ((slot : ℕ) → slot ≢ slot_in old h → get_or new.heads.items slot 0 ≡ get_or old.heads.items slot 0)
    → IsIndexOf new (hashes ++ h ∷ [])
index_more old new hashes h i same links inside here others = record {
  many = ap length links ∙ length_more old.links.items (get_or old.heads.items (slot_in old h) 0) ∙ ap suc i.many ∙ sym (length_more hashes h);
  heads = λ slot l.
      let there : slot < length old.heads.items = omega (arith, l, same) in
      subst (λ n. IsLast (hashes ++ h ∷ []) n slot (length (hashes ++ h ∷ [])) (get_or new.heads.items slot 0)) (sym same) (⊎_elim
      (λ e. last_here hashes h (length old.heads.items) slot (get_or new.heads.items slot 0) (sym e.1)
      (ap (λ s. get_or new.heads.items s 0) e.1 ∙ here))
      (λ e. subst (IsLast (hashes ++ h ∷ []) (length old.heads.items) slot (length (hashes ++ h ∷ []))) (sym (others slot e.1))
      (last_other hashes h (length old.heads.items) slot (get_or old.heads.items slot 0) (λ s. e.1 (sym s)) (i.heads slot there)))
      (eqb_tells slot (slot_in old h)));
  links = λ k l.
      subst (λ n. IsLast (hashes ++ h ∷ []) n (get_or (hashes ++ h ∷ []) k 0 % n) k (get_or new.links.items k 0)) (sym same)
      (subst (λ ls. IsLast (hashes ++ h ∷ []) (length old.heads.items) (get_or (hashes ++ h ∷ []) k 0 % length old.heads.items) k (get_or ls k 0)) (sym links)
      (⊎_elim
      (λ before. earlier k before)
      (λ behind. last k (omega (arith, behind, l, length_more hashes h)))
      (cases_lt k (length hashes))));
}
  where
    m : ℕ
    m = length old.heads.items

    head : ℕ
    head = get_or old.heads.items (slot_in old h) 0

    earlier : (k : ℕ) → k < length hashes
        → IsLast (hashes ++ h ∷ []) m (get_or (hashes ++ h ∷ []) k 0 % m) k (get_or (old.links.items ++ head ∷ []) k 0)
    earlier k l =
        subst (λ x. IsLast (hashes ++ h ∷ []) m (x % m) k (get_or (old.links.items ++ head ∷ []) k 0)) (sym (more_before hashes h k l))
        (subst (IsLast (hashes ++ h ∷ []) m (get_or hashes k 0 % m) k) (sym (more_before old.links.items head k (omega (arith, l, i.many))))
        (last_kept hashes h m (get_or hashes k 0 % m) k (get_or old.links.items k 0) (omega (arith, l)) (i.links k l)))

    last : (k : ℕ) → k ≡ length hashes
        → IsLast (hashes ++ h ∷ []) m (get_or (hashes ++ h ∷ []) k 0 % m) k (get_or (old.links.items ++ head ∷ []) k 0)
    last k e =
        let value : get_or (hashes ++ h ∷ []) k 0 ≡ h = ap (λ n. get_or (hashes ++ h ∷ []) n 0) e ∙ more_last hashes h in
        let link : get_or (old.links.items ++ head ∷ []) k 0 ≡ head = ap (λ n. get_or (old.links.items ++ head ∷ []) n 0) (e ∙ sym i.many) ∙ more_last old.links.items head in
        subst (λ x. IsLast (hashes ++ h ∷ []) m (x % m) k (get_or (old.links.items ++ head ∷ []) k 0)) (sym value)
        (subst (IsLast (hashes ++ h ∷ []) m (h % m) k) (sym link)
        (subst (λ n. IsLast (hashes ++ h ∷ []) m (h % m) n head) (sym e)
        (last_kept hashes h m (h % m) (length hashes) head (omega arith) (i.heads (slot_in old h) inside))))

-- with a hash more, put at its slot
pub index_put : (old new : HashIndex) (hashes : List ℕ) (h slot last number : ℕ) → IsIndexOf old hashes → slot ≡ slot_in old h → slot < length old.heads.items
    → last ≡ get_or old.heads.items slot 0 → number ≡ suc (length hashes) → new.heads.items ≡ set old.heads.items slot number
    → new.links.items ≡ old.links.items ++ last ∷ [] → IsIndexOf new (hashes ++ h ∷ [])
index_put old new hashes h slot last number i slot_is there last_is number_is heads links =
    index_more old new hashes h i
    (ap length heads ∙ length-set old.heads.items slot number)
    (links ∙ ap (λ x. old.links.items ++ x ∷ []) (last_is ∙ ap (λ s. get_or old.heads.items s 0) slot_is))
    (subst (λ s. s < length old.heads.items) slot_is there)
    (ap (λ ns. get_or ns (slot_in old h) 0) heads ∙ ap (λ s. get_or (set old.heads.items slot number) s 0) (sym slot_is)
    ∙ get_or-set_same old.heads.items slot number 0 there ∙ number_is)
    (λ other apart. ap (λ ns. get_or ns other 0) heads ∙ get_or-set_other old.heads.items slot other number 0 (λ e. apart (e ∙ slot_is)))

-- without the first hash
pub index_lower : (old new : HashIndex) (hashes : List ℕ) → IsIndexOf old hashes → 0 < length hashes
    → new.heads.items ≡ map (λ n. n - 1) old.heads.items
    → new.links.items ≡ map (λ n. n - 1) (drop 1 old.links.items)
    → IsIndexOf new (drop 1 hashes)
index_lower old new hashes i some heads links = record {
  many = ap length links ∙ length-map (drop 1 old.links.items) (λ n. n - 1) ∙ length_dropped old.links.items ∙ ap (λ n. n - 1) i.many ∙ sym (length_dropped hashes);
  heads = λ slot l.
      let there : slot < length old.heads.items = omega (arith, l, same) in
      let one : length hashes ≡ suc (length (drop 1 hashes)) = omega (arith, some, length_dropped hashes) in
      subst (λ n. IsLast (drop 1 hashes) n slot (length (drop 1 hashes)) (get_or new.heads.items slot 0)) (sym same)
      (subst (IsLast (drop 1 hashes) m slot (length (drop 1 hashes))) (sym (ap (λ ns. get_or ns slot 0) heads ∙ get_or-map (λ n. n - 1) old.heads.items slot 0 0 there))
      (last_lower hashes m slot (length (drop 1 hashes)) (get_or old.heads.items slot 0)
      (subst (λ n. IsLast hashes m slot n (get_or old.heads.items slot 0)) one (i.heads slot there))));
  links = λ k l.
      let inside : suc k < length hashes = omega (arith, l, length_dropped hashes) in
      let within : k < length (drop 1 old.links.items) = omega (arith, inside, length_dropped old.links.items, i.many) in
      subst (λ n. IsLast (drop 1 hashes) n (get_or (drop 1 hashes) k 0 % n) k (get_or new.links.items k 0)) (sym same)
      (subst (λ x. IsLast (drop 1 hashes) m (x % m) k (get_or new.links.items k 0)) (sym (dropped_at hashes k))
      (subst (IsLast (drop 1 hashes) m (get_or hashes (suc k) 0 % m) k)
      (sym (ap (λ ns. get_or ns k 0) links ∙ get_or-map (λ n. n - 1) (drop 1 old.links.items) k 0 0 within ∙ ap (λ n. n - 1) (dropped_at old.links.items k)))
      (last_lower hashes m (get_or hashes (suc k) 0 % m) k (get_or old.links.items (suc k) 0) (i.links (suc k) inside))));
}
  where
    m : ℕ
    m = length old.heads.items

    same : length new.heads.items ≡ m
    same = ap length heads ∙ length-map old.heads.items (λ n. n - 1)
