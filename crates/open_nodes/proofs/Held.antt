-- Where each place below the number of live leaves is held, each live leaf is.
use Rattle.std.proofs.Common.{◌≡◌, ℕ, zero, suc, ◌+◌, ◌<◌, ◌≤◌, Bool, true, false, List, [], ◌∷◌, length, Some, ℤ, inl, inr, sym, subst, ap, ◌∙◌, refl, arith, nat_lt}
use Rattle.std.specs.Prelude.{⊤}
use Rattle.std.proofs.lemmas.Bool.{ltb-true, ltb-false}
use Rattle.search_laws.specs.declared.Side.{Side}
use Rattle.search_laws.specs.declared.Side.TheVariants.{Low, High}
use Rattle.search_laws.specs.Grove.{GrowingTree, LiveLeaf, live, shut, fork, live_at, live_count}
use Rattle.search_laws.specs.Queue.{IsQueue}
use Rattle.open_nodes.specs.Queues.{Entries, queue_of, count_before, IsEntryAt}
use Rattle.open_nodes.proofs.Places.{IsAmong, lows, highs, same_entry}

-- ---- live paths of which none stands twice are no more than the live leaves

abbrev AreLive : GrowingTree → List (List Side) → Type 0
AreLive t [] = ⊤
AreLive t (p ∷ ps) = ((leaf : LiveLeaf) × (live_at t p ≡ Some leaf)) × AreLive t ps

abbrev AreApart : List (List Side) → Type 0
AreApart [] = ⊤
AreApart (p ∷ ps) = (IsAmong ps p → ⊥) × AreApart ps

lows_live : (v : ℕ) (at : ℤ) (low high : GrowingTree) (ps : List (List Side)) → AreLive (fork v at low high) ps → AreLive low (lows ps)
lows_live v at low high [] h = tt
lows_live v at low high ([] ∷ ps) h = lows_live v at low high ps h.1
lows_live v at low high ((Low ∷ p) ∷ ps) h = (h.0, lows_live v at low high ps h.1)
lows_live v at low high ((High ∷ p) ∷ ps) h = lows_live v at low high ps h.1

highs_live : (v : ℕ) (at : ℤ) (low high : GrowingTree) (ps : List (List Side)) → AreLive (fork v at low high) ps → AreLive high (highs ps)
highs_live v at low high [] h = tt
highs_live v at low high ([] ∷ ps) h = highs_live v at low high ps h.1
highs_live v at low high ((Low ∷ p) ∷ ps) h = highs_live v at low high ps h.1
highs_live v at low high ((High ∷ p) ∷ ps) h = (h.0, highs_live v at low high ps h.1)

among_lows : (ps : List (List Side)) (path : List Side) → IsAmong (lows ps) path → IsAmong ps (Low ∷ path)
among_lows [] path h = absurd h
among_lows ([] ∷ ps) path h = inr (among_lows ps path h)
among_lows ((Low ∷ p) ∷ ps) path (inl e) = inl (ap (λ q. Low ∷ q) e)
among_lows ((Low ∷ p) ∷ ps) path (inr h) = inr (among_lows ps path h)
among_lows ((High ∷ p) ∷ ps) path h = inr (among_lows ps path h)

among_highs : (ps : List (List Side)) (path : List Side) → IsAmong (highs ps) path → IsAmong ps (High ∷ path)
among_highs [] path h = absurd h
among_highs ([] ∷ ps) path h = inr (among_highs ps path h)
among_highs ((Low ∷ p) ∷ ps) path h = inr (among_highs ps path h)
among_highs ((High ∷ p) ∷ ps) path (inl e) = inl (ap (λ q. High ∷ q) e)
among_highs ((High ∷ p) ∷ ps) path (inr h) = inr (among_highs ps path h)

lows_apart : (ps : List (List Side)) → AreApart ps → AreApart (lows ps)
lows_apart [] h = tt
lows_apart ([] ∷ ps) h = lows_apart ps h.1
lows_apart ((Low ∷ p) ∷ ps) h = (λ a. h.0 (among_lows ps p a), lows_apart ps h.1)
lows_apart ((High ∷ p) ∷ ps) h = lows_apart ps h.1

highs_apart : (ps : List (List Side)) → AreApart ps → AreApart (highs ps)
highs_apart [] h = tt
highs_apart ([] ∷ ps) h = highs_apart ps h.1
highs_apart ((Low ∷ p) ∷ ps) h = highs_apart ps h.1
highs_apart ((High ∷ p) ∷ ps) h = (λ a. h.0 (among_highs ps p a), highs_apart ps h.1)

parts_all : (v : ℕ) (at : ℤ) (low high : GrowingTree) (ps : List (List Side)) → AreLive (fork v at low high) ps
    → length ps ≤ length (lows ps) + length (highs ps)
parts_all v at low high [] h = omega arith
parts_all v at low high ([] ∷ ps) h = absurd (let e = h.0.1 in cc)
parts_all v at low high ((Low ∷ p) ∷ ps) h = omega (arith, parts_all v at low high ps h.1)
parts_all v at low high ((High ∷ p) ∷ ps) h = omega (arith, parts_all v at low high ps h.1)

no_more : (t : GrowingTree) (ps : List (List Side)) → AreLive t ps → AreApart ps → length ps ≤ live_count t
no_more (live p z) [] l a = omega arith
no_more (live p z) (q ∷ []) l a = omega arith
no_more (live p z) ([] ∷ [] ∷ ps) l a = absurd (a.0 (inl refl))
no_more (live p z) ([] ∷ (s ∷ q) ∷ ps) l a = absurd (let e = l.1.0.1 in cc)
no_more (live p z) ((s ∷ q) ∷ r ∷ ps) l a = absurd (let e = l.0.1 in cc)
no_more (shut p) [] l a = omega arith
no_more (shut p) (q ∷ ps) l a = absurd (let e = l.0.1 in cc)
no_more (fork v at low high) ps l a =
    omega (
      arith,
      parts_all v at low high ps l,
      no_more low (lows ps) (lows_live v at low high ps l) (lows_apart ps a),
      no_more high (highs ps) (highs_live v at low high ps l) (highs_apart ps a),
    )

-- ---- the paths at the first places

one_leaf : {a b : LiveLeaf} → Some a ≡ Some b → a ≡ b
one_leaf e = cc

-- a path stands at one place
same_place : (t : GrowingTree) (es : Entries) (made : ℕ) → IsQueue t (queue_of es) made → (i j : ℕ) (z w : ℤ) (n m : ℕ) (path : List Side)
    → IsEntryAt es i z n path → IsEntryAt es j w m path → i ≡ j
same_place t es made queue i j z w n m path a b =
    let first = queue.live z n path a.there in
    let second = queue.live w m path b.there in
    let leaf : first.0 ≡ second.0 = one_leaf (sym first.1 ∙ second.1) in
    let bounds : z ≡ w = sym first.2 ∙ ap (λ (l : LiveLeaf). l.bound) leaf ∙ second.2 in
    let numbers : n ≡ m = queue.once z w n m path a.there b.there in
    sym a.before ∙ ap (λ x. count_before es x n) bounds ∙ ap (count_before es w) numbers ∙ b.before

module _ (t : GrowingTree) (es : Entries) (made : ℕ) (queue : IsQueue t (queue_of es) made) (Held : List Side → Type 0) where
  -- what is held at each place below a number
  abbrev AreHeld : ℕ → Type 0
  AreHeld n = (i : ℕ) → i < n → (w : ℤ) × (m : ℕ) × (other : List Side) × IsEntryAt es i w m other × Held other

  fewer_held : (n : ℕ) → AreHeld (suc n) → AreHeld n
  fewer_held n held i low = held i (omega (arith, low))

  abbrev held_paths : (n : ℕ) → AreHeld n → List (List Side)
  held_paths zero held = []
  held_paths (suc n) held = (held n (omega arith)).2 ∷ held_paths n (fewer_held n held)

  as_many_held : (n : ℕ) (held : AreHeld n) → length (held_paths n held) ≡ n
  as_many_held zero held = refl
  as_many_held (suc n) held = ap suc (as_many_held n (fewer_held n held))

  held_live : (n : ℕ) (held : AreHeld n) → AreLive t (held_paths n held)
  held_live zero held = tt
  held_live (suc n) held =
      let k = held n (omega arith) in
      let leaf = queue.live k.0 k.1 k.2 k.3.there in
      ((leaf.0, leaf.1), held_live n (fewer_held n held))

  -- a path among them stands at a place below the number
  held_below : (n : ℕ) (held : AreHeld n) (path : List Side) → IsAmong (held_paths n held) path
      → (i : ℕ) × (i < n) × (w : ℤ) × (m : ℕ) × IsEntryAt es i w m path
  held_below zero held path h = absurd h
  held_below (suc n) held path (inl e) =
      let k = held n (omega arith) in
      (n, omega arith, k.0, k.1, subst (IsEntryAt es n k.0 k.1) e k.3)
  held_below (suc n) held path (inr h) =
      let r = held_below n (fewer_held n held) path h in
      (r.0, omega (arith, r.1), r.2, r.3, r.4)

  not_among : (n : ℕ) (held : AreHeld n) (place : ℕ) (z : ℤ) (k : ℕ) (path : List Side) → n ≤ place → IsEntryAt es place z k path
      → IsAmong (held_paths n held) path → ⊥
  not_among n held place z k path late at h =
      let r = held_below n held path h in
      omega (arith, r.1, late, same_place t es made queue r.0 place r.2 z r.3 k path r.4 at)

  held_apart : (n : ℕ) (held : AreHeld n) → AreApart (held_paths n held)
  held_apart zero held = tt
  held_apart (suc n) held =
      let k = held n (omega arith) in
      (not_among n (fewer_held n held) n k.0 k.1 k.2 (omega arith) k.3, held_apart n (fewer_held n held))

  -- where each place below the number of live leaves is held, so is each entry
  pub each_is_held : AreHeld (live_count t) → (w : ℤ) (m : ℕ) (path : List Side) → queue_of es w m ≡ Some path → Held path
  each_is_held held w m path found = by (nat_lt (count_before es w m) (live_count t)) refl
    where
      here : IsEntryAt es (count_before es w m) w m path
      here = record { there = found; before = refl }

      above : nat_lt (count_before es w m) (live_count t) ≡ false → live_count t ≤ count_before es w m
      above late = ltb-false (count_before es w m) (live_count t) late

      by : (s : Bool) → nat_lt (count_before es w m) (live_count t) ≡ s → Held path
      by true low =
          let k = held (count_before es w m) (ltb-true (count_before es w m) (live_count t) low) in
          subst Held (same_entry es (count_before es w m) k.0 k.1 k.2 w m path k.3 here) k.4
      by false late =
          let leaf = queue.live w m path found in
          absurd (omega (
            arith,
            above late,
            as_many_held (live_count t) held,
            no_more t (path ∷ held_paths (live_count t) held) ((leaf.0, leaf.1), held_live (live_count t) held)
                (not_among (live_count t) held (count_before es w m) w m path (above late) here, held_apart (live_count t) held),
          ))
