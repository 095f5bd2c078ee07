-- The queue of a tree's live leaves in preorder.
use Rattle.std.proofs.Common.{◌≡◌, ℕ, ◌+◌, ◌<◌, ◌≤◌, Bool, true, false, List, [], ◌∷◌, ◌++◌, Option, Some, None, ℤ, sym, subst, ap, ◌∙◌, refl, arith, append_assoc, append-nil, add_assoc, add-zero, nat_lt}
use Rattle.std.specs.Ordering.{is_eq}
use Rattle.bp_theory.specs.declared.Proof.{Proof}
use Rattle.search_laws.specs.Grove.{GrowingTree, LiveLeaf, live, shut, fork, live_at, live_count}
use Rattle.search_laws.specs.Queue.{Queue, IsWith, SameKey}
use Rattle.search_laws.specs.declared.Side.{Side}
use Rattle.search_laws.specs.declared.Side.TheVariants.{Low, High}
use Rattle.open_nodes.specs.Queues.{key_cmp}
use Rattle.open_nodes.specs.Filled.{place_of, IsFilled, IsFreeFrom}
use Rattle.open_nodes.proofs.Keys.{same_key_of, apart_of}

-- ---- places

-- a live leaf's place is below the number of live leaves
pub place_below : (t : GrowingTree) (path : List Side) (leaf : LiveLeaf) → live_at t path ≡ Some leaf → place_of t path < live_count t
place_below (live p z) [] leaf h = omega arith
place_below (live p z) (side ∷ path) leaf h = absurd (cc)
place_below (shut p) path leaf h = absurd (cc)
place_below (fork v at low high) [] leaf h = absurd (cc)
place_below (fork v at low high) (Low ∷ path) leaf h = omega (arith, place_below low path leaf h)
place_below (fork v at low high) (High ∷ path) leaf h = omega (arith, place_below high path leaf h)

nothing_is_some : {o : Option (List Side)} {path : List Side} → o ≡ None → o ≡ Some path → ⊥
nothing_is_some a b = absurd (cc)

-- ---- filling

pub filled_live : (before : Queue) (proof : Proof) (bound : ℤ) (above : List Side) (first : ℕ) (after : Queue) → IsFreeFrom first before
    → IsWith before bound first above after → IsFilled before (live proof bound) above first after
filled_live before proof bound above first after free one = record {
  kept = λ z n l. one.others z n (λ same. apart_by z n l same);
  added = λ path leaf h. here path leaf h;
  none_else = λ z n whole l e. else z n whole l e (is_eq (key_cmp (bound, first) (z, n))) refl;
}
  where
    apart_by : (z : ℤ) (n : ℕ) → n < first → SameKey z n bound first → ⊥
    apart_by z n l same = let is : n ≡ first = same.1 in absurd (omega (arith, l, is))

    here : (path : List Side) (leaf : LiveLeaf) → live_at (live proof bound) path ≡ Some leaf → after leaf.bound (first + place_of (live proof bound) path) ≡ Some (above ++ path)
    here [] leaf h =
        let is : record { proof = proof; bound = bound } ≡ leaf = cc in
        let bound_is : bound ≡ leaf.bound = ap (λ (l : LiveLeaf). l.bound) is in
        ap (after leaf.bound) (add-zero first) ∙ ap (λ z. after z first) (sym bound_is) ∙ one.added ∙ ap Some (sym (append-nil above))
    here (side ∷ path) leaf h = absurd (cc)

    else : (z : ℤ) (n : ℕ) (whole : List Side) → first ≤ n → after z n ≡ Some whole → (t : Bool) → is_eq (key_cmp (bound, first) (z, n)) ≡ t
        → (path : List Side) × (leaf : LiveLeaf) × (live_at (live proof bound) path ≡ Some leaf) × (leaf.bound ≡ z) × (n ≡ first + place_of (live proof bound) path) × (whole ≡ above ++ path)
    else z n whole l e true same =
        let k = same_key_of bound first z n same in
        let it : Some above ≡ Some whole = sym one.added ∙ ap (λ y. after y first) (sym k.0) ∙ ap (λ m. after z m) (sym k.1) ∙ e in
        let whole_is : above ≡ whole = cc in
        ([], record { proof = proof; bound = bound }, refl, sym k.0, k.1 ∙ sym (add-zero first), sym whole_is ∙ sym (append-nil above))
    else z n whole l e false same =
        absurd (nothing_is_some (one.others z n (λ k. apart_of bound first z n same k) ∙ free z n l) e)

pub filled_shut : (before : Queue) (proof : Proof) (above : List Side) (first : ℕ) → IsFreeFrom first before → IsFilled before (shut proof) above first before
filled_shut before proof above first free = record {
  kept = λ z n l. refl;
  added = λ path leaf h. absurd (none path leaf h);
  none_else = λ z n whole l e. absurd (nothing_is_some (free z n l) e);
}
  where
    none : (path : List Side) (leaf : LiveLeaf) → live_at (shut proof) path ≡ Some leaf → ⊥
    none path leaf h = absurd (cc)

-- what is free behind the leaves of a tree
pub free_behind : (before : Queue) (t : GrowingTree) (above : List Side) (first next : ℕ) (after : Queue) → IsFilled before t above first after
    → next ≡ first + live_count t → IsFreeFrom next after
free_behind before t above first next after filled is = λ z n l. by z n l (after z n) refl
  where
    by : (z : ℤ) (n : ℕ) → next ≤ n → (o : Option (List Side)) → after z n ≡ o → o ≡ None
    by z n l None e = refl
    by z n l (Some whole) e =
        let far : first ≤ n = omega (arith, l, is) in
        let found = filled.none_else z n whole far e in
        let small : place_of t found.0 < live_count t = place_below t found.0 found.1 found.2 in
        let at : n ≡ first + place_of t found.0 = found.4 in
        absurd (omega (arith, l, is, small, at))

pub filled_fork : (before middle after : Queue) (v : ℕ) (at : ℤ) (low high : GrowingTree) (above : List Side) (first next : ℕ)
    → IsFilled before low (above ++ Low ∷ []) first middle → next ≡ first + live_count low → IsFilled middle high (above ++ High ∷ []) next after
    → IsFilled before (fork v at low high) above first after
filled_fork before middle after v at low high above first next one is two = record {
  kept = λ z n l. two.kept z n (omega (arith, l, is)) ∙ one.kept z n l;
  added = added_by;
  none_else = λ z n whole l e. else z n whole l e (nat_lt n next) refl;
}
  where
    added_by : (path : List Side) (leaf : LiveLeaf) → live_at (fork v at low high) path ≡ Some leaf
        → after leaf.bound (first + place_of (fork v at low high) path) ≡ Some (above ++ path)
    added_by [] leaf h = absurd (cc)
    added_by (Low ∷ path) leaf h =
        let small : place_of low path < live_count low = place_below low path leaf h in
        two.kept leaf.bound (first + place_of low path) (omega (arith, small, is)) ∙ one.added path leaf h ∙ ap Some (append_assoc above (Low ∷ []) path)
    added_by (High ∷ path) leaf h =
        ap (after leaf.bound) (sym (add_assoc first (live_count low) (place_of high path)) ∙ ap (λ m. m + place_of high path) (sym is))
        ∙ two.added path leaf h ∙ ap Some (append_assoc above (High ∷ []) path)

    else : (z : ℤ) (n : ℕ) (whole : List Side) → first ≤ n → after z n ≡ Some whole → (t : Bool) → nat_lt n next ≡ t
        → (path : List Side) × (leaf : LiveLeaf) × (live_at (fork v at low high) path ≡ Some leaf) × (leaf.bound ≡ z)
        × (n ≡ first + place_of (fork v at low high) path) × (whole ≡ above ++ path)
    else z n whole l e true t =
        let before_next : n < next = below n next t in
        let found = one.none_else z n whole l (sym (two.kept z n before_next) ∙ e) in
        (Low ∷ found.0, found.1, found.2, found.3, found.4, found.5 ∙ append_assoc above (Low ∷ []) found.0)
      where
        below : (n m : ℕ) → nat_lt n m ≡ true → n < m
        below n m e = grind arith
    else z n whole l e false t =
        let behind : next ≤ n = not_below n next t in
        let found = two.none_else z n whole behind e in (
          High ∷ found.0,
          found.1,
          found.2,
          found.3,
          found.4 ∙ ap (λ m. m + place_of high found.0) is ∙ add_assoc first (live_count low) (place_of high found.0),
          found.5 ∙ append_assoc above (High ∷ []) found.0,
        )
      where
        not_below : (n m : ℕ) → nat_lt n m ≡ false → m ≤ n
        not_below n m e = grind arith

-- a live leaf in the queue
pub filled_leaf : (before : Queue) (t : GrowingTree) (proof : Proof) (bound : ℤ) (key : ℤ × ℕ) (above here : List Side) (first : ℕ) (after : Queue) → t ≡ live proof bound
    → key ≡ (bound, first) → here ≡ above → IsFreeFrom first before → IsWith before key.0 key.1 here after → IsFilled before t above first after
filled_leaf before t proof bound key above here first after is key_is path_is free one =
    subst (λ (u : GrowingTree). IsFilled before u above first after) (sym is)
    (filled_live before proof bound above first after free
    (subst (λ (p : List Side). IsWith before bound first p after) path_is (subst (λ (k : ℤ × ℕ). IsWith before k.0 k.1 here after) key_is one)))

-- both parts of a fork in the queue
pub filled_parts : (before middle after : Queue) (t : GrowingTree) (v : ℕ) (at : ℤ) (low high : GrowingTree) (above left right : List Side) (first next : ℕ)
    → t ≡ fork v at low high → left ≡ above ++ Low ∷ [] → right ≡ above ++ High ∷ []
    → IsFilled before low left first middle → next ≡ first + live_count low → IsFilled middle high right next after
    → IsFilled before t above first after
filled_parts before middle after t v at low high above left right first next is left_is right_is one next_is two =
    subst (λ (u : GrowingTree). IsFilled before u above first after) (sym is)
    (filled_fork before middle after v at low high above first next
    (subst (λ (p : List Side). IsFilled before low p first middle) left_is one) next_is
    (subst (λ (p : List Side). IsFilled middle high p next after) right_is two))

-- what an empty queue was before, nothing was
pub filled_alone : (t : GrowingTree) (empty after : Queue) (path : List Side) → path ≡ [] → IsFilled empty t path 0 after → IsFilled (λ _ _. None) t [] 0 after
filled_alone t empty after path is filled = by (subst (λ (p : List Side). IsFilled empty t p 0 after) is filled)
  where
    by : IsFilled empty t [] 0 after → IsFilled (λ _ _. None) t [] 0 after
    by f = record { kept = λ z n l. absurd (omega (arith, l)); added = f.added; none_else = f.none_else }
