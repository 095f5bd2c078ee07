-- The queue of live leaves is kept.
use Rattle.std.proofs.Common.{◌≡◌, ◌≢◌, ◌⊎◌, refl, sym, ap, subst, ◌∙◌, ℕ, ◌+◌, ◌<◌, List, [], ◌∷◌, ◌++◌, Some, None, arith, inl, inr, ⊎_elim}
use Rattle.std.proofs.Math.IntN.{ℤ}
use Rattle.std.specs.Prelude.{◌<ℤ◌, ◌≤ℤ◌}
use Rattle.std.proofs.lemmas.Int.{ints, by_lt_z}
use Rattle.std.proofs.lemmas.Bool.Decides.{eqb_tells}
use Rattle.bp_theory.specs.Bound.{plain_proof}
use Rattle.bp_theory.specs.declared.Proof.{Proof}
use Rattle.search_laws.specs.declared.Side.{Side}
use Rattle.search_laws.specs.declared.Side.TheVariants.{Low, High}
use Rattle.search_laws.specs.Grove.{GrowingTree, live, shut, fork, LiveLeaf, live_at, shut_at, fork_at, planted, live_bounds}
use Rattle.search_laws.specs.GroveFacts.{IsLeastOf}
use Rattle.search_laws.specs.Queue.{Queue, IsQueue, SameKey, IsWithout, IsWith, IsEmptyQueue, IsFirstEntry}
use Rattle.search_laws.specs.Laws.{QueueKeeps}
use Rattle.search_laws.proofs.PathProof.{live_leaves_change_lem, least_by_paths_lem}

-- two keys are one or not
same_key_or_not : (z : ℤ) (n : ℕ) (w : ℤ) (m : ℕ) → SameKey z n w m ⊎ (SameKey z n w m → ⊥)
same_key_or_not z n w m =
    by_lt_z z w
    (λ less. inr (λ same. not_less z w less same.0))
    (λ more. by_lt_z w z
    (λ less. inr (λ same. not_less w z less (sym same.0)))
    (λ as_much. ⊎_elim (λ same. inl (both z w more as_much, same.1)) (λ other. inr (λ same. other.1 same.1)) (eqb_tells n m)))
  where
    not_less : (a b : ℤ) → a <ℤ b → a ≡ b → ⊥
    not_less a b h e = omega (arith, ints)

    both : (a b : ℤ) → b ≤ℤ a → a ≤ℤ b → a ≡ b
    both a b h k = omega (arith, ints)

-- two paths are one or not
same_path_or_not : (p q : List Side) → (p ≡ q) ⊎ (p ≢ q)
same_path_or_not [] [] = inl refl
same_path_or_not [] (s ∷ q) = inr (λ e. cc)
same_path_or_not (s ∷ p) [] = inr (λ e. cc)
same_path_or_not (Low ∷ p) (Low ∷ q) = ⊎_elim (λ e. inl (ap (λ (r : List Side). Low ∷ r) e)) (λ n. inr (λ e. n (cc))) (same_path_or_not p q)
same_path_or_not (Low ∷ p) (High ∷ q) = inr (λ e. cc)
same_path_or_not (High ∷ p) (Low ∷ q) = inr (λ e. cc)
same_path_or_not (High ∷ p) (High ∷ q) = ⊎_elim (λ e. inl (ap (λ (r : List Side). High ∷ r) e)) (λ n. inr (λ e. n (cc))) (same_path_or_not p q)

some_same : {X : Type 0} (x y : X) → Some x ≡ Some y → x ≡ y
some_same x y e = cc

not_some : {X : Type 0} (x : X) → None ≡ Some x → ⊥
not_some x e = cc

-- an entry of another key than the one taken out, is one of another path
apart_by_key : (t : GrowingTree) (entry : Queue) (made n : ℕ) (path : List Side) (leaf : LiveLeaf) → IsQueue t entry made → live_at t path ≡ Some leaf
    → entry leaf.bound n ≡ Some path → (w : ℤ) (m : ℕ) (q : List Side) → entry w m ≡ Some q → (SameKey w m leaf.bound n → ⊥) → q ≢ path
apart_by_key t entry made n path leaf queue h e w m q d other same =
    let found = queue.live w m q d in
    let leaf' : found.0 ≡ leaf = some_same found.0 leaf (sym found.1 ∙ ap (live_at t) same ∙ h) in
    other (
      sym found.2 ∙ ap (λ (l : LiveLeaf). l.bound) leaf',
      queue.once w leaf.bound m n path (d ∙ ap (λ (r : List Side). Some r) same) e,
    )

-- a queue of the live leaves but one
record IsRest (t : GrowingTree) (path : List Side) (entry : Queue) (made : ℕ) : Type 0 where
  live : (z : ℤ) (n : ℕ) (q : List Side) → entry z n ≡ Some q → (leaf : LiveLeaf) × (live_at t q ≡ Some leaf) × (leaf.bound ≡ z) × (q ≢ path)
  each : (q : List Side) (leaf : LiveLeaf) → live_at t q ≡ Some leaf → q ≢ path → (n : ℕ) × (entry leaf.bound n ≡ Some q)
  once : (z w : ℤ) (n m : ℕ) (q : List Side) → entry z n ≡ Some q → entry w m ≡ Some q → n ≡ m
  numbered : (z : ℤ) (n : ℕ) (q : List Side) → entry z n ≡ Some q → n < made

rest_of : (t : GrowingTree) (before after : Queue) (made n : ℕ) (path : List Side) (leaf : LiveLeaf) → IsQueue t before made
    → live_at t path ≡ Some leaf → before leaf.bound n ≡ Some path → IsWithout before leaf.bound n after → IsRest t path after made
rest_of t before after made n path leaf queue h e out = record {
  live = λ z m q d.
      let old = was z m q d in
      let found = queue.live z m q old.0 in
      (found.0, found.1, found.2, apart_by_key t before made n path leaf queue h e z m q old.0 old.1);
  each = λ q l g apart.
      let found = queue.each q l g in
      (found.0, out.others l.bound found.0 (λ same. apart (some_same q path (sym found.1 ∙ at_key l.bound found.0 same ∙ e))) ∙ found.1);
  once = λ z w m k q d f. queue.once z w m k q (was z m q d).0 (was w k q f).0;
  numbered = λ z m q d. queue.numbered z m q (was z m q d).0;
}
  where
    at_key : (z : ℤ) (m : ℕ) → SameKey z m leaf.bound n → before z m ≡ before leaf.bound n
    at_key z m same = ap (λ w. before w m) same.0 ∙ ap (before leaf.bound) same.1

    was : (z : ℤ) (m : ℕ) (q : List Side) → after z m ≡ Some q → (before z m ≡ Some q) × (SameKey z m leaf.bound n → ⊥)
    was z m q d = ⊎_elim
        (λ same. absurd (not_some q (sym out.gone ∙ sym (ap (λ w. after w m) same.0 ∙ ap (after leaf.bound) same.1) ∙ d)))
        (λ other. (sym (out.others z m other) ∙ d, other))
        (same_key_or_not z m leaf.bound n)

shut_queue : (t : GrowingTree) (before after : Queue) (made n : ℕ) (path : List Side) (leaf : LiveLeaf) (proof : Proof) → IsQueue t before made
    → live_at t path ≡ Some leaf → before leaf.bound n ≡ Some path → IsWithout before leaf.bound n after → IsQueue (shut_at t path proof) after made
shut_queue t before after made n path leaf proof queue h e out =
    let rest : IsRest t path after made = rest_of t before after made n path leaf queue h e out in
    record {
      live = λ z m q d.
          let found = rest.live z m q d in
          (found.0, live_leaves_change_lem.shut_others t path q leaf proof h found.3 ∙ found.1, found.2);
      each = λ q l g.
          let apart : q ≢ path = λ same. not_some l (sym (ap (live_at (shut_at t path proof)) same ∙ live_leaves_change_lem.shut_gone t path leaf proof h) ∙ g) in
          rest.each q l (sym (live_leaves_change_lem.shut_others t path q leaf proof h apart) ∙ g) apart;
      once = rest.once;
      numbered = rest.numbered;
    }

-- an entry of a queue with one more is the new one or an old one
new_or_old : (before after : Queue) (z : ℤ) (n : ℕ) (path : List Side) → IsWith before z n path after → (w : ℤ) (m : ℕ) (q : List Side) → after w m ≡ Some q
    → (SameKey w m z n × (path ≡ q)) ⊎ ((SameKey w m z n → ⊥) × (before w m ≡ Some q))
new_or_old before after z n path more w m q d = ⊎_elim
    (λ same. inl (same, some_same path q (sym more.added ∙ sym (ap (λ u. after u m) same.0 ∙ ap (after z) same.1) ∙ d)))
    (λ other. inr (other, sym (more.others w m other) ∙ d))
    (same_key_or_not w m z n)

-- an old entry of another number stays
old_stays : (before after : Queue) (z : ℤ) (n : ℕ) (path : List Side) → IsWith before z n path after → (w : ℤ) (m : ℕ) (q : List Side) → before w m ≡ Some q
    → m < n → after w m ≡ Some q
old_stays before after z n path more w m q d l = more.others w m (λ same. less m n l same.1) ∙ d
  where
    less : (m n : ℕ) → m < n → m ≡ n → ⊥
    less m n l e = omega (arith, l, e)

-- no part of a live leaf's node is a live leaf
no_live_part : (t : GrowingTree) (path rest : List Side) (side : Side) (leaf : LiveLeaf) → live_at t path ≡ Some leaf → live_at t (path ++ side ∷ rest) ≡ None
no_live_part (live proof bound) [] rest side leaf h = refl
no_live_part (live proof bound) (s ∷ path) rest side leaf h = absurd (cc)
no_live_part (shut proof) path rest side leaf h = absurd (cc)
no_live_part (fork v at low high) [] rest side leaf h = absurd (cc)
no_live_part (fork v at low high) (Low ∷ path) rest side leaf h = no_live_part low path rest side leaf h
no_live_part (fork v at low high) (High ∷ path) rest side leaf h = no_live_part high path rest side leaf h

parts_differ : (path : List Side) → path ++ Low ∷ [] ≡ path ++ High ∷ [] → ⊥
parts_differ [] e = cc
parts_differ (s ∷ path) e = parts_differ path (cc)

fork_queue : (t : GrowingTree) (before without low after : Queue) (made n : ℕ) (path : List Side) (leaf : LiveLeaf) (v : ℕ) (at : ℤ) (proof : Proof) (bound : ℤ)
    → IsQueue t before made → live_at t path ≡ Some leaf → before leaf.bound n ≡ Some path → IsWithout before leaf.bound n without
    → IsWith without bound made (path ++ Low ∷ []) low → IsWith low bound (made + 1) (path ++ High ∷ []) after
    → IsQueue (fork_at t path v at proof bound) after (made + 2)
fork_queue t before without low after made n path leaf v at proof bound queue h e out first second =
    let rest : IsRest t path without made = rest_of t before without made n path leaf queue h e out in
    record {
      live = λ z m q d. ⊎_elim
          (λ high'. (record { proof = proof; bound = bound }, subst (λ (r : List Side). live_at (fork_at t path v at proof bound) r ≡ Some (record { proof = proof; bound = bound })) high'.1 (part High), sym high'.0.0))
          (λ old. ⊎_elim
          (λ low'. (record { proof = proof; bound = bound }, subst (λ (r : List Side). live_at (fork_at t path v at proof bound) r ≡ Some (record { proof = proof; bound = bound })) low'.1 (part Low), sym low'.0.0))
          (λ older. let found = rest.live z m q older.1 in
          (found.0, others q found.0 found.1 found.3 ∙ found.1, found.2))
          (new_or_old without low bound made (path ++ Low ∷ []) first z m q old.1))
          (new_or_old low after bound (made + 1) (path ++ High ∷ []) second z m q d);
      each = λ q l g. ⊎_elim
          (λ is_low. (
            made,
            subst (λ (k : LiveLeaf). after k.bound made ≡ Some q) (some_same (record { proof = proof; bound = bound }) l (sym (part Low) ∙ ap (live_at (fork_at t path v at proof bound)) (sym is_low) ∙ g))
                (second.others bound made (λ same. less made same.1) ∙ first.added ∙ ap (λ (r : List Side). Some r) (sym is_low)),
          ))
          (λ not_low. ⊎_elim
          (λ is_high. (
            made + 1,
            subst (λ (k : LiveLeaf). after k.bound (made + 1) ≡ Some q) (some_same (record { proof = proof; bound = bound }) l (sym (part High) ∙ ap (live_at (fork_at t path v at proof bound)) (sym is_high) ∙ g))
                (second.added ∙ ap (λ (r : List Side). Some r) (sym is_high)),
          ))
          (λ not_high. ⊎_elim
          (λ is_path. absurd (not_some l (sym (ap (live_at (fork_at t path v at proof bound)) is_path ∙ live_leaves_change_lem.fork_gone t path leaf v at proof bound h) ∙ g)))
          (λ not_path.
          let same : live_at (fork_at t path v at proof bound) q ≡ live_at t q =
          live_leaves_change_lem.fork_others t path q leaf v at proof bound h not_path (neither q not_low not_high) in
          let found = rest.each q l (sym same ∙ g) not_path in
          let below : found.0 < made = rest.numbered l.bound found.0 q found.1 in (
            found.0,
            old_stays low after bound (made + 1) (path ++ High ∷ []) second l.bound found.0 q
                (old_stays without low bound made (path ++ Low ∷ []) first l.bound found.0 q found.1 below) (omega (arith, below)),
          ))
          (same_path_or_not q path))
          (same_path_or_not q (path ++ High ∷ [])))
          (same_path_or_not q (path ++ Low ∷ []));
      once = λ z w m k q d f. numbers q rest (kind z m q d rest) (kind w k q f rest);
      numbered = λ z m q d. ⊎_elim
          (λ high'. omega (arith, high'.0.1))
          (λ old. ⊎_elim
          (λ low'. omega (arith, low'.0.1))
          (λ older. omega (arith, rest.numbered z m q older.1))
          (new_or_old without low bound made (path ++ Low ∷ []) first z m q old.1))
          (new_or_old low after bound (made + 1) (path ++ High ∷ []) second z m q d);
    }
  where
    part : (side : Side) → live_at (fork_at t path v at proof bound) (path ++ side ∷ []) ≡ Some (record { proof = proof; bound = bound })
    part side = live_leaves_change_lem.fork_parts t path leaf v at proof bound side h

    less : (m : ℕ) → m ≡ m + 1 → ⊥
    less m e = omega (arith, e)

    neither : (q : List Side) → q ≢ path ++ Low ∷ [] → q ≢ path ++ High ∷ [] → (side : Side) → q ≢ path ++ side ∷ []
    neither q not_low not_high Low = not_low
    neither q not_low not_high High = not_high

    -- an old live leaf's path is none of the parts'
    not_part : (q : List Side) (l : LiveLeaf) → live_at t q ≡ Some l → (side : Side) → q ≢ path ++ side ∷ []
    not_part q l g side same = not_some l (sym (ap (live_at t) same ∙ no_live_part t path [] side leaf h) ∙ g)

    others : (q : List Side) (l : LiveLeaf) → live_at t q ≡ Some l → q ≢ path → live_at (fork_at t path v at proof bound) q ≡ live_at t q
    others q l g apart = live_leaves_change_lem.fork_others t path q leaf v at proof bound h apart (not_part q l g)

    kind : (z : ℤ) (m : ℕ) (q : List Side) → after z m ≡ Some q → IsRest t path without made
        → ((m ≡ made + 1) × (path ++ High ∷ [] ≡ q)) ⊎ (((m ≡ made) × (path ++ Low ∷ [] ≡ q)) ⊎ ((w : ℤ) × (without w m ≡ Some q)))
    kind z m q d rest = ⊎_elim
        (λ high'. inl (high'.0.1, high'.1))
        (λ old. inr (⊎_elim (λ low'. inl (low'.0.1, low'.1)) (λ older. inr (z, older.1)) (new_or_old without low bound made (path ++ Low ∷ []) first z m q old.1)))
        (new_or_old low after bound (made + 1) (path ++ High ∷ []) second z m q d)

    numbers : {m k : ℕ} (q : List Side) → IsRest t path without made
        → ((m ≡ made + 1) × (path ++ High ∷ [] ≡ q)) ⊎ (((m ≡ made) × (path ++ Low ∷ [] ≡ q)) ⊎ ((w : ℤ) × (without w m ≡ Some q)))
        → ((k ≡ made + 1) × (path ++ High ∷ [] ≡ q)) ⊎ (((k ≡ made) × (path ++ Low ∷ [] ≡ q)) ⊎ ((w : ℤ) × (without w k ≡ Some q)))
        → m ≡ k
    numbers q rest (inl a) (inl b) = a.0 ∙ sym b.0
    numbers q rest (inl a) (inr (inl b)) = absurd (parts_differ path (b.1 ∙ sym a.1))
    numbers {m} {k} q rest (inl a) (inr (inr b)) = let found = rest.live b.0 k q b.1 in absurd (not_part q found.0 found.1 High (sym a.1))
    numbers q rest (inr (inl a)) (inl b) = absurd (parts_differ path (a.1 ∙ sym b.1))
    numbers q rest (inr (inl a)) (inr (inl b)) = a.0 ∙ sym b.0
    numbers {m} {k} q rest (inr (inl a)) (inr (inr b)) = let found = rest.live b.0 k q b.1 in absurd (not_part q found.0 found.1 Low (sym a.1))
    numbers {m} {k} q rest (inr (inr a)) (inl b) = let found = rest.live a.0 m q a.1 in absurd (not_part q found.0 found.1 High (sym b.1))
    numbers {m} {k} q rest (inr (inr a)) (inr (inl b)) = let found = rest.live a.0 m q a.1 in absurd (not_part q found.0 found.1 Low (sym b.1))
    numbers {m} {k} q rest (inr (inr a)) (inr (inr b)) = rest.once a.0 b.0 m k q a.1 b.1

planted_queue : (v : ℤ) (empty entry : Queue) → IsEmptyQueue empty → IsWith empty v 0 [] entry → IsQueue (planted v) entry 1
planted_queue v empty entry none more = record {
  live = λ z n q d.
      let only = is_only z n q d in
      (record { proof = plain_proof; bound = v }, ap (live_at (planted v)) (sym only.2), sym only.0);
  each = λ q l g. by q l g;
  once = λ z w n m q d f. (is_only z n q d).1 ∙ sym (is_only w m q f).1;
  numbered = λ z n q d. omega (arith, (is_only z n q d).1);
}
  where
    is_only : (z : ℤ) (n : ℕ) (q : List Side) → entry z n ≡ Some q → (z ≡ v) × (n ≡ 0) × ([] ≡ q)
    is_only z n q d = ⊎_elim
        (λ new. (new.0.0, new.0.1, new.1))
        (λ old. absurd (not_some q (sym (none z n) ∙ old.1)))
        (new_or_old empty entry v 0 [] more z n q d)

    by : (q : List Side) (l : LiveLeaf) → live_at (planted v) q ≡ Some l → (n : ℕ) × (entry l.bound n ≡ Some q)
    by [] l g = (0, subst (λ (k : LiveLeaf). entry k.bound 0 ≡ Some []) (some_same (record { proof = plain_proof; bound = v }) l g) more.added)
    by (s ∷ q) l g = absurd (not_some l g)

first_is_least : (t : GrowingTree) (entry : Queue) (made n : ℕ) (z : ℤ) (path : List Side) → IsQueue t entry made → IsFirstEntry entry z n path
    → IsLeastOf (live_bounds t) z
first_is_least t entry made n z path queue first =
    let found = queue.live z n path first.there in
    subst (λ w. IsLeastOf (live_bounds t) w) found.2
    (least_by_paths_lem.from_paths t path found.0 found.1
    (λ other l h.
    let entry' = queue.each other l h in
    ⊎_elim (λ less. below found.0.bound z l.bound found.2 less) (λ same. as_much found.0.bound z l.bound found.2 same.0)
    (first.first l.bound entry'.0 other entry'.1)))
  where
    below : (a z b : ℤ) → a ≡ z → z <ℤ b → a ≤ℤ b
    below a z b e h = omega (arith, ints)

    as_much : (a z b : ℤ) → a ≡ z → z ≡ b → a ≤ℤ b
    as_much a z b e h = omega (arith, ints)

pub queue_keeps_lem : QueueKeeps
queue_keeps_lem = record { planted = planted_queue; shut = shut_queue; forked = fork_queue; first = first_is_least }
