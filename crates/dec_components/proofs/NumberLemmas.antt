-- The numbering of trees: one more row in its place.
use Rattle.std.proofs.Common.{◌≡◌, ◌≢◌, ◌⊎◌, ◌↔◌, ℕ, zero, suc, ◌+◌, ◌<◌, ◌≤◌, List, [], ◌∷◌, ◌++◌, length, get_or, Option, Some, None, refl, sym, ap, subst, ◌∙◌, ⊎_elim, inl, inr, arith, length-append}
use Rattle.std.specs.Prelude.{Contains, All}
use Rattle.std.proofs.lemmas.Bool.{cases_eq, cases_lt, cases_order}
use Rattle.bp_theory.specs.Program.{Program}
use Rattle.bp_theory.specs.Decomposition.{Decomposition, HasPlaces, IsPlace}
use Rattle.dec_components.specs.Joined.{SharesVariable, IsOutside, Joined, place_at, IsFound}
use Rattle.dec_components.specs.Forest.{IsParent, AreParents, IsTied, IsNumbered}
use Rattle.dec_components.proofs.ChainLemmas.{joined_self, joined_more, joined_back, joined_end, joined_keeps}

pub no_some : {A : Type 0} (k : A) → ◌≡◌ {A = Option A} None (Some k) → ⊥
no_some {A} k e = cc

pub one_some : {A : Type 0} (k l : A) → ◌≡◌ {A = Option A} (Some k) (Some l) → k ≡ l
one_some {A} k l e = cc

-- a block is told of a row that is there
pub some_there : (places : List (Option ℕ)) (r k : ℕ) → get_or places r None ≡ Some k → r < length places
some_there [] r k e = absurd (no_some k e)
some_there (x ∷ places) zero k e = omega arith
some_there (x ∷ places) (suc r) k e = omega (arith, some_there places r k e)

pub none_past : (places : List (Option ℕ)) (r : ℕ) → length places ≤ r → get_or places r None ≡ None
none_past [] r l = refl
none_past (x ∷ places) zero l = absurd (omega arith)
none_past (x ∷ places) (suc r) l = none_past places r (omega (arith, l))

pub any_place : (places : List (Option ℕ)) (r : ℕ) (d : Option ℕ) → r < length places → get_or places r d ≡ get_or places r None
any_place [] r d l = absurd (omega arith)
any_place (x ∷ places) zero d l = refl
any_place (x ∷ places) (suc r) d l = any_place places r d (omega (arith, l))

-- ---- a place more

pub snoc_before : (places : List (Option ℕ)) (x : Option ℕ) (r : ℕ) → r < length places → get_or (places ++ (x ∷ [])) r None ≡ get_or places r None
snoc_before [] x r l = absurd (omega arith)
snoc_before (y ∷ places) x zero l = refl
snoc_before (y ∷ places) x (suc r) l = snoc_before places x r (omega (arith, l))

pub snoc_at : (places : List (Option ℕ)) (x : Option ℕ) → get_or (places ++ (x ∷ [])) (length places) None ≡ x
snoc_at [] x = refl
snoc_at (y ∷ places) x = snoc_at places x

snoc_some : (places : List (Option ℕ)) (x : Option ℕ) (r k : ℕ) → get_or (places ++ (x ∷ [])) r None ≡ Some k
    → (get_or places r None ≡ Some k) ⊎ ((r ≡ length places) × (x ≡ Some k))
snoc_some [] x zero k e = inr (refl, e)
snoc_some [] x (suc r) k e = absurd (no_some k e)
snoc_some (y ∷ places) x zero k e = inl e
snoc_some (y ∷ places) x (suc r) k e = ⊎_elim (λ a. inl a) (λ b. inr (ap suc b.0, b.1)) (snoc_some places x r k e)

snoc_kept : (places : List (Option ℕ)) (x : Option ℕ) (r k : ℕ) → get_or places r None ≡ Some k → get_or (places ++ (x ∷ [])) r None ≡ Some k
snoc_kept places x r k e = snoc_before places x r (some_there places r k e) ∙ e

length_snoc : (places : List (Option ℕ)) (x : Option ℕ) → length (places ++ (x ∷ [])) ≡ suc (length places)
length_snoc [] x = refl
length_snoc (y ∷ places) x = ap suc (length_snoc places x)

-- the place of the next row fits those of the rows before it
record FitsNext (p : Program) (master parents : List ℕ) (places : List (Option ℕ)) (blocks more : ℕ) (x : Option ℕ) : Type 0 where
  below : more ≤ suc (length places)
  above : blocks ≤ more
  known : (k : ℕ) → x ≡ Some k → k < more
  is_master : (x ≡ None) ↔ Contains master (length places)
  label : x ≡ get_or (places ++ (x ∷ [])) (get_or parents (length places) 0) None
  itself : (k : ℕ) → x ≡ Some k → Joined p master (length places) (length places)
  joined : (s k : ℕ) → x ≡ Some k → get_or places s None ≡ Some k → Joined p master (length places) s
  filled : (k : ℕ) → k < more → (r : ℕ) × (get_or (places ++ (x ∷ [])) r None ≡ Some k)
  numbered : (j k : ℕ) → x ≡ Some k → j < k → (s : ℕ) × (s < length places) × (get_or places s None ≡ Some j)

numbered_more : (p : Program) (master parents : List ℕ) (places : List (Option ℕ)) (blocks more : ℕ) (x : Option ℕ) → length places < length parents → AreParents p master parents
    → IsNumbered p master parents places blocks → FitsNext p master parents places blocks more x → IsNumbered p master parents (places ++ (x ∷ [])) more
numbered_more p master parents places blocks more x l are h f = record {
  few = omega (arith, f.below, length_snoc places x);
  known = λ r k e. ⊎_elim (λ a. omega (arith, h.known r k a, f.above)) (λ b. f.known k b.1) (snoc_some places x r k e);
  master_rows = λ r rl. ⊎_elim
      (λ same. subst (λ (y : ℕ). (get_or (places ++ (x ∷ [])) y None ≡ None) ↔ Contains master y) (sym same)
      (subst (λ (y : Option ℕ). (y ≡ None) ↔ Contains master (length places)) (sym (snoc_at places x)) f.is_master))
      (λ apart. let before : r < length places = omega (arith, length_snoc places x, rl, apart) in
      subst (λ (y : Option ℕ). (y ≡ None) ↔ Contains master r) (sym (snoc_before places x r before)) (h.master_rows r before))
      (cases_eq r (length places));
  label = λ r rl. ⊎_elim
      (λ same. subst (λ (y : ℕ). get_or (places ++ (x ∷ [])) y None ≡ get_or (places ++ (x ∷ [])) (get_or parents y 0) None) (sym same) (snoc_at places x ∙ f.label))
      (λ apart. let before : r < length places = omega (arith, length_snoc places x, rl, apart) in
      snoc_before places x r before ∙ h.label r before ∙ sym (snoc_before places x (get_or parents r 0) (below r before)))
      (cases_eq r (length places));
  joined = λ r s k e g. ⊎_elim
      (λ a. ⊎_elim
      (λ b. h.joined r s k a b)
      (λ b. joined_back p master s r (subst (λ (y : ℕ). Joined p master y r) (sym b.0) (f.joined r k b.1 a)))
      (snoc_some places x s k g))
      (λ a. subst (λ (y : ℕ). Joined p master y s) (sym a.0) (⊎_elim
      (λ b. f.joined s k a.1 b)
      (λ b. subst (Joined p master (length places)) (sym b.0) (f.itself k b.1))
      (snoc_some places x s k g)))
      (snoc_some places x r k e);
  filled = f.filled;
  numbered = λ r j k e low. ⊎_elim
      (λ a. let s = h.numbered r j k a low in (s.0, s.1, snoc_kept places x s.0 j s.2))
      (λ b. let s = f.numbered j k b.1 low in (s.0, omega (arith, s.1, b.0), snoc_kept places x s.0 j s.2))
      (snoc_some places x r k e);
}
  where
    parent_low : (r s : ℕ) → IsParent p master r s → s ≤ r
    parent_low r s (inl a) = omega (arith, a)
    parent_low r s (inr a) = omega (arith, a.0)

    below : (r : ℕ) → r < length places → get_or parents r 0 < length places
    below r rl = omega (arith, rl, parent_low r (get_or parents r 0) (are.parent r (omega (arith, rl, l))))

-- what was told of blocks before stays told
filled_before : (p : Program) (master parents : List ℕ) (places : List (Option ℕ)) (blocks : ℕ) (x : Option ℕ) → IsNumbered p master parents places blocks
    → (k : ℕ) → k < blocks → (r : ℕ) × (get_or (places ++ (x ∷ [])) r None ≡ Some k)
filled_before p master parents places blocks x h k l = let r = h.filled k l in (r.0, snoc_kept places x r.0 k r.1)

-- a row of the master
pub numbered_master : (p : Program) (master parents : List ℕ) (places : List (Option ℕ)) (blocks : ℕ) → length places < length parents → AreParents p master parents
    → Contains master (length places) → IsNumbered p master parents places blocks → IsNumbered p master parents (places ++ (None ∷ [])) blocks
numbered_master p master parents places blocks l are in_master h = numbered_more p master parents places blocks blocks None l are h (record {
  below = omega (arith, h.few);
  above = omega arith;
  known = λ k e. absurd (no_some k e);
  is_master = (λ e. in_master, λ e. refl);
  label = by (get_or parents (length places) 0) (are.parent (length places) l);
  itself = λ k e. absurd (no_some k e);
  joined = λ s k e. absurd (no_some k e);
  filled = filled_before p master parents places blocks None h;
  numbered = λ j k e. absurd (no_some k e);
})
  where
    by : (q : ℕ) → IsParent p master (length places) q → None ≡ get_or (places ++ (None ∷ [])) q None
    by q (inl same) = sym (ap (λ (y : ℕ). get_or (places ++ (None ∷ [])) y None) same ∙ snoc_at places None)
    by q (inr less) = absurd (less.1.outside.outside in_master)

-- the place of a row outside the master
pub outside_some : (p : Program) (master parents : List ℕ) (places : List (Option ℕ)) (blocks r : ℕ) → IsNumbered p master parents places blocks → r < length places
    → IsOutside p master r → (k : ℕ) × (get_or places r None ≡ Some k)
outside_some p master parents places blocks r h l o = by (get_or places r None) refl
  where
    by : (x : Option ℕ) → get_or places r None ≡ x → (k : ℕ) × (get_or places r None ≡ Some k)
    by None e = absurd (o.outside ((h.master_rows r l).0 e))
    by (Some k) e = (k, e)

-- a row in its parent's place
pub numbered_child : (p : Program) (master parents : List ℕ) (places : List (Option ℕ)) (blocks q : ℕ) → length places < length parents → AreParents p master parents
    → get_or parents (length places) 0 ≡ q → q < length places → IsNumbered p master parents places blocks → IsNumbered p master parents (places ++ (get_or places q None ∷ [])) blocks
numbered_child p master parents places blocks q l are is low h =
    let joined : Joined p master (length places) q = by q (subst (IsParent p master (length places)) is (are.parent (length places) l)) low in
    let outside : IsOutside p master q = joined_end p master (length places) q joined in
    let some = outside_some p master parents places blocks q h low outside in
    numbered_more p master parents places blocks blocks (get_or places q None) l are h (record {
      below = omega (arith, h.few);
      above = omega arith;
      known = λ k e. h.known q k e;
      is_master = (λ e. absurd (no_some some.0 (sym e ∙ some.1)), λ e. absurd (joined.outside.outside e));
      label = sym (ap (λ (y : ℕ). get_or (places ++ (get_or places q None ∷ [])) y None) is ∙ snoc_before places (get_or places q None) q low);
      itself = λ k e. joined_self p master (length places) joined.outside;
      joined = λ s k e g. joined_more p master (length places) q s joined (h.joined q s k e g);
      filled = filled_before p master parents places blocks (get_or places q None) h;
      numbered = λ j k e less. let s = h.numbered q j k e less in (s.0, omega (arith, s.1, low), s.2);
    })
  where
    by : (s : ℕ) → IsParent p master (length places) s → s < length places → Joined p master (length places) s
    by s (inl same) less = absurd (omega (arith, same, less))
    by s (inr joined) less = joined.1

-- a row in a new block
pub numbered_root : (p : Program) (master parents : List ℕ) (places : List (Option ℕ)) (blocks : ℕ) → length places < length parents → AreParents p master parents
    → get_or parents (length places) 0 ≡ length places → (Contains master (length places) → ⊥) → IsNumbered p master parents places blocks
    → IsNumbered p master parents (places ++ (Some blocks ∷ [])) (suc blocks)
numbered_root p master parents places blocks l are is out h = numbered_more p master parents places blocks (suc blocks) (Some blocks) l are h (record {
  below = omega (arith, h.few);
  above = omega arith;
  known = λ k e. omega (arith, one_some blocks k e);
  is_master = (λ e. absurd (no_some blocks (sym e)), λ e. absurd (out e));
  label = sym (ap (λ (y : ℕ). get_or (places ++ (Some blocks ∷ [])) y None) is ∙ snoc_at places (Some blocks));
  itself = λ k e. joined_self p master (length places) (record { there = omega (arith, l, are.each); outside = out });
  joined = λ s k e g. absurd (let same : blocks ≡ k = one_some blocks k e in let low : k < blocks = h.known s k g in omega (arith, same, low));
  filled = λ k less. ⊎_elim
      (λ same. (length places, snoc_at places (Some blocks) ∙ ap Some (sym same)))
      (λ apart. filled_before p master parents places blocks (Some blocks) h k (omega (arith, less, apart)))
      (cases_eq k blocks);
  numbered = λ j k e less.
      let same : blocks ≡ k = one_some blocks k e in
      let s = h.filled j (omega (arith, same, less)) in
      (s.0, some_there places s.0 j s.1, s.1);
})

-- before the first row
pub numbered_none : (p : Program) (master parents : List ℕ) → IsNumbered p master parents [] 0
numbered_none p master parents = record {
  few = omega arith;
  known = λ r k e. absurd (no_some k e);
  master_rows = λ r l. absurd (omega arith);
  label = λ r l. absurd (omega arith);
  joined = λ r s k e. absurd (no_some k e);
  filled = λ k l. absurd (omega arith);
  numbered = λ r j k e. absurd (no_some k e);
}

-- with all rows in their places
pub numbered_found : (p : Program) (master parents : List ℕ) (places : List (Option ℕ)) (blocks : ℕ) → IsTied p master parents → length places ≡ length parents
    → IsNumbered p master parents places blocks → IsFound p master (record { blocks = blocks; places = places; listed = [] })
numbered_found p master parents places blocks tied each h = record {
  places = record {
    each = each ∙ tied.forest.each;
    known = λ r d l. subst (IsPlace blocks) (sym (any_place places r d l)) (is_place (get_or places r None) (λ k e. h.known r k e));
  };
  master_rows = λ r l. h.master_rows r (omega (arith, l, each, tied.forest.each));
  blocks = λ r s o q. (
    (λ e. let k = outside_some p master parents places blocks r h (omega (arith, o.there, each, tied.forest.each)) o in h.joined r s k.0 k.1 (sym e ∙ k.1)),
    (λ j. joined_keeps p master (λ y. get_or places y None) r s
        (λ a b oa ob shares. tied.tied a b oa ob shares (λ y. get_or places y None) (λ y l. h.label y (omega (arith, l, each))))
        j),
  );
  filled = h.filled;
  numbered = h.numbered;
  unlisted = refl;
}
  where
    is_place : (x : Option ℕ) → ((k : ℕ) → x ≡ Some k → k < blocks) → IsPlace blocks x
    is_place None below = tt
    is_place (Some k) below = below k refl
