-- The queue's keys, and what a map's clauses say of the queue.
use Rattle.std.proofs.Common.{◌≡◌, ℕ, Bool, true, false, cond, List, [], ◌∷◌, Some, None, ℤ, sym, subst, ap, ◌∙◌, refl, arith, is_some, Ordering, filter, if◌then◌else◌}
use Rattle.std.specs.Ordering.{is_eq, is_gt, int_cmp, nat_cmp, match_ordering}
use Rattle.std.specs.declared.cmp.Ordering.TheVariants.{Less, Equal, Greater}
use Rattle.std.specs.Cmp.{IsTotalOrder, nat_cmp_total, int_cmp_total, then_total, on_total}
use Rattle.std.specs.Map.{remove_entry}
use Rattle.std.specs.List.{All, AllByRecursion}
use Rattle.std.specs.declared.ops.Bound.{Bound}
use Rattle.std.specs.BTreeMap.Range.{range_contains, entries_between, IsEntryInRange}
use Rattle.std.proofs.lemmas.List.Elements.{recursion_from_All}
use Rattle.std.specs.declared.ops.Bound.TheVariants.{Included, Unbounded}
use Rattle.std.specs.BTreeMap.{BTreeMap, Updates, IsLowerBound, insert_entry, get}
use Rattle.std.proofs.lemmas.Map.Lookups.{CmpEqualImpliesEq, exact_pairs, exact_signed, exact_unsigned}
use Rattle.std.proofs.lemmas.Int.{ints}
use Rattle.search_laws.specs.declared.Side.{Side}
use Rattle.search_laws.specs.Queue.{IsWith, IsWithout, IsFirstEntry, ComesFirst, SameKey}
use Rattle.open_nodes.specs.Queues.{Entries, key_cmp, queue_of}

pub key_total : IsTotalOrder key_cmp
key_total = then_total (on_total (λ (t : ℤ × ℕ). t.0) int_cmp_total) (on_total (λ (t : ℤ × ℕ). t.1) nat_cmp_total)

pub key_exact : CmpEqualImpliesEq key_cmp
key_exact = exact_pairs int_cmp nat_cmp exact_signed exact_unsigned

is_equal : (o : Ordering) → is_eq o ≡ true → o ≡ Equal
is_equal Less e = absurd (cc)
is_equal Equal e = refl
is_equal Greater e = absurd (cc)

true_is_not_false : true ≡ false → ⊥
true_is_not_false e = absurd (cc)

-- a key is at itself, and only there
pub at_itself : (z : ℤ) (n : ℕ) → is_eq (key_cmp (z, n) (z, n)) ≡ true
at_itself z n = grind (arith, ints)

pub at_other : (z : ℤ) (n : ℕ) (w : ℤ) (m : ℕ) → (SameKey w m z n → ⊥) → is_eq (key_cmp (z, n) (w, m)) ≡ false
at_other z n w m apart = by (is_eq (key_cmp (z, n) (w, m))) refl
  where
    by : (t : Bool) → is_eq (key_cmp (z, n) (w, m)) ≡ t → t ≡ false
    by false e = refl
    by true e =
        let same : (z, n) ≡ (w, m) = key_exact (z, n) (w, m) (is_equal (key_cmp (z, n) (w, m)) e) in
        absurd (apart (sym (ap (λ (k : ℤ × ℕ). k.0) same), sym (ap (λ (k : ℤ × ℕ). k.1) same)))

-- what is written at a key
pub with_from_updates : (m n : BTreeMap (ℤ × ℕ) (List Side)) (z : ℤ) (k : ℕ) (path : List Side) → Updates key_cmp m n (z, k) (Some path)
    → IsWith (queue_of m.entries) z k path (queue_of n.entries)
with_from_updates m n z k path u = record { added = u.1; others = λ w j apart. u.2 (w, j) (at_other z k w j apart) }

pub without_from_updates : (m n : BTreeMap (ℤ × ℕ) (List Side)) (z : ℤ) (k : ℕ) → Updates key_cmp m n (z, k) None
    → IsWithout (queue_of m.entries) z k (queue_of n.entries)
without_from_updates m n z k u = record { gone = u.1; others = λ w j apart. u.2 (w, j) (at_other z k w j apart) }

-- no key above another comes before it
comes_first : (z : ℤ) (n : ℕ) (w : ℤ) (m : ℕ) → is_gt (key_cmp (z, n) (w, m)) ≡ false → ComesFirst z n w m
comes_first z n w m e = grind (arith, ints)

pub first_from_bound : (m : BTreeMap (ℤ × ℕ) (List Side)) (z : ℤ) (k : ℕ) (path : List Side) → get key_cmp m (z, k) ≡ Some path
    → IsLowerBound key_cmp m (z, k) → IsFirstEntry (queue_of m.entries) z k path
first_from_bound m z k path there least = record {
  there = there;
  first = λ w j other e. comes_first z k w j (least (w, j) (ap is_some e));
}

-- an entry that is added where there is none and taken out again leaves the entries as they were
pub added_and_taken : (es : Entries) (z : ℤ) (n : ℕ) (path : List Side) → queue_of es z n ≡ None
    → remove_entry (λ k. is_eq (key_cmp (z, n) k)) (insert_entry key_cmp es (z, n) path) ≡ es
added_and_taken [] z n path none = rw (at_itself z n) refl
added_and_taken (e ∷ es) z n path none = by (key_cmp (z, n) e.0) refl (added_and_taken es z n path)
  where
    by : (o : Ordering) → key_cmp (z, n) e.0 ≡ o
        → (queue_of es z n ≡ None → remove_entry (λ k. is_eq (key_cmp (z, n) k)) (insert_entry key_cmp es (z, n) path) ≡ es)
        → remove_entry (λ k. is_eq (key_cmp (z, n) k)) (match_ordering o (((z, n), path) ∷ e ∷ es) ((e.0, path) ∷ es) (e ∷ insert_entry key_cmp es (z, n) path))
        ≡ e ∷ es
    by Less same rest = rw (at_itself z n) refl
    by Equal same rest =
        let taken : Some e.1 ≡ None = subst (λ o. cond (is_eq o) (Some e.1) (queue_of es z n) ≡ None) same none in
        absurd (cc)
    by Greater same rest =
        let absent : queue_of es z n ≡ None = subst (λ o. cond (is_eq o) (Some e.1) (queue_of es z n) ≡ None) same none in
        subst (λ o. cond (is_eq o) (insert_entry key_cmp es (z, n) path)
        (e ∷ remove_entry (λ k. is_eq (key_cmp (z, n) k)) (insert_entry key_cmp es (z, n) path)) ≡ e ∷ es)
        (sym same) (ap (λ r. e ∷ r) (rest absent))

-- the entries from a bound on have all that stands under it
abbrev is_from : ℤ → (ℤ × ℕ) × List Side → Bool
is_from z e = range_contains key_cmp (Included (z, 0)) Unbounded e.0

is_from_itself : (z : ℤ) (n : ℕ) (k : ℤ × ℕ) → is_eq (key_cmp (z, n) k) ≡ true → range_contains key_cmp (Included (z, 0)) Unbounded k ≡ true
is_from_itself z n k e = subst (λ q. range_contains key_cmp (Included (z, 0)) Unbounded q ≡ true)
    (key_exact (z, n) k (is_equal (key_cmp (z, n) k) e)) (from_first z n)
  where
    from_first : (z : ℤ) (n : ℕ) → range_contains key_cmp (Included (z, 0)) Unbounded (z, n) ≡ true
    from_first z n = grind (arith, ints)

pub kept_from_bound : (es : Entries) (z : ℤ) (n : ℕ) → queue_of (filter (is_from z) es) z n ≡ queue_of es z n
kept_from_bound [] z n = refl
kept_from_bound (e ∷ es) z n = by (is_from z e) refl (kept_from_bound es z n)
  where
    not_here : (t : Bool) → is_eq (key_cmp (z, n) e.0) ≡ t → is_from z e ≡ false → t ≡ false
    not_here false same out = refl
    not_here true same out = absurd (different (is_from z e) (is_from_itself z n e.0 same) out)
      where
        different : (t : Bool) → t ≡ true → t ≡ false → ⊥
        different true p q = true_is_not_false q
        different false p q = true_is_not_false (sym p)

    by : (t : Bool) → is_from z e ≡ t → queue_of (filter (is_from z) es) z n ≡ queue_of es z n
        → queue_of (if t then e ∷ filter (is_from z) es else filter (is_from z) es) z n ≡ queue_of (e ∷ es) z n
    by true same rest = ap (λ r. cond (is_eq (key_cmp (z, n) e.0)) (Some e.1) r) rest
    by false same rest =
        rest ∙ sym (ap (λ t. cond t (Some e.1) (queue_of es z n)) (not_here (is_eq (key_cmp (z, n) e.0)) refl same))

-- the path is still to come while the entries before had other paths
pub to_come : (e : (ℤ × ℕ) × List Side) (es : Entries) (z : ℤ) (n : ℕ) (path : List Side) → queue_of (e ∷ es) z n ≡ Some path → (e.1 ≡ path → ⊥)
    → queue_of es z n ≡ Some path
to_come e es z n path h other = by (is_eq (key_cmp (z, n) e.0)) h
  where
    by : (t : Bool) → cond t (Some e.1) (queue_of es z n) ≡ Some path → queue_of es z n ≡ Some path
    by true same = absurd (other (cc))
    by false same = same

-- where a look over the entries from a bound on begins
pub starts_from_bound : (es left : Entries) (start : ℤ × ℕ) (z : ℤ) (path : List Side) → start ≡ (z, 0)
    → left ≡ entries_between key_cmp (Included start) Unbounded es → (n : ℕ) × (queue_of es z n ≡ Some path) → (n : ℕ) × (queue_of left z n ≡ Some path)
starts_from_bound es left start z path at is found = (
  found.0,
  subst (λ l. queue_of l z found.0 ≡ Some path)
      (sym (is ∙ ap (λ s. entries_between key_cmp (Included s) Unbounded es) at))
      (kept_from_bound es z found.0 ∙ found.1),
)

pub each_is_found : (m : BTreeMap (ℤ × ℕ) (List Side)) (from to : Bound (ℤ × ℕ)) (es : Entries) → All (IsEntryInRange key_cmp from to m) es
    → AllByRecursion (λ e. queue_of m.entries e.0.0 e.0.1 ≡ Some e.1) es
each_is_found m from to es all = go es (recursion_from_All (IsEntryInRange key_cmp from to m) es all)
  where
    go : (es : Entries) → AllByRecursion (IsEntryInRange key_cmp from to m) es → AllByRecursion (λ e. queue_of m.entries e.0.0 e.0.1 ≡ Some e.1) es
    go [] h = tt
    go (e ∷ es) h = (h.0.1, go es h.1)

-- keys that are equal by the test, and keys that aren't
pub same_key_of : (z : ℤ) (n : ℕ) (w : ℤ) (m : ℕ) → is_eq (key_cmp (z, n) (w, m)) ≡ true → SameKey w m z n
same_key_of z n w m e =
    let same : (z, n) ≡ (w, m) = key_exact (z, n) (w, m) (is_equal (key_cmp (z, n) (w, m)) e) in
    (sym (ap (λ (k : ℤ × ℕ). k.0) same), sym (ap (λ (k : ℤ × ℕ). k.1) same))

pub apart_of : (z : ℤ) (n : ℕ) (w : ℤ) (m : ℕ) → is_eq (key_cmp (z, n) (w, m)) ≡ false → SameKey w m z n → ⊥
apart_of z n w m e same = true_is_not_false (sym (at_itself z n) ∙ ap (λ x. is_eq (key_cmp (z, n) (x, n))) (sym same.0) ∙ ap (λ y. is_eq (key_cmp (z, n) (w, y))) (sym same.1) ∙ e)
