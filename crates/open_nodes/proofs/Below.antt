-- The entries of leaves at or below a node, as a walk over the queue in its order finds them.
use Rattle.std.proofs.Common.{◌≡◌, ℕ, ◌≤◌, Bool, true, false, cond, List, [], ◌∷◌, Some, ℤ, inr, refl, sym, subst, ap, arith}
use Rattle.std.proofs.lemmas.Int.{ints}
use Rattle.std.specs.Ordering.{is_eq}
use Rattle.std.specs.declared.cmp.Ordering.TheVariants.{Less}
use Rattle.std.specs.declared.ops.Bound.TheVariants.{Unbounded}
use Rattle.std.specs.List.{AllByRecursion}
use Rattle.std.specs.List.Sorted.{IsStrictlySortedBy}
use Rattle.std.specs.Map.{keys_of}
use Rattle.std.specs.BTreeMap.Range.{entries_between}
use Rattle.std.proofs.lemmas.Map.Keys.{sorted_head, sorted_tail}
use Rattle.search_laws.specs.declared.Side.{Side}
use Rattle.search_laws.specs.Queue.{ComesFirst}
use Rattle.open_nodes.specs.Queues.{Entries, key_cmp, queue_of, LiesBelow, IsFirstBelow}
use Rattle.open_nodes.proofs.Keys.{same_key_of}

-- a walk without bounds passes all entries
pub all_between : (es : Entries) → entries_between key_cmp Unbounded Unbounded es ≡ es
all_between [] = refl
all_between (e ∷ es) = ap (λ r. e ∷ r) (all_between es)

-- what a walk has passed leads no lower: so each entry below is still to come
abbrev pub AreToCome : (all left : Entries) → List Side → Type 0
AreToCome all left above =
    (z : ℤ) (n : ℕ) (path : List Side) → queue_of all z n ≡ Some path → LiesBelow above path → queue_of left z n ≡ Some path

pub still_to_come : (all : Entries) (e : (ℤ × ℕ) × List Side) (es : Entries) (above : List Side) → AreToCome all (e ∷ es) above
    → (LiesBelow above e.1 → ⊥) → AreToCome all es above
still_to_come all e es above come other z n path found below = by (is_eq (key_cmp (z, n) e.0)) (come z n path found below)
  where
    by : (t : Bool) → cond t (Some e.1) (queue_of es z n) ≡ Some path → queue_of es z n ≡ Some path
    by true same = absurd (other (subst (LiesBelow above) (let p : path ≡ e.1 = cc in p) below))
    by false same = same

-- the head of entries in order comes before all that stand among them
comes_before : (k a : ℤ × ℕ) → key_cmp k a ≡ Less → ComesFirst k.0 k.1 a.0 a.1
comes_before k a less = grind (arith, ints)

at_key : (z : ℤ) (n : ℕ) (k : ℤ × ℕ) → is_eq (key_cmp (z, n) k) ≡ true → ComesFirst k.0 k.1 z n
at_key z n k e = let same = same_key_of z n k.0 k.1 e in inr (same.0, subst (λ m. m ≤ n) (sym same.1) (omega arith))

among_later : (k : ℤ × ℕ) (es : Entries) → AllByRecursion (λ y. key_cmp k y ≡ Less) (keys_of es) → (w : ℤ) (m : ℕ) (path : List Side)
    → queue_of es w m ≡ Some path → ComesFirst k.0 k.1 w m
among_later k [] h w m path found = absurd (cc)
among_later k (e ∷ es) h w m path found = by (is_eq (key_cmp (w, m) e.0)) refl found (among_later k es h.1 w m path)
  where
    by : (t : Bool) → is_eq (key_cmp (w, m) e.0) ≡ t → cond t (Some e.1) (queue_of es w m) ≡ Some path
        → (queue_of es w m ≡ Some path → ComesFirst k.0 k.1 w m) → ComesFirst k.0 k.1 w m
    by true is same later =
        let key = same_key_of w m e.0.0 e.0.1 is in
        subst (λ z. ComesFirst k.0 k.1 z m) key.0 (subst (λ n. ComesFirst k.0 k.1 e.0.0 n) key.1 (comes_before k e.0 h.0))
    by false is same later = later same

head_comes_first : (e : (ℤ × ℕ) × List Side) (es : Entries) → IsStrictlySortedBy key_cmp (keys_of (e ∷ es)) → (w : ℤ) (m : ℕ) (path : List Side)
    → queue_of (e ∷ es) w m ≡ Some path → ComesFirst e.0.0 e.0.1 w m
head_comes_first e es sorted w m path found = by (is_eq (key_cmp (w, m) e.0)) refl found
  where
    by : (t : Bool) → is_eq (key_cmp (w, m) e.0) ≡ t → cond t (Some e.1) (queue_of es w m) ≡ Some path → ComesFirst e.0.0 e.0.1 w m
    by true is same = at_key w m e.0 is
    by false is same = among_later e.0 es (sorted_head key_cmp e.0 (keys_of es) sorted) w m path same

-- the first that a walk meets is the first of those below
pub first_met : (all : Entries) (e : (ℤ × ℕ) × List Side) (es : Entries) (above path : List Side) → queue_of all e.0.0 e.0.1 ≡ Some e.1
    → AreToCome all (e ∷ es) above → IsStrictlySortedBy key_cmp (keys_of (e ∷ es)) → LiesBelow above e.1 → path ≡ e.1
    → IsFirstBelow (queue_of all) above e.0.0 e.0.1 path
first_met all e es above path there come sorted below same =
    subst (IsFirstBelow (queue_of all) above e.0.0 e.0.1) (sym same)
    (record {
      there = there;
      below = below;
      first = λ w m other found lies. head_comes_first e es sorted w m other (come w m other found lies);
    })

pub none_met : (all : Entries) (above : List Side) → AreToCome all [] above → (z : ℤ) (n : ℕ) (path : List Side) → queue_of all z n ≡ Some path
    → LiesBelow above path → ⊥
none_met all above come z n path found below = let gone = come z n path found below in absurd (cc)

pub rest_in_order : (e : (ℤ × ℕ) × List Side) (es : Entries) → IsStrictlySortedBy key_cmp (keys_of (e ∷ es)) → IsStrictlySortedBy key_cmp (keys_of es)
rest_in_order e es sorted = sorted_tail key_cmp e.0 (keys_of es) sorted
