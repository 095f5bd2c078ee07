-- Where the entries of a queue stand in its order.
use Rattle.std.proofs.Common.{◌≡◌, ℕ, zero, suc, ◌+◌, ◌<◌, ◌≤◌, Bool, true, false, cond, List, [], ◌∷◌, length, Some, None, ℤ, ◌⊎◌, inl, inr, sym, subst, ap, ◌∙◌, refl, arith, Ordering}
use Rattle.std.proofs.lemmas.Int.{ints}
use Rattle.std.specs.Ordering.{is_eq, is_lt, ordering_reverse}
use Rattle.std.specs.declared.cmp.Ordering.TheVariants.{Less, Equal, Greater}
use Rattle.std.specs.Cmp.{eq_by_cmp_equiv}
use Rattle.std.specs.List.{AllByRecursion, filter, slice_get}
use Rattle.std.specs.List.Sorted.{IsStrictlySortedBy}
use Rattle.std.specs.Map.{keys_of}
use Rattle.std.proofs.lemmas.Map.Entries.{lookup_from_place}
use Rattle.std.proofs.lemmas.Map.Keys.{IsDistinct-from_sorted, sorted_head, sorted_tail}
use Rattle.search_laws.specs.declared.Side.{Side}
use Rattle.search_laws.specs.declared.Side.TheVariants.{Low, High}
use Rattle.search_laws.specs.Grove.{GrowingTree, LiveLeaf, live, shut, fork, live_at, live_count}
use Rattle.search_laws.specs.Queue.{IsQueue, IsFirstEntry, ComesFirst}
use Rattle.open_nodes.specs.Queues.{Entries, key_cmp, queue_of, count_before, IsEntryAt}
use Rattle.open_nodes.proofs.Keys.{key_total, key_exact, at_itself}

-- ---- the order of keys

itself_not_before : (k : ℤ × ℕ) → is_lt (key_cmp k k) ≡ false
itself_not_before k = grind (arith, ints)

one_way : (a b : ℤ × ℕ) → key_cmp a b ≡ Less → is_lt (key_cmp b a) ≡ false
one_way a b less = ap is_lt (key_total.antisymm b a ∙ ap ordering_reverse less)

-- ---- the entries of a map stand in order

later_not_before : (k : ℤ × ℕ) (es : Entries) → AllByRecursion (λ y. key_cmp k y ≡ Less) (keys_of es)
    → AllByRecursion (λ (e : (ℤ × ℕ) × List Side). is_lt (key_cmp e.0 k) ≡ false) es
later_not_before k [] h = tt
later_not_before k (e ∷ es) h = (one_way k e.0 h.0, later_not_before k es h.1)

none_before : (es : Entries) (k : ℤ × ℕ) → AllByRecursion (λ (e : (ℤ × ℕ) × List Side). is_lt (key_cmp e.0 k) ≡ false) es → count_before es k.0 k.1 ≡ 0
none_before [] k h = refl
none_before (e ∷ es) k h = rw h.0 (none_before es k h.1)

later_at : (k : ℤ × ℕ) (es : Entries) (i : ℕ) (e : (ℤ × ℕ) × List Side) → AllByRecursion (λ y. key_cmp k y ≡ Less) (keys_of es)
    → slice_get es i ≡ Some e → key_cmp k e.0 ≡ Less
later_at k [] i e h g = absurd (cc)
later_at k (x ∷ es) zero e h g = let same : x ≡ e = cc in subst (λ (y : (ℤ × ℕ) × List Side). key_cmp k y.0 ≡ Less) same h.0
later_at k (x ∷ es) (suc i) e h g = later_at k es i e h.1 g

count_at : (es : Entries) (i : ℕ) (e : (ℤ × ℕ) × List Side) → IsStrictlySortedBy key_cmp (keys_of es) → slice_get es i ≡ Some e
    → count_before es e.0.0 e.0.1 ≡ i
count_at [] i e s g = absurd (cc)
count_at (x ∷ es) zero e s g =
    let same : x ≡ e = cc in
    subst (λ (y : (ℤ × ℕ) × List Side). count_before (x ∷ es) y.0.0 y.0.1 ≡ 0) same
    (rw (itself_not_before x.0) (none_before es x.0 (later_not_before x.0 es (sorted_head key_cmp x.0 (keys_of es) s))))
count_at (x ∷ es) (suc i) e s g =
    rw (ap is_lt (later_at x.0 es i e (sorted_head key_cmp x.0 (keys_of es) s) g))
    (ap suc (count_at es i e (sorted_tail key_cmp x.0 (keys_of es) s) g))

pub entry_at_place : (es : Entries) (i : ℕ) (e : (ℤ × ℕ) × List Side) → IsStrictlySortedBy key_cmp (keys_of es) → slice_get es i ≡ Some e
    → IsEntryAt es i e.0.0 e.0.1 e.1
entry_at_place es i e s g = record {
  there = lookup_from_place (eq_by_cmp_equiv key_total) es i e.0 e.1 (IsDistinct-from_sorted key_cmp (keys_of es) s) g;
  before = count_at es i e s g;
}

pub no_entry_at : (es : Entries) (i : ℕ) → slice_get es i ≡ None → length es ≤ i
no_entry_at [] i g = omega arith
no_entry_at (x ∷ es) zero g = absurd (cc)
no_entry_at (x ∷ es) (suc i) g = omega (arith, no_entry_at es i g)

-- ---- each live leaf has an entry of its own

-- a path is one of a queue's
abbrev pub IsAmong : List (List Side) → List Side → Type 0
IsAmong [] path = ⊥
IsAmong (p ∷ ps) path = (p ≡ path) ⊎ IsAmong ps path

-- the paths that go one way, from there on
abbrev pub lows : List (List Side) → List (List Side)
lows [] = []
lows ([] ∷ ps) = lows ps
lows ((Low ∷ p) ∷ ps) = p ∷ lows ps
lows ((High ∷ p) ∷ ps) = lows ps

abbrev pub highs : List (List Side) → List (List Side)
highs [] = []
highs ([] ∷ ps) = highs ps
highs ((Low ∷ p) ∷ ps) = highs ps
highs ((High ∷ p) ∷ ps) = p ∷ highs ps

parts_fit : (ps : List (List Side)) → length (lows ps) + length (highs ps) ≤ length ps
parts_fit [] = omega arith
parts_fit ([] ∷ ps) = omega (arith, parts_fit ps)
parts_fit ((Low ∷ p) ∷ ps) = omega (arith, parts_fit ps)
parts_fit ((High ∷ p) ∷ ps) = omega (arith, parts_fit ps)

low_among : (ps : List (List Side)) (path : List Side) → IsAmong ps (Low ∷ path) → IsAmong (lows ps) path
low_among [] path h = absurd h
low_among ([] ∷ ps) path (inl e) = absurd (cc)
low_among ([] ∷ ps) path (inr h) = low_among ps path h
low_among ((Low ∷ p) ∷ ps) path (inl e) = inl (cc)
low_among ((Low ∷ p) ∷ ps) path (inr h) = inr (low_among ps path h)
low_among ((High ∷ p) ∷ ps) path (inl e) = absurd (cc)
low_among ((High ∷ p) ∷ ps) path (inr h) = low_among ps path h

high_among : (ps : List (List Side)) (path : List Side) → IsAmong ps (High ∷ path) → IsAmong (highs ps) path
high_among [] path h = absurd h
high_among ([] ∷ ps) path (inl e) = absurd (cc)
high_among ([] ∷ ps) path (inr h) = high_among ps path h
high_among ((Low ∷ p) ∷ ps) path (inl e) = absurd (cc)
high_among ((Low ∷ p) ∷ ps) path (inr h) = high_among ps path h
high_among ((High ∷ p) ∷ ps) path (inl e) = inl (cc)
high_among ((High ∷ p) ∷ ps) path (inr h) = inr (high_among ps path h)

live_fits : (t : GrowingTree) (ps : List (List Side)) → ((path : List Side) (leaf : LiveLeaf) → live_at t path ≡ Some leaf → IsAmong ps path)
    → live_count t ≤ length ps
live_fits (live p z) [] all = absurd (all [] (record { proof = p; bound = z }) refl)
live_fits (live p z) (q ∷ ps) all = omega arith
live_fits (shut p) ps all = omega arith
live_fits (fork v at low high) ps all =
    omega (
      arith,
      parts_fit ps,
      live_fits low (lows ps) (λ path leaf h. low_among ps path (all (Low ∷ path) leaf h)),
      live_fits high (highs ps) (λ path leaf h. high_among ps path (all (High ∷ path) leaf h)),
    )

abbrev paths : Entries → List (List Side)
paths [] = []
paths (e ∷ es) = e.1 ∷ paths es

as_many : (es : Entries) → length (paths es) ≡ length es
as_many [] = refl
as_many (e ∷ es) = ap suc (as_many es)

among_paths : (es : Entries) (z : ℤ) (n : ℕ) (path : List Side) → queue_of es z n ≡ Some path → IsAmong (paths es) path
among_paths [] z n path h = absurd (cc)
among_paths (e ∷ es) z n path h = by (is_eq (key_cmp (z, n) e.0)) h (λ rest. among_paths es z n path rest)
  where
    by : (t : Bool) → cond t (Some e.1) (queue_of es z n) ≡ Some path → (queue_of es z n ≡ Some path → IsAmong (paths es) path)
        → IsAmong (paths (e ∷ es)) path
    by true same below = inl (cc)
    by false same below = inr (below same)

pub live_within : (t : GrowingTree) (es : Entries) (made : ℕ) → IsQueue t (queue_of es) made → live_count t ≤ length es
live_within t es made queue =
    omega (
      arith,
      as_many es,
      live_fits t (paths es)
          (λ path leaf h. let k = queue.each path leaf h in among_paths es leaf.bound k.0 path k.1),
    )

-- ---- what comes before

-- of two keys in the queue the lower has fewer entries before it
below_too : (k a b : ℤ × ℕ) → is_lt (key_cmp a b) ≡ true → is_lt (key_cmp k a) ≡ true → is_lt (key_cmp k b) ≡ true
below_too k a b h g = grind (arith, ints)

no_fewer : (es : Entries) (a b : ℤ × ℕ) → is_lt (key_cmp a b) ≡ true → count_before es a.0 a.1 ≤ count_before es b.0 b.1
no_fewer [] a b h = omega arith
no_fewer (e ∷ es) a b h = by (is_lt (key_cmp e.0 a)) (is_lt (key_cmp e.0 b)) (below_too e.0 a b h) (no_fewer es a b h)
  where
    by : (s t : Bool) → (s ≡ true → t ≡ true) → count_before es a.0 a.1 ≤ count_before es b.0 b.1
        → length (cond s (e ∷ filter (λ e. is_lt (key_cmp e.0 a)) es) (filter (λ e. is_lt (key_cmp e.0 a)) es))
        ≤ length (cond t (e ∷ filter (λ e. is_lt (key_cmp e.0 b)) es) (filter (λ e. is_lt (key_cmp e.0 b)) es))
    by true true p rest = omega (arith, rest)
    by true false p rest = absurd (let q : false ≡ true = p refl in cc)
    by false true p rest = omega (arith, rest)
    by false false p rest = rest

at_key : (k a : ℤ × ℕ) → is_eq (key_cmp k a) ≡ true → k ≡ a
at_key k a h = key_exact k a (equal (key_cmp k a) h)
  where
    equal : (o : Ordering) → is_eq o ≡ true → o ≡ Equal
    equal Less e = absurd (cc)
    equal Equal e = refl
    equal Greater e = absurd (cc)

fewer : (es : Entries) (a b : ℤ × ℕ) (path : List Side) → queue_of es a.0 a.1 ≡ Some path → is_lt (key_cmp a b) ≡ true
    → count_before es a.0 a.1 < count_before es b.0 b.1
fewer [] a b path found h = absurd (cc)
fewer (e ∷ es) a b path found h = here (is_eq (key_cmp a e.0)) refl found (λ rest. fewer es a b path rest h)
  where
    more : (s t : Bool) → s ≡ false → t ≡ true
        → length (cond s (e ∷ filter (λ e. is_lt (key_cmp e.0 a)) es) (filter (λ e. is_lt (key_cmp e.0 a)) es))
        < length (cond t (e ∷ filter (λ e. is_lt (key_cmp e.0 b)) es) (filter (λ e. is_lt (key_cmp e.0 b)) es))
    more true t p q = absurd (cc)
    more false false p q = absurd (cc)
    more false true p q = omega (arith, no_fewer es a b h)

    by : (s t : Bool) → (s ≡ true → t ≡ true) → count_before es a.0 a.1 < count_before es b.0 b.1
        → length (cond s (e ∷ filter (λ e. is_lt (key_cmp e.0 a)) es) (filter (λ e. is_lt (key_cmp e.0 a)) es))
        < length (cond t (e ∷ filter (λ e. is_lt (key_cmp e.0 b)) es) (filter (λ e. is_lt (key_cmp e.0 b)) es))
    by true true p rest = omega (arith, rest)
    by true false p rest = absurd (let q : false ≡ true = p refl in cc)
    by false true p rest = omega (arith, rest)
    by false false p rest = rest

    here : (s : Bool) → is_eq (key_cmp a e.0) ≡ s → cond s (Some e.1) (queue_of es a.0 a.1) ≡ Some path
        → (queue_of es a.0 a.1 ≡ Some path → count_before es a.0 a.1 < count_before es b.0 b.1)
        → count_before (e ∷ es) a.0 a.1 < count_before (e ∷ es) b.0 b.1
    here true is _ below =
        let same : a ≡ e.0 = at_key a e.0 is in
        more (is_lt (key_cmp e.0 a)) (is_lt (key_cmp e.0 b))
        (subst (λ k. is_lt (key_cmp k a) ≡ false) same (itself_not_before a))
        (subst (λ k. is_lt (key_cmp k b) ≡ true) same h)
    here false is rest below =
        by (is_lt (key_cmp e.0 a)) (is_lt (key_cmp e.0 b)) (below_too e.0 a b h) (below rest)

one_path : {p q : List Side} → Some p ≡ Some q → p ≡ q
one_path e = cc

-- two entries with as many before them are one
pub same_entry : (es : Entries) (i : ℕ) (z : ℤ) (n : ℕ) (path : List Side) (w : ℤ) (m : ℕ) (other : List Side) → IsEntryAt es i z n path
    → IsEntryAt es i w m other → path ≡ other
same_entry es i z n path w m other a b = by (key_cmp (z, n) (w, m)) refl
  where
    by : (o : Ordering) → key_cmp (z, n) (w, m) ≡ o → path ≡ other
    by Less is = absurd (omega (arith, fewer es (z, n) (w, m) path a.there (ap is_lt is), a.before, b.before))
    by Equal is =
        let same : (z, n) ≡ (w, m) = key_exact (z, n) (w, m) is in
        let found : queue_of es z n ≡ queue_of es w m = ap (λ (k : ℤ × ℕ). queue_of es k.0 k.1) same in
        one_path (sym a.there ∙ found ∙ b.there)
    by Greater is =
        absurd (omega (arith, fewer es (w, m) (z, n) other b.there (ap is_lt (key_total.antisymm (w, m) (z, n) ∙ ap ordering_reverse is)), a.before, b.before))

comes_first : (z : ℤ) (n : ℕ) (w : ℤ) (m : ℕ) → is_lt (key_cmp (w, m) (z, n)) ≡ false → ComesFirst z n w m
comes_first z n w m e = grind (arith, ints)

-- where all entries at lower places are held, the entry at a place comes before each that isn't
pub first_not_held : (es : Entries) (place : ℕ) (z : ℤ) (n : ℕ) (path : List Side) (Held : List Side → Type 0) → IsEntryAt es place z n path
    → ((i : ℕ) → i < place → (w : ℤ) × (m : ℕ) × (other : List Side) × IsEntryAt es i w m other × Held other)
    → (w : ℤ) (m : ℕ) (other : List Side) → queue_of es w m ≡ Some other → (Held other → ⊥) → ComesFirst z n w m
first_not_held es place z n path Held at held w m other found free = by (is_lt (key_cmp (w, m) (z, n))) refl
  where
    by : (t : Bool) → is_lt (key_cmp (w, m) (z, n)) ≡ t → ComesFirst z n w m
    by false is = comes_first z n w m is
    by true is =
        let low : count_before es w m < place = omega (arith, fewer es (w, m) (z, n) other found is, at.before) in
        let k = held (count_before es w m) low in
        let here : IsEntryAt es (count_before es w m) w m other = record { there = found; before = refl } in
        absurd (free (subst Held (same_entry es (count_before es w m) k.0 k.1 k.2 w m other k.3 here) k.4))

-- ---- the first entry has none before it

-- a look-up finds an entry at each key of the list
abbrev FindsEach : Entries → Entries → Type 0
FindsEach all es = AllByRecursion (λ (e : (ℤ × ℕ) × List Side). (path : List Side) × (queue_of all e.0.0 e.0.1 ≡ Some path)) es

found_below : (e : (ℤ × ℕ) × List Side) (all es : Entries) → FindsEach all es → FindsEach (e ∷ all) es
found_below e all [] h = tt
found_below e all (x ∷ es) h = (by (is_eq (key_cmp x.0 e.0)), found_below e all es h.1)
  where
    by : (t : Bool) → (path : List Side) × (cond t (Some e.1) (queue_of all x.0.0 x.0.1) ≡ Some path)
    by true = (e.1, refl)
    by false = h.0

finds_each : (es : Entries) → FindsEach es es
finds_each [] = tt
finds_each (e ∷ es) = ((e.1, ap (λ t. cond t (Some e.1) (queue_of es e.0.0 e.0.1)) (at_itself e.0.0 e.0.1)), found_below e es es (finds_each es))

not_before : (z : ℤ) (n : ℕ) (w : ℤ) (m : ℕ) → ComesFirst z n w m → is_lt (key_cmp (w, m) (z, n)) ≡ false
not_before z n w m (inl low) = grind (arith, ints)
not_before z n w m (inr same) = grind (arith, ints)

pub none_before_first : (es : Entries) (z : ℤ) (n : ℕ) (path : List Side) → IsFirstEntry (queue_of es) z n path → count_before es z n ≡ 0
none_before_first es z n path first = none_before es (z, n) (all es (finds_each es))
  where
    all : (part : Entries) → FindsEach es part → AllByRecursion (λ (e : (ℤ × ℕ) × List Side). is_lt (key_cmp e.0 (z, n)) ≡ false) part
    all [] h = tt
    all (e ∷ part) h = (not_before z n e.0.0 e.0.1 (first.first e.0.0 e.0.1 h.0.0 h.0.1), all part h.1)
