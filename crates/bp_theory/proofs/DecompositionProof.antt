-- The blocking of a decomposition adds up to the program.
use Rattle.std.proofs.Common.{◌≡◌, ◌≢◌, refl, sym, ap, subst, ◌∙◌, ℕ, zero, suc, ◌+◌, ◌<◌, ◌≤◌, Bool, true, false, not, ◌||◌, List, [], ◌∷◌, ◌++◌, map, drop, length, get_or, Option, Some, None, arith, inl, inr, ⊎_elim}
use Rattle.std.proofs.Math.IntN.{ℤ, pos, ◌+ℤ◌, ◌-ℤ◌}
use Rattle.std.specs.Prelude.{◌⊎◌, ◌==◌, if◌then◌else◌, filter, All, Contains}
use Rattle.std.specs.List.{AllZip, AllByRecursion, range_with_len, list_any, zip, flat_map, enumerate_from}
use Rattle.std.specs.Ordering.{int_eq}
use Rattle.std.proofs.lemmas.Bool.{cases_lt}
use Rattle.std.proofs.lemmas.Bool.Decides.{eqb_tells, Decides-int_eq}
use Rattle.std.proofs.lemmas.Int.{ints}
use Rattle.std.proofs.lemmas.List.{get_or-map, length-map}
use Rattle.std.proofs.lemmas.List.Elements.{recursion_from_All, All-from_recursion, All-contains, All-append, All-map, All-filter, All-nil, All-contains_itself}
use Rattle.bp_theory.specs.Sums.{sum_of, sum_at}
use Rattle.bp_theory.specs.Program.{Program, coefficient, IsFeasible, MeetsRow}
use Rattle.bp_theory.specs.Blocking.{Copy, Block, coef_in, StandsFor, Mirrors, AreImplied, AddsUp}
use Rattle.bp_theory.specs.Decomposition.{Decomposition, is_block, rows_of, stands_in, is_in, is_first, members, lone_variables, ProofRow, whole_row, link_row, no_row, proof_row, links_of, proof_rows, full_row, at_first, copy_coefficient, numbered, copy_of, place_of, term_with_place, row_with_places, block_of, lone_block, blocking_of, HasVariablesBelow, IsClosed}
use Rattle.bp_theory.specs.Laws.{DecompositionIsFaithful}
use Rattle.bp_theory.specs.declared.Term.{Term}
use Rattle.bp_theory.specs.declared.Sense.TheVariants.{Eq}
use Rattle.bp_theory.specs.declared.Row.{Row}
use Rattle.bp_theory.proofs.SumLaws.{sum_of-append, sum_of-flat_map, sum_of-map, sum_of-same, sum_of-sub, sum_of-zero, sum_of-filter}
use Rattle.bp_theory.proofs.KeyLaws.{if_same, if_other}

-- ---- sums over ranges, filters and numbered lists

-- two tests change places
if_swap : (s t : Bool) (a : ℤ) → (if s then (if t then a else pos 0) else pos 0) ≡ (if t then (if s then a else pos 0) else pos 0)
if_swap true true a = refl
if_swap true false a = refl
if_swap false true a = refl
if_swap false false a = refl

-- a range without the key
range_without : (f : ℕ → ℤ) (k a n : ℕ) → (k < a) ⊎ (a + n ≤ k) → sum_of (λ u. if u == k then f u else pos 0) (range_with_len a n) ≡ pos 0
range_without f k a zero out = refl
range_without f k a (suc n) out =
    omega (
      arith,
      ints,
      if_other a k (f a) (pos 0) (λ e. ⊎_elim (λ l. omega (arith, l, e)) (λ h. omega (arith, h, e)) out),
      range_without f k (a + 1) n (⊎_elim (λ l. inl (omega arith)) (λ h. inr (omega arith)) out),
    )

-- a range with the key
range_with : (f : ℕ → ℤ) (k a n : ℕ) → a ≤ k → k < a + n → sum_of (λ u. if u == k then f u else pos 0) (range_with_len a n) ≡ f k
range_with f k a zero low high = absurd (omega arith)
range_with f k a (suc n) low high = ⊎_elim
    (λ same. omega (
      arith,
      ints,
      ap (λ t. if t then f a else pos 0) same.0,
      ap f same.1,
      range_without f k (a + 1) n (inl (omega (arith, same.1))),
    ))
    (λ other. omega (
      arith,
      ints,
      ap (λ t. if t then f a else pos 0) other.0,
      range_with f k (a + 1) n (above a k low other.1) (omega arith),
    ))
    (eqb_tells a k)
  where
    above : (a k : ℕ) → a ≤ k → a ≢ k → a + 1 ≤ k
    above a k l n = omega arith

-- a filtered range at a key
filtered_range : (f : ℕ → ℤ) (q : ℕ → Bool) (k n : ℕ) → k < n
    → sum_of (λ u. if u == k then f u else pos 0) (filter q (range_with_len 0 n)) ≡ (if q k then f k else pos 0)
filtered_range f q k n l =
    sum_of-filter (λ u. if u == k then f u else pos 0) q (range_with_len 0 n)
    ∙ sum_of-same (λ u. if q u then (if u == k then f u else pos 0) else pos 0) (λ u. if u == k then (if q u then f u else pos 0) else pos 0)
    (λ u. if_swap (q u) (u == k) (f u)) (range_with_len 0 n)
    ∙ range_with (λ u. if q u then f u else pos 0) k 0 n (omega arith) (omega arith)

-- past the range nothing is there
filtered_past : (f : ℕ → ℤ) (q : ℕ → Bool) (k n : ℕ) → n ≤ k
    → sum_of (λ u. if u == k then f u else pos 0) (filter q (range_with_len 0 n)) ≡ pos 0
filtered_past f q k n l =
    sum_of-filter (λ u. if u == k then f u else pos 0) q (range_with_len 0 n)
    ∙ sum_of-same (λ u. if q u then (if u == k then f u else pos 0) else pos 0) (λ u. if u == k then (if q u then f u else pos 0) else pos 0)
    (λ u. if_swap (q u) (u == k) (f u)) (range_with_len 0 n)
    ∙ range_without (λ u. if q u then f u else pos 0) k 0 n (inr (omega arith))

range_with_len-suc : (a n : ℕ) → range_with_len a (suc n) ≡ range_with_len a n ++ (a + n) ∷ []
range_with_len-suc a zero = let e : a ≡ a + 0 = omega arith in ap (λ m. m ∷ []) e
range_with_len-suc a (suc n) =
    let e : (a + 1) + n ≡ a + suc n = omega arith in
    ap (λ ms. a ∷ ms) (range_with_len-suc (a + 1) n ∙ ap (λ m. range_with_len (a + 1) n ++ m ∷ []) e)

list_any-append : {X : Type 0} (q : X → Bool) (xs ys : List X) → list_any q (xs ++ ys) ≡ (list_any q xs || list_any q ys)
list_any-append q [] ys = refl
list_any-append q (x ∷ xs) ys = by (q x) (list_any-append q xs ys)
  where
    by : (t : Bool) → list_any q (xs ++ ys) ≡ (list_any q xs || list_any q ys)
        → (t || list_any q (xs ++ ys)) ≡ ((t || list_any q xs) || list_any q ys)
    by true rest = refl
    by false rest = rest

-- a number is taken once: at the first that passes, or behind all where none passes
pub first_takes : (q : ℕ → Bool) (g : ℤ) (n : ℕ)
    → sum_of (λ k. if q k then (if not (list_any q (range_with_len 0 k)) then g else pos 0) else pos 0) (range_with_len 0 n)
    +ℤ (if not (list_any q (range_with_len 0 n)) then g else pos 0) ≡ g
first_takes q g zero = omega (arith, ints)
first_takes q g (suc n) =
    let f : ℕ → ℤ = λ k. if q k then (if not (list_any q (range_with_len 0 k)) then g else pos 0) else pos 0 in
    let e : 0 + n ≡ n = omega arith in
    let more : range_with_len 0 (suc n) ≡ range_with_len 0 n ++ n ∷ [] =
    range_with_len-suc 0 n ∙ ap (λ m. range_with_len 0 n ++ m ∷ []) e in
    omega (
      arith,
      ints,
      ap (sum_of f) more,
      sum_of-append f (range_with_len 0 n) (n ∷ []),
      ap (λ ms. if not (list_any q ms) then g else pos 0) more,
      ap (λ t. if not t then g else pos 0) (list_any-append q (range_with_len 0 n) (n ∷ [])),
      by (q n) (list_any q (range_with_len 0 n)),
      first_takes q g n,
    )
  where
    by : (s t : Bool) → (if s then (if not t then g else pos 0) else pos 0) +ℤ (if not (t || (s || false)) then g else pos 0)
        ≡ (if not t then g else pos 0)
    by true true = omega (arith, ints)
    by true false = omega (arith, ints)
    by false true = omega (arith, ints)
    by false false = omega (arith, ints)

-- ---- coefficients in numbered lists

-- a term of 0 may be left out
zeros_left_out : (z : ℤ) (t : Bool) → (if not (int_eq z (pos 0)) then (if t then z else pos 0) else pos 0) ≡ (if t then z else pos 0)
zeros_left_out z t = by (int_eq z (pos 0)) refl t
  where
    by : (s : Bool) → int_eq z (pos 0) ≡ s → (t : Bool) → (if not s then (if t then z else pos 0) else pos 0) ≡ (if t then z else pos 0)
    by true e true = sym ((Decides-int_eq z (pos 0)).0 e)
    by true e false = refl
    by false e t = refl

enumerated_before : (zs : List ℤ) (a i : ℕ) → i < a → sum_of (λ (e : ℕ × ℤ). if e.0 == i then e.1 else pos 0) (enumerate_from a zs) ≡ pos 0
enumerated_before [] a i l = refl
enumerated_before (z ∷ zs) a i l =
    omega (arith, ints, if_other a i z (pos 0) (λ e. omega (arith, l, e)), enumerated_before zs (a + 1) i (omega arith))

enumerated_at : (zs : List ℤ) (a j i : ℕ) → a + j ≡ i → sum_of (λ (e : ℕ × ℤ). if e.0 == i then e.1 else pos 0) (enumerate_from a zs) ≡ get_or zs j (pos 0)
enumerated_at [] a j i e = refl
enumerated_at (z ∷ zs) a zero i e =
    omega (arith, ints, if_same a i z (pos 0) (omega arith), enumerated_before zs (a + 1) i (omega arith))
enumerated_at (z ∷ zs) a (suc j) i e =
    omega (arith, ints, if_other a i z (pos 0) (λ same. omega (arith, e, same)), enumerated_at zs (a + 1) j i (omega arith))

-- the coefficient at a number is the number at that place
pub numbered_at : (zs : List ℤ) (i : ℕ) → sum_at (λ (e : ℕ × ℤ). e.0) (λ e. e.1) (numbered zs) i ≡ get_or zs i (pos 0)
numbered_at zs i =
    sum_of-filter (λ (e : ℕ × ℤ). if e.0 == i then e.1 else pos 0) (λ e. not (int_eq e.1 (pos 0))) (enumerate_from 0 zs)
    ∙ sum_of-same
    (λ (e : ℕ × ℤ). if not (int_eq e.1 (pos 0)) then (if e.0 == i then e.1 else pos 0) else pos 0)
    (λ e. if e.0 == i then e.1 else pos 0)
    (λ e. zeros_left_out e.1 (e.0 == i)) (enumerate_from 0 zs)
    ∙ enumerated_at zs 0 i i (omega arith)

pub get_or-map_past : {X Y : Type 0} (f : X → Y) (xs : List X) (i : ℕ) (d : X) → get_or (map f xs) i (f d) ≡ f (get_or xs i d)
get_or-map_past f [] i d = refl
get_or-map_past f (x ∷ xs) zero d = refl
get_or-map_past f (x ∷ xs) (suc i) d = get_or-map_past f xs i d

pub coef_in-copy_of : (p : Program) (rows : List ProofRow) (first : Bool) (v k i : ℕ)
    → coef_in (copy_of p rows first v k) i ≡ copy_coefficient first v k (get_or rows i no_row)
coef_in-copy_of p rows first v k i =
    numbered_at (map (copy_coefficient first v k) rows) i ∙ get_or-map_past (copy_coefficient first v k) rows i no_row

-- ---- sums over the copies of a variable

-- the weight of the copies of a variable in a block, and in a lone block
in_block : (p : Program) (d : Decomposition) (rows : List ProofRow) (w : Copy → ℤ) (v k : ℕ) → v < length p.spans
    → sum_at (λ c. c.var) w (block_of p d rows k).copies v ≡ (if is_in p d v k then w (copy_of p rows (is_first p d v k) v k) else pos 0)
in_block p d rows w v k l =
    sum_of-map (λ c. if c.var == v then w c else pos 0) (λ u. copy_of p rows (is_first p d u k) u k) (members p d k)
    ∙ filtered_range (λ u. w (copy_of p rows (is_first p d u k) u k)) (λ u. is_in p d u k) v (length p.spans) l

past_block : (p : Program) (d : Decomposition) (rows : List ProofRow) (w : Copy → ℤ) (v k : ℕ) → length p.spans ≤ v
    → sum_at (λ c. c.var) w (block_of p d rows k).copies v ≡ pos 0
past_block p d rows w v k l =
    sum_of-map (λ c. if c.var == v then w c else pos 0) (λ u. copy_of p rows (is_first p d u k) u k) (members p d k)
    ∙ filtered_past (λ u. w (copy_of p rows (is_first p d u k) u k)) (λ u. is_in p d u k) v (length p.spans) l

-- the weight of all copies, as sums over the blocks
split_copies : (p : Program) (d : Decomposition) (rows : List ProofRow) (w : Copy → ℤ) (v : ℕ)
    → sum_at (λ c. c.var) w (flat_map (λ (b : Block). b.copies)
    (map (block_of p d rows) (range_with_len 0 d.blocks) ++ map (lone_block p d rows) (lone_variables p d))) v
    ≡ sum_of (λ k. sum_at (λ c. c.var) w (block_of p d rows k).copies v) (range_with_len 0 d.blocks)
    +ℤ sum_of (λ u. if u == v then w (copy_of p rows true u d.blocks) else pos 0) (lone_variables p d)
split_copies p d rows w v =
    let f : Copy → ℤ = λ c. if c.var == v then w c else pos 0 in
    let g : Block → ℤ = λ b. sum_of f b.copies in
    let ds : List Block = map (block_of p d rows) (range_with_len 0 d.blocks) in
    let ls : List Block = map (lone_block p d rows) (lone_variables p d) in
    omega (
      arith,
      ints,
      sum_of-flat_map f (λ (b : Block). b.copies) (ds ++ ls),
      sum_of-append g ds ls,
      sum_of-map g (block_of p d rows) (range_with_len 0 d.blocks),
      sum_of-map g (lone_block p d rows) (lone_variables p d),
      sum_of-same (λ u. g (lone_block p d rows u)) (λ u. if u == v then w (copy_of p rows true u d.blocks) else pos 0)
          (λ u. omega (arith, ints)) (lone_variables p d),
    )

pub copies_at : (p : Program) (d : Decomposition) (rows : List ProofRow) (w : Copy → ℤ) (v : ℕ) → v < length p.spans
    → sum_at (λ c. c.var) w (flat_map (λ (b : Block). b.copies)
    (map (block_of p d rows) (range_with_len 0 d.blocks) ++ map (lone_block p d rows) (lone_variables p d))) v
    ≡ sum_of (λ k. if is_in p d v k then w (copy_of p rows (is_first p d v k) v k) else pos 0) (range_with_len 0 d.blocks)
    +ℤ (if is_first p d v d.blocks then w (copy_of p rows true v d.blocks) else pos 0)
copies_at p d rows w v l =
    omega (
      arith,
      ints,
      split_copies p d rows w v,
      sum_of-same (λ k. sum_at (λ c. c.var) w (block_of p d rows k).copies v)
          (λ k. if is_in p d v k then w (copy_of p rows (is_first p d v k) v k) else pos 0)
          (λ k. in_block p d rows w v k l) (range_with_len 0 d.blocks),
      filtered_range (λ u. w (copy_of p rows true u d.blocks)) (λ u. is_first p d u d.blocks) v (length p.spans) l,
    )

pub copies_past : (p : Program) (d : Decomposition) (rows : List ProofRow) (w : Copy → ℤ) (v : ℕ) → length p.spans ≤ v
    → sum_at (λ c. c.var) w (flat_map (λ (b : Block). b.copies)
    (map (block_of p d rows) (range_with_len 0 d.blocks) ++ map (lone_block p d rows) (lone_variables p d))) v ≡ pos 0
copies_past p d rows w v l =
    omega (
      arith,
      ints,
      split_copies p d rows w v,
      sum_of-same (λ k. sum_at (λ c. c.var) w (block_of p d rows k).copies v) (λ k. pos 0)
          (λ k. past_block p d rows w v k l) (range_with_len 0 d.blocks),
      sum_of-zero (range_with_len 0 d.blocks),
      filtered_past (λ u. w (copy_of p rows true u d.blocks)) (λ u. is_first p d u d.blocks) v (length p.spans) l,
    )

-- a number of a row that is closed is 0 past the variables
pub coefficient_past : (n v : ℕ) (terms : List Term) → AllByRecursion (λ t. t.var < n) terms → n ≤ v → coefficient terms v ≡ pos 0
coefficient_past n v [] all l = refl
coefficient_past n v (t ∷ ts) all l =
    omega (arith, ints, if_other t.var v t.coef (pos 0) (λ e. omega (arith, all.0, e)), coefficient_past n v ts all.1 l)

pub costs_add_up : (p : Program) (d : Decomposition) (rows : List ProofRow) → HasVariablesBelow (length p.spans) p.costs → (v : ℕ)
    → sum_at (λ c. c.var) (λ c. c.cost) (flat_map (λ (b : Block). b.copies)
    (map (block_of p d rows) (range_with_len 0 d.blocks) ++ map (lone_block p d rows) (lone_variables p d))) v
    ≡ coefficient p.costs v
costs_add_up p d rows closed v = ⊎_elim
    (λ l. copies_at p d rows (λ c. c.cost) v l ∙ first_takes (is_in p d v) (coefficient p.costs v) d.blocks)
    (λ l. copies_past p d rows (λ c. c.cost) v l
    ∙ sym (coefficient_past (length p.spans) v p.costs (recursion_from_All (λ t. t.var < length p.spans) p.costs closed) l))
    (cases_lt v (length p.spans))

-- ---- the rows of proofs

-- what the rows of proofs keep: closed terms, and links to a block that has a copy
abbrev pub IsKept : Program → Decomposition → ProofRow → Type 0
IsKept p d (whole_row row) = AllByRecursion (λ t. t.var < length p.spans) row.terms
IsKept p d (link_row v k) = (k < d.blocks) × (is_in p d v k ≡ true)
IsKept p d no_row = Unit {0}

kept_rows : (p : Program) (d : Decomposition) (rows : List Row) (places : List (Option ℕ))
    → AllByRecursion (λ row. HasVariablesBelow (length p.spans) row.terms) rows
    → AllByRecursion (IsKept p d) (map (λ e. proof_row e.0 e.1) (zip rows places))
kept_rows p d [] places h = tt
kept_rows p d (row ∷ rows) [] h = tt
kept_rows p d (row ∷ rows) (None ∷ places) h =
    (recursion_from_All (λ t. t.var < length p.spans) row.terms h.0, kept_rows p d rows places h.1)
kept_rows p d (row ∷ rows) (Some k ∷ places) h = (tt, kept_rows p d rows places h.1)

kept_cuts : (p : Program) (d : Decomposition) (cuts : List Row)
    → AllByRecursion (λ cut. HasVariablesBelow (length p.spans) cut.terms) cuts → AllByRecursion (IsKept p d) (map whole_row cuts)
kept_cuts p d [] h = tt
kept_cuts p d (cut ∷ cuts) h = (recursion_from_All (λ t. t.var < length p.spans) cut.terms h.0, kept_cuts p d cuts h.1)

-- what passes a filter of a range is in the range, and passes
filtered_kept : (q : ℕ → Bool) (n a m : ℕ) → a + m ≤ n → AllByRecursion (λ k. (k < n) × (q k ≡ true)) (filter q (range_with_len a m))
filtered_kept q n a zero l = tt
filtered_kept q n a (suc m) l = by (q a) refl (filtered_kept q n (a + 1) m (omega arith))
  where
    by : (t : Bool) → q a ≡ t → AllByRecursion (λ k. (k < n) × (q k ≡ true)) (filter q (range_with_len (a + 1) m))
        → AllByRecursion (λ k. (k < n) × (q k ≡ true)) (if t then a ∷ filter q (range_with_len (a + 1) m) else filter q (range_with_len (a + 1) m))
    by true e rest = ((omega arith, e), rest)
    by false e rest = rest

kept_after_first : {X : Type 0} (P : X → Type 0) (xs : List X) → AllByRecursion P xs → AllByRecursion P (drop 1 xs)
kept_after_first P [] h = tt
kept_after_first P (x ∷ xs) h = h.1

kept_append : {X : Type 0} (P : X → Type 0) (xs ys : List X) → AllByRecursion P xs → AllByRecursion P ys → AllByRecursion P (xs ++ ys)
kept_append P [] ys h g = g
kept_append P (x ∷ xs) ys h g = (h.0, kept_append P xs ys h.1 g)

kept_links_of : (p : Program) (d : Decomposition) (v : ℕ) (ks : List ℕ)
    → AllByRecursion (λ k. (k < d.blocks) × (is_in p d v k ≡ true)) ks → AllByRecursion (IsKept p d) (map (link_row v) ks)
kept_links_of p d v [] h = tt
kept_links_of p d v (k ∷ ks) h = (h.0, kept_links_of p d v ks h.1)

kept_links : (p : Program) (d : Decomposition) (vs : List ℕ) → AllByRecursion (IsKept p d) (flat_map (links_of p d) vs)
kept_links p d [] = tt
kept_links p d (v ∷ vs) =
    kept_append (IsKept p d) (links_of p d v) (flat_map (links_of p d) vs)
    (kept_links_of p d v (drop 1 (filter (is_in p d v) (range_with_len 0 d.blocks)))
    (kept_after_first (λ k. (k < d.blocks) × (is_in p d v k ≡ true)) (filter (is_in p d v) (range_with_len 0 d.blocks))
    (filtered_kept (is_in p d v) d.blocks 0 d.blocks (omega arith))))
    (kept_links p d vs)

pub kept_all : (p : Program) (d : Decomposition) (cuts : List Row) → IsClosed p
    → All (λ cut. HasVariablesBelow (length p.spans) cut.terms) cuts → AllByRecursion (IsKept p d) (proof_rows p d cuts)
kept_all p d cuts closed closed_cuts =
    kept_append (IsKept p d) (map (λ e. proof_row e.0 e.1) (zip p.rows d.places) ++ flat_map (links_of p d) (range_with_len 0 (length p.spans))) (map whole_row cuts)
    (kept_append (IsKept p d) (map (λ e. proof_row e.0 e.1) (zip p.rows d.places)) (flat_map (links_of p d) (range_with_len 0 (length p.spans)))
    (kept_rows p d p.rows d.places (recursion_from_All (λ row. HasVariablesBelow (length p.spans) row.terms) p.rows closed.rows))
    (kept_links p d (range_with_len 0 (length p.spans))))
    (kept_cuts p d cuts (recursion_from_All (λ cut. HasVariablesBelow (length p.spans) cut.terms) cuts closed_cuts))

pub kept_at : {X : Type 0} (P : X → Type 0) (xs : List X) (d : X) → AllByRecursion P xs → P d → (i : ℕ) → P (get_or xs i d)
kept_at P [] d h g i = g
kept_at P (x ∷ xs) d h g zero = h.0
kept_at P (x ∷ xs) d h g (suc i) = kept_at P xs d h.1 g i

-- ---- the copies of a link cancel

list_any_within : (q : ℕ → Bool) (j a n : ℕ) → a ≤ j → j < a + n → q j ≡ true → list_any q (range_with_len a n) ≡ true
list_any_within q j a zero low high e = absurd (omega arith)
list_any_within q j a (suc n) low high e = ⊎_elim
    (λ same. ap (λ t. t || list_any q (range_with_len (a + 1) n)) (ap q same.1 ∙ e))
    (λ other. later (q a) (list_any_within q j (a + 1) n (above a j low other.1) (omega arith) e))
    (eqb_tells a j)
  where
    above : (a j : ℕ) → a ≤ j → a ≢ j → a + 1 ≤ j
    above a j l n = omega arith

    later : (t : Bool) → list_any q (range_with_len (a + 1) n) ≡ true → (t || list_any q (range_with_len (a + 1) n)) ≡ true
    later true h = refl
    later false h = h

if_sub : (t : Bool) (a b : ℤ) → (if t then a -ℤ b else pos 0) ≡ (if t then a else pos 0) -ℤ (if t then b else pos 0)
if_sub true a b = refl
if_sub false a b = omega (arith, ints)

-- one at the first copy, less one at the copy of block j
link_cancels : (q : ℕ → Bool) (j n : ℕ) → j < n → q j ≡ true
    → sum_of (λ k. if q k then (if not (list_any q (range_with_len 0 k)) then pos 1 else pos 0) -ℤ (if k == j then pos 1 else pos 0) else pos 0) (range_with_len 0 n)
    +ℤ (if not (list_any q (range_with_len 0 n)) then pos 1 -ℤ (if n == j then pos 1 else pos 0) else pos 0) ≡ pos 0
link_cancels q j n l e =
    let f : ℕ → ℤ = λ k. if not (list_any q (range_with_len 0 k)) then pos 1 else pos 0 in
    let g : ℕ → ℤ = λ k. if k == j then pos 1 else pos 0 in
    let some : list_any q (range_with_len 0 n) ≡ true = list_any_within q j 0 n (omega arith) (omega arith) e in
    omega (
      arith,
      ints,
      sum_of-same (λ k. if q k then f k -ℤ g k else pos 0) (λ k. (if q k then f k else pos 0) -ℤ (if q k then g k else pos 0))
          (λ k. if_sub (q k) (f k) (g k)) (range_with_len 0 n),
      sum_of-sub (λ k. if q k then f k else pos 0) (λ k. if q k then g k else pos 0) (range_with_len 0 n),
      sum_of-same (λ k. if q k then g k else pos 0) (λ k. if k == j then (if q k then pos 1 else pos 0) else pos 0)
          (λ k. if_swap (q k) (k == j) (pos 1)) (range_with_len 0 n),
      range_with (λ k. if q k then pos 1 else pos 0) j 0 n (omega arith) (omega arith),
      ap (λ t. if t then pos 1 else pos 0) e,
      first_takes q (pos 1) n,
      ap (λ t. if not t then pos 1 else pos 0) some,
      ap (λ t. if not t then pos 1 -ℤ (if n == j then pos 1 else pos 0) else pos 0) some,
    )

-- where all weights are 0
if_zero : (t : Bool) (z : ℤ) → z ≡ pos 0 → (if t then z else pos 0) ≡ pos 0
if_zero true z e = e
if_zero false z e = refl

coefs_of_kind : (p : Program) (d : Decomposition) (v : ℕ) (row : ProofRow) (full : Row) → IsKept p d row → full_row row ≡ Some full
    → sum_of (λ k. if is_in p d v k then copy_coefficient (is_first p d v k) v k row else pos 0) (range_with_len 0 d.blocks)
    +ℤ (if is_first p d v d.blocks then copy_coefficient true v d.blocks row else pos 0)
    ≡ coefficient full.terms v
coefs_of_kind p d v (whole_row row) full kept e =
    let same : row ≡ full = cc in
    first_takes (is_in p d v) (coefficient row.terms v) d.blocks ∙ ap (λ (r : Row). coefficient r.terms v) same
coefs_of_kind p d v (link_row w j) full kept e =
    let same : record { sense = Eq; low = pos 0; rhs = pos 0; terms = [] } ≡ full = cc in
    (⊎_elim
    (λ equal.
    let here : is_in p d v j ≡ true = ap (λ u. is_in p d u j) (sym equal.1) ∙ kept.1 in
    let weight : ℕ → ℤ = λ k. (if is_first p d v k then pos 1 else pos 0) -ℤ (if k == j then pos 1 else pos 0) in
    ap (λ (t : Bool). sum_of (λ k. if is_in p d v k then (if t then weight k else pos 0) else pos 0) (range_with_len 0 d.blocks)
    +ℤ (if is_first p d v d.blocks then (if t then pos 1 -ℤ (if d.blocks == j then pos 1 else pos 0) else pos 0) else pos 0)) equal.0
    ∙ link_cancels (is_in p d v) j d.blocks kept.0 here)
    (λ other.
    let none : (first : Bool) (k : ℕ) → copy_coefficient first v k (link_row w j) ≡ pos 0 =
    λ first k. ap (λ t. if t then at_first first (pos 1) -ℤ (if k == j then pos 1 else pos 0) else pos 0) other.0 in
    omega (
      arith,
      ints,
      sum_of-same (λ k. if is_in p d v k then copy_coefficient (is_first p d v k) v k (link_row w j) else pos 0) (λ k. pos 0)
          (λ k. if_zero (is_in p d v k) (copy_coefficient (is_first p d v k) v k (link_row w j)) (none (is_first p d v k) k))
          (range_with_len 0 d.blocks),
      sum_of-zero (range_with_len 0 d.blocks),
      if_zero (is_first p d v d.blocks) (copy_coefficient true v d.blocks (link_row w j)) (none true d.blocks),
    ))
    (eqb_tells w v))
    ∙ ap (λ (r : Row). coefficient r.terms v) same
coefs_of_kind p d v no_row full kept e = absurd (cc)

-- past the variables a closed row has no coefficient
full_past : (p : Program) (d : Decomposition) (v : ℕ) (row : ProofRow) (full : Row) → IsKept p d row → full_row row ≡ Some full
    → length p.spans ≤ v → coefficient full.terms v ≡ pos 0
full_past p d v (whole_row row) full kept e l =
    let same : full ≡ row = cc in
    ap (λ (r : Row). coefficient r.terms v) same ∙ coefficient_past (length p.spans) v row.terms kept l
full_past p d v (link_row w j) full kept e l =
    let same : full ≡ record { sense = Eq; low = pos 0; rhs = pos 0; terms = [] } = cc in
    ap (λ (r : Row). coefficient r.terms v) same
full_past p d v no_row full kept e l = absurd (cc)

pub coefs_add_up : (p : Program) (d : Decomposition) (rows : List ProofRow) → AllByRecursion (IsKept p d) rows → (i : ℕ) (full : Row)
    → get_or (map full_row rows) i None ≡ Some full → (v : ℕ)
    → sum_at (λ c. c.var) (λ c. coef_in c i) (flat_map (λ (b : Block). b.copies)
    (map (block_of p d rows) (range_with_len 0 d.blocks) ++ map (lone_block p d rows) (lone_variables p d))) v
    ≡ coefficient full.terms v
coefs_add_up p d rows kept i full e v =
    let row : ProofRow = get_or rows i no_row in
    let is_kept : IsKept p d row = kept_at (IsKept p d) rows no_row kept tt i in
    let is_full : full_row row ≡ Some full = sym (get_or-map_past full_row rows i no_row) ∙ e in
    ⊎_elim
    (λ l. copies_at p d rows (λ c. coef_in c i) v l
    ∙ ap (λ z. z +ℤ (if is_first p d v d.blocks then coef_in (copy_of p rows true v d.blocks) i else pos 0))
    (sum_of-same
    (λ k. if is_in p d v k then coef_in (copy_of p rows (is_first p d v k) v k) i else pos 0)
    (λ k. if is_in p d v k then copy_coefficient (is_first p d v k) v k row else pos 0)
    (λ k. ap (λ z. if is_in p d v k then z else pos 0) (coef_in-copy_of p rows (is_first p d v k) v k i))
    (range_with_len 0 d.blocks))
    ∙ ap (λ z. sum_of (λ k. if is_in p d v k then copy_coefficient (is_first p d v k) v k row else pos 0) (range_with_len 0 d.blocks)
    +ℤ (if is_first p d v d.blocks then z else pos 0))
    (coef_in-copy_of p rows true v d.blocks i)
    ∙ coefs_of_kind p d v row full is_kept is_full)
    (λ l. copies_past p d rows (λ c. coef_in c i) v l ∙ sym (full_past p d v row full is_kept is_full l))
    (cases_lt v (length p.spans))

-- ---- the rows of the blocks

pub any_from_at : {X : Type 0} (q : X → Bool) (xs : List X) (i : ℕ) (d : X) → i < length xs → q (get_or xs i d) ≡ true → list_any q xs ≡ true
any_from_at q [] i d l e = absurd (omega arith)
any_from_at q (x ∷ xs) zero d l e = ap (λ t. t || list_any q xs) e
any_from_at q (x ∷ xs) (suc i) d l e = later (q x) (any_from_at q xs i d (omega arith) e)
  where
    later : (t : Bool) → list_any q xs ≡ true → (t || list_any q xs) ≡ true
    later true h = refl
    later false h = h

-- where a variable is among others, its place is there
pub place_there : (vars : List ℕ) (v : ℕ) → list_any (λ u. u == v) vars ≡ true → place_of vars v < length vars
place_there [] v e = absurd (cc)
place_there (u ∷ us) v e = by (u == v) e (place_there us v)
  where
    by : (t : Bool) → (t || list_any (λ w. w == v) us) ≡ true → (list_any (λ w. w == v) us ≡ true → place_of us v < length us)
        → (if t then 0 else suc (place_of us v)) < length (u ∷ us)
    by true h rest = omega arith
    by false h rest = omega (arith, rest h)

pub var_at_place : (vars : List ℕ) (v : ℕ) → list_any (λ u. u == v) vars ≡ true → (d : ℕ) → get_or vars (place_of vars v) d ≡ v
var_at_place [] v e d = absurd (cc)
var_at_place (u ∷ us) v e d = ⊎_elim
    (λ same. ap (λ t. get_or (u ∷ us) (if t then 0 else suc (place_of us v)) d) same.0 ∙ same.1)
    (λ other. ap (λ t. get_or (u ∷ us) (if t then 0 else suc (place_of us v)) d) other.0
    ∙ var_at_place us v (ap (λ t. t || list_any (λ w. w == v) us) (sym other.0) ∙ e) d)
    (eqb_tells u v)

pub or_true : (s t : Bool) → t ≡ true → (s || t) ≡ true
or_true true t h = refl
or_true false t h = h

pub filtered_has : (q : ℕ → Bool) (v a n : ℕ) → a ≤ v → v < a + n → q v ≡ true → list_any (λ u. u == v) (filter q (range_with_len a n)) ≡ true
filtered_has q v a zero low high e = absurd (omega arith)
filtered_has q v a (suc n) low high e = ⊎_elim
    (λ same. ap (λ s. list_any (λ u. u == v) (if s then a ∷ filter q (range_with_len (a + 1) n) else filter q (range_with_len (a + 1) n))) (ap q same.1 ∙ e)
    ∙ ap (λ t. t || list_any (λ u. u == v) (filter q (range_with_len (a + 1) n))) same.0)
    (λ other. later (q a) (filtered_has q v (a + 1) n (above a v low other.1) (omega arith) e))
    (eqb_tells a v)
  where
    above : (a v : ℕ) → a ≤ v → a ≢ v → a + 1 ≤ v
    above a v l n = omega arith

    later : (s : Bool) → list_any (λ u. u == v) (filter q (range_with_len (a + 1) n)) ≡ true
        → list_any (λ u. u == v) (if s then a ∷ filter q (range_with_len (a + 1) n) else filter q (range_with_len (a + 1) n)) ≡ true
    later true h = or_true (a == v) (list_any (λ u. u == v) (filter q (range_with_len (a + 1) n))) h
    later false h = h

-- a variable that stands in a row of a block, and is there, is among the block's members
pub is_member : (p : Program) (d : Decomposition) (k v : ℕ) → v < length p.spans → is_in p d v k ≡ true
    → list_any (λ u. u == v) (members p d k) ≡ true
is_member p d k v l e = filtered_has (λ u. is_in p d u k) v 0 (length p.spans) (omega arith) (omega arith) e

-- the rows of a block are rows of the program
rows_chosen : (Q : Row → Type 0) (q : Row × Option ℕ → Bool) (rows : List Row) (places : List (Option ℕ)) → AllByRecursion Q rows
    → AllByRecursion Q (map (λ (e : Row × Option ℕ). e.0) (filter q (zip rows places)))
rows_chosen Q q [] places h = tt
rows_chosen Q q (row ∷ rows) [] h = tt
rows_chosen Q q (row ∷ rows) (place ∷ places) h = by (q (row, place)) (rows_chosen Q q rows places h.1)
  where
    by : (t : Bool) → AllByRecursion Q (map (λ (e : Row × Option ℕ). e.0) (filter q (zip rows places)))
        → AllByRecursion Q (map (λ (e : Row × Option ℕ). e.0) (if t then (row, place) ∷ filter q (zip rows places) else filter q (zip rows places)))
    by true rest = (h.0, rest)
    by false rest = rest

AllZip-map_left : {A B : Type 0} (R : A → B → Type 0) (f : B → A) (xs : List B) → AllByRecursion (λ x. R (f x) x) xs → AllZip R (map f xs) xs
AllZip-map_left R f [] h = tt
AllZip-map_left R f (x ∷ xs) h = (h.0, AllZip-map_left R f xs h.1)

pub eqb_itself : (v : ℕ) → (v == v) ≡ true
eqb_itself v = ⊎_elim (λ same. same.0) (λ other. absurd (other.1 refl)) (eqb_tells v v)

pub mirrored_row : (p : Program) (d : Decomposition) (rows : List ProofRow) (k i : ℕ) (e : Row) → i < length (rows_of p d k)
    → HasVariablesBelow (length p.spans) (get_or (rows_of p d k) i e).terms
    → Mirrors (block_of p d rows k) (row_with_places (members p d k) (get_or (rows_of p d k) i e)) (get_or (rows_of p d k) i e)
mirrored_row p d rows k i e l closed =
    let row : Row = get_or (rows_of p d k) i e in
    record {
      sense = refl;
      low = refl;
      rhs = refl;
      terms = AllZip-map_left (StandsFor (block_of p d rows k)) (term_with_place (members p d k)) row.terms
          (recursion_from_All (λ t. StandsFor (block_of p d rows k) (term_with_place (members p d k) t) t) row.terms
          (λ j t m.
          let v : ℕ = (get_or row.terms j t).var in
          let inside : is_in p d v k ≡ true = any_from_at (stands_in v) (rows_of p d k) i e l
          (any_from_at (λ (u : Term). u.var == v) row.terms j t m (eqb_itself v)) in
          let member : list_any (λ u. u == v) (members p d k) ≡ true = is_member p d k v (closed j t m) inside in
          let there : place_of (members p d k) v < length (members p d k) = place_there (members p d k) v member in
          record {
            there = subst (λ n. place_of (members p d k) v < n)
                (sym (length-map (members p d k) (λ u. copy_of p rows (is_first p d u k) u k))) there;
            var = λ c. ap (λ (x : Copy). x.var) (get_or-map (λ u. copy_of p rows (is_first p d u k) u k) (members p d k) (place_of (members p d k) v) 0 c there)
                ∙ var_at_place (members p d k) v member 0;
            coef = refl;
          }));
    }

pub below_range : (n a m : ℕ) → a + m ≤ n → AllByRecursion (λ v. v < n) (range_with_len a m)
below_range n a zero l = tt
below_range n a (suc m) l = (omega arith, below_range n (a + 1) m (omega arith))

pub known_members : (p : Program) (q : ℕ → Bool) → All (λ v. v < length p.spans) (filter q (range_with_len 0 (length p.spans)))
known_members p q = All-filter q (λ v. v < length p.spans) (range_with_len 0 (length p.spans))
    (All-from_recursion (λ v. v < length p.spans) (range_with_len 0 (length p.spans)) (below_range (length p.spans) 0 (length p.spans) (omega arith)))

-- what holds of each block
pub all_blocks : (p : Program) (d : Decomposition) (rows : List ProofRow) (P : Block → Type 0)
    → ((k : ℕ) → P (block_of p d rows k)) → ((v : ℕ) → v < length p.spans → P (lone_block p d rows v))
    → All P (map (block_of p d rows) (range_with_len 0 d.blocks) ++ map (lone_block p d rows) (lone_variables p d))
all_blocks p d rows P h g =
    All-append P (map (block_of p d rows) (range_with_len 0 d.blocks)) (map (lone_block p d rows) (lone_variables p d))
    (All-map P (block_of p d rows) (range_with_len 0 d.blocks) (λ i k l. h (get_or (range_with_len 0 d.blocks) i k)))
    (All-map P (lone_block p d rows) (lone_variables p d)
    (λ i v l. g (get_or (lone_variables p d) i v) (known_members p (λ u. is_first p d u d.blocks) i v l)))

adds_up : (p : Program) (d : Decomposition) (cuts : List Row) → IsClosed p
    → All (λ cut. HasVariablesBelow (length p.spans) cut.terms) cuts
    → AddsUp p (map full_row (proof_rows p d cuts)) (blocking_of p d cuts)
adds_up p d cuts closed closed_cuts =
    let rows : List ProofRow = proof_rows p d cuts in
    record {
      known = all_blocks p d rows (λ k. All (λ c. c.var < length p.spans) k.copies)
          (λ k. All-map (λ c. c.var < length p.spans) (λ v. copy_of p rows (is_first p d v k) v k) (members p d k)
          (known_members p (λ v. is_in p d v k)))
          (λ v l. All-from_recursion (λ (c : Copy). c.var < length p.spans) (copy_of p rows true v d.blocks ∷ []) (l, tt));
      mirrored = all_blocks p d rows (λ k. All (λ row. (full : Row) × Contains p.rows full × Mirrors k row full) k.rows)
          (λ k. All-map (λ row. (full : Row) × Contains p.rows full × Mirrors (block_of p d rows k) row full) (row_with_places (members p d k)) (rows_of p d k)
          (λ i e l.
          let there = All-from_recursion (Contains p.rows) (rows_of p d k)
          (rows_chosen (Contains p.rows) (λ e. is_block k e.1) p.rows d.places
          (recursion_from_All (Contains p.rows) p.rows (All-contains_itself p.rows))) i e l in (
            get_or (rows_of p d k) i e,
            there,
            mirrored_row p d rows k i e l
                (All-contains (λ row. HasVariablesBelow (length p.spans) row.terms) p.rows (get_or (rows_of p d k) i e) closed.rows there),
          )))
          (λ v l. All-nil (λ row. (full : Row) × Contains p.rows full × Mirrors (lone_block p d rows v) row full));
      constant = refl;
      costs = costs_add_up p d rows closed.costs;
      sides = refl;
      coefs = coefs_add_up p d rows (kept_all p d cuts closed closed_cuts);
    }

-- ---- each feasible point meets the rows of proofs

-- a point meets a row of proofs, if it is one
abbrev pub IsMetBy : List ℤ → ProofRow → Type 0
IsMetBy x row = (full : Row) → full_row row ≡ Some full → MeetsRow x full

implied_rows : (x : List ℤ) (rows : List Row) (places : List (Option ℕ)) → AllByRecursion (MeetsRow x) rows
    → AllByRecursion (IsMetBy x) (map (λ e. proof_row e.0 e.1) (zip rows places))
implied_rows x [] places h = tt
implied_rows x (row ∷ rows) [] h = tt
implied_rows x (row ∷ rows) (None ∷ places) h =
    (λ full e. let same : row ≡ full = cc in subst (MeetsRow x) same h.0, implied_rows x rows places h.1)
implied_rows x (row ∷ rows) (Some k ∷ places) h = (λ full e. absurd (cc), implied_rows x rows places h.1)

implied_cuts : (x : List ℤ) (cuts : List Row) → AllByRecursion (MeetsRow x) cuts → AllByRecursion (IsMetBy x) (map whole_row cuts)
implied_cuts x [] h = tt
implied_cuts x (cut ∷ cuts) h = (λ full e. let same : cut ≡ full = cc in subst (MeetsRow x) same h.0, implied_cuts x cuts h.1)

implied_links_of : (x : List ℤ) (v : ℕ) (ks : List ℕ) → AllByRecursion (IsMetBy x) (map (link_row v) ks)
implied_links_of x v [] = tt
implied_links_of x v (k ∷ ks) = (
  λ full e.
      let same : record { sense = Eq; low = pos 0; rhs = pos 0; terms = [] } ≡ full = cc in
      subst (MeetsRow x) same (omega (arith, ints), omega (arith, ints)),
  implied_links_of x v ks,
)

implied_links : (p : Program) (d : Decomposition) (x : List ℤ) (vs : List ℕ) → AllByRecursion (IsMetBy x) (flat_map (links_of p d) vs)
implied_links p d x [] = tt
implied_links p d x (v ∷ vs) =
    kept_append (IsMetBy x) (links_of p d v) (flat_map (links_of p d) vs)
    (implied_links_of x v (drop 1 (filter (is_in p d v) (range_with_len 0 d.blocks))))
    (implied_links p d x vs)

pub all_met : (p : Program) (d : Decomposition) (cuts : List Row) (x : List ℤ) → IsFeasible p x → All (MeetsRow x) cuts
    → AllByRecursion (IsMetBy x) (proof_rows p d cuts)
all_met p d cuts x feasible met =
    kept_append (IsMetBy x) (map (λ e. proof_row e.0 e.1) (zip p.rows d.places) ++ flat_map (links_of p d) (range_with_len 0 (length p.spans))) (map whole_row cuts)
    (kept_append (IsMetBy x) (map (λ e. proof_row e.0 e.1) (zip p.rows d.places)) (flat_map (links_of p d) (range_with_len 0 (length p.spans)))
    (implied_rows x p.rows d.places (recursion_from_All (MeetsRow x) p.rows feasible.rows))
    (implied_links p d x (range_with_len 0 (length p.spans))))
    (implied_cuts x cuts (recursion_from_All (MeetsRow x) cuts met))

all_implied : (p : Program) (d : Decomposition) (cuts : List Row) → ((x : List ℤ) → IsFeasible p x → All (MeetsRow x) cuts)
    → AreImplied p (map full_row (proof_rows p d cuts))
all_implied p d cuts met x feasible i full e =
    kept_at (IsMetBy x) (proof_rows p d cuts) no_row (all_met p d cuts x feasible (met x feasible))
    (λ full e. absurd (cc)) i full
    (sym (get_or-map_past full_row (proof_rows p d cuts) i no_row) ∙ e)

pub decomposition_lem : DecompositionIsFaithful
decomposition_lem = record { adds_up = adds_up; implied = all_implied }
