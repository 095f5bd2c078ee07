-- Laws of the coefficients of each variable.
use Rattle.std.proofs.Common.{◌≡◌, ◌≢◌, refl, sym, ap, subst, ◌∙◌, ℕ, zero, suc, ◌+◌, ◌-◌, ◌*◌, ◌^◌, ◌<◌, ◌≤◌, max, Bool, true, false, List, [], ◌∷◌, map, length, get_or, set, take, arith, ⊎_elim, inl, inr}
use Rattle.std.proofs.Math.IntN.{ℤ, pos, negsuc, neg_ℤ, ◌+ℤ◌, ◌-ℤ◌, ◌*ℤ◌}
use Rattle.std.proofs.Math.Nat.{mul-le-mul_left, mul_comm}
use Rattle.std.specs.Prelude.{◌≤ℤ◌, ◌==◌, if◌then◌else◌, ◌⊎◌, unsigned_abs, sum_by, FitsSigned, All}
use Rattle.std.specs.Int.{w128, int_gap}
use Rattle.std.specs.List.{AllZip, AllByRecursion, range_with_len}
use Rattle.std.proofs.lemmas.Int.{ints, fits_signed_from_abs}
use Rattle.std.proofs.lemmas.Bool.{cases_lt, cases_eq}
use Rattle.std.proofs.lemmas.List.FromFn.{get_or-map-range_with_len, length-range_with_len}
use Rattle.std.proofs.lemmas.List.{get_or_read, get_or-set_same, get_or-set_other, ext_get_or, length-map, get_or-map}
use Rattle.std.proofs.lemmas.List.Elements.{recursion_from_All}
use Rattle.std.proofs.lemmas.List.Sums.{sum_by-cons, sum_by-take-le, get_or-le-sum_by, sum_by-le-sum_by}
use Rattle.bp_theory.specs.Sums.{sum_of, sum_at, dot}
use Rattle.bp_theory.specs.Program.{span_at, reach, coefficient, activity, value_at}
use Rattle.bp_theory.specs.Decomposition.{HasVariablesBelow}
use Rattle.bp_theory.specs.Trees.{IsSubzone, IsSubspan}
use Rattle.bp_theory.specs.declared.Span.{Span}
use Rattle.bp_theory.specs.declared.Term.{Term}
use Rattle.bp_theory.proofs.SumLaws.{sum_of_more, sum_of_so_far_within, dot-map-map}
use Rattle.bp_theory.proofs.KeyLaws.{if_same, if_other, sum_of-by_key}
use Rattle.pricing_problem.specs.Form.{term_size, cost_size}
use Rattle.knapsack_table.specs.Taken.{term_reach, row_reach, dense}
use Rattle.knapsack_table.specs.declared.items.Item.{Item}
use Rattle.knapsack_table.specs.Loads.{IsLoad, load, item_of, items_of}

-- a span is no longer than twice its reach
pub gap-le : (s : Span) → int_gap s.lo s.hi ≤ 2 * reach s
gap-le s = by s.lo s.hi
  where
    by : (a b : ℤ) → int_gap a b ≤ 2 * max 1 (max (unsigned_abs a) (unsigned_abs b))
    by a b = grind (arith, ints)

pub term_reach-le : (spans : List Span) (t : Term) → term_reach spans t ≤ 2 * term_size spans t
term_reach-le spans t = omega (arith, mul-le-mul_left (unsigned_abs t.coef) (gap-le (span_at spans t.var)))

pub row_reach-le : (spans : List Span) (terms : List Term) → row_reach spans terms ≤ 2 * sum_by (term_size spans) terms
row_reach-le spans [] = omega arith
row_reach-le spans (t ∷ ts) =
    omega (arith, term_reach-le spans t, row_reach-le spans ts, sum_by-cons (term_reach spans) t ts, sum_by-cons (term_size spans) t ts)

-- a term's reach, and the sum so far with it
pub term_reach_short : (spans : List Span) (terms : List Term) (i : ℕ) (d : Term) → sum_by (term_size spans) terms < 2 ^ 62 → i < length terms
    → term_reach spans (get_or terms i d) < 2 ^ 63
term_reach_short spans terms i d small l =
    omega (arith, small, row_reach-le spans terms, get_or-le-sum_by (term_reach spans) terms i d l)

pub reach_so_far : (spans : List Span) (terms : List Term) (i : ℕ) → sum_by (term_size spans) terms < 2 ^ 62 → row_reach spans (take i terms) < 2 ^ 63
reach_so_far spans terms i small = omega (arith, small, row_reach-le spans terms, sum_by-take-le (term_reach spans) terms i)

-- a coefficient of the terms so far is short
pub coefficient_short : (spans : List Span) (terms : List Term) (i j : ℕ) → sum_by (term_size spans) terms < 2 ^ 62 → unsigned_abs (coefficient (take i terms) j) < 2 ^ 62
coefficient_short spans terms i j small =
    omega (
      arith,
      small,
      sum_of_so_far_within (λ t. if t.var == j then t.coef else pos 0) terms i,
      sum_by-le-sum_by (λ t. unsigned_abs (if t.var == j then t.coef else pos 0)) (term_size spans) terms each,
    )
  where
    at_least : (a r : ℕ) → 1 ≤ r → a ≤ a * r
    at_least a r l = omega (arith, mul-le-mul_left a l)

    each : (t : Term) → unsigned_abs (if t.var == j then t.coef else pos 0) ≤ term_size spans t
    each t = by (t.var == j)
      where
        by : (b : Bool) → unsigned_abs (if b then t.coef else pos 0) ≤ term_size spans t
        by true = at_least (unsigned_abs t.coef) (reach (span_at spans t.var)) (omega arith)
        by false = omega arith

pub term_short : (spans : List Span) (terms : List Term) (i : ℕ) (d : Term) → sum_by (term_size spans) terms < 2 ^ 62 → i < length terms
    → unsigned_abs (get_or terms i d).coef < 2 ^ 62
term_short spans terms i d small l =
    omega (arith, small, get_or-le-sum_by (term_size spans) terms i d l, at_least (unsigned_abs (get_or terms i d).coef) (reach (span_at spans (get_or terms i d).var)) (omega arith))
  where
    at_least : (a r : ℕ) → 1 ≤ r → a ≤ a * r
    at_least a r l = omega (arith, mul-le-mul_left a l)

pub coef_sum_fits : (a b : ℤ) → unsigned_abs a < 2 ^ 62 → unsigned_abs b < 2 ^ 62 → FitsSigned w128 (a +ℤ b)
coef_sum_fits a b h k = fits_signed_from_abs w128 (a +ℤ b) (omega (arith, ints, h, k))

-- a loop's step: one term more
pub coefficient_more : (terms : List Term) (sums : List ℤ) (i : ℕ) (d : Term) (new : ℤ) → i < length terms → (get_or terms i d).var < length sums
    → new ≡ get_or sums (get_or terms i d).var (pos 0) +ℤ (get_or terms i d).coef
    → ((j : ℕ) → get_or sums j (pos 0) ≡ coefficient (take i terms) j)
    → (j : ℕ) → get_or (set sums (get_or terms i d).var new) j (pos 0) ≡ coefficient (take (i + 1) terms) j
coefficient_more terms sums i d new l there is had j =
    changed (cases_eq (get_or terms i d).var j)
    ∙ ap (λ z. z +ℤ (if (get_or terms i d).var == j then (get_or terms i d).coef else pos 0)) (had j)
    ∙ sym (sum_of_more (λ t. if t.var == j then t.coef else pos 0) terms i d l)
  where
    stays : (a : ℤ) → a ≡ a +ℤ pos 0
    stays a = omega (arith, ints)

    changed : ((get_or terms i d).var ≡ j) ⊎ ((get_or terms i d).var ≡ j → ⊥)
        → get_or (set sums (get_or terms i d).var new) j (pos 0)
        ≡ get_or sums j (pos 0) +ℤ (if (get_or terms i d).var == j then (get_or terms i d).coef else pos 0)
    changed (inl same) =
        ap (λ k. get_or (set sums (get_or terms i d).var new) k (pos 0)) (sym same)
        ∙ get_or-set_same sums (get_or terms i d).var new (pos 0) there
        ∙ is
        ∙ ap (λ k. get_or sums k (pos 0) +ℤ (get_or terms i d).coef) same
        ∙ ap (λ z. get_or sums j (pos 0) +ℤ z) (sym (if_same (get_or terms i d).var j (get_or terms i d).coef (pos 0) same))
    changed (inr other) =
        get_or-set_other sums (get_or terms i d).var j new (pos 0) (λ e. other (sym e))
        ∙ stays (get_or sums j (pos 0))
        ∙ ap (λ z. get_or sums j (pos 0) +ℤ z) (sym (if_other (get_or terms i d).var j (get_or terms i d).coef (pos 0) other))

-- sums at each place are the dense coefficients
pub dense_from_places : (terms : List Term) (n : ℕ) (sums : List ℤ) → length sums ≡ n → ((j : ℕ) → get_or sums j (pos 0) ≡ coefficient terms j) → sums ≡ dense terms n
dense_from_places terms n sums same each =
    ext_get_or (pos 0) sums (dense terms n) (same ∙ sym many)
    (λ j l. each j ∙ sym (get_or-map-range_with_len (coefficient terms) 0 n j j (pos 0) (omega (arith, l, same)) (omega arith)))
  where
    many : length (dense terms n) ≡ n
    many = length-map (range_with_len 0 n) (coefficient terms) ∙ length-range_with_len 0 n

-- a point of as many numbers, by its places
pub by_places : (y : List ℤ) → map (value_at y) (range_with_len 0 (length y)) ≡ y
by_places y =
    ext_get_or (pos 0) (map (value_at y) (range_with_len 0 (length y))) y many
    (λ j l. get_or-map-range_with_len (value_at y) 0 (length y) j j (pos 0) (omega (arith, l, many)) (omega arith))
  where
    many : length (map (value_at y) (range_with_len 0 (length y))) ≡ length y
    many = length-map (range_with_len 0 (length y)) (value_at y) ∙ length-range_with_len 0 (length y)

-- the dense coefficients give a row's activity
pub dense_activity : (terms : List Term) (y : List ℤ) → HasVariablesBelow (length y) terms → dot (dense terms (length y)) y ≡ activity terms y
dense_activity terms y below =
    ap (dot (dense terms (length y))) (sym (by_places y))
    ∙ dot-map-map (coefficient terms) (value_at y) (range_with_len 0 (length y))
    ∙ sym (sum_of-by_key (λ (t : Term). t.var) (λ t. t.coef) (value_at y) (length y) terms (recursion_from_All (λ (t : Term). t.var < length y) terms below))

-- sums of magnitudes over spans
abbrev pub size_by : (Span → ℕ) → List Span → List ℤ → ℕ
size_by w [] rs = 0
size_by w (s ∷ ss) [] = 0
size_by w (s ∷ ss) (r ∷ rs) = unsigned_abs r * w s + size_by w ss rs

pub cost_size_is : (ss : List Span) (rs : List ℤ) → cost_size ss rs ≡ size_by reach ss rs
cost_size_is [] rs = refl
cost_size_is (s ∷ ss) [] = refl
cost_size_is (s ∷ ss) (r ∷ rs) = ap (λ n. unsigned_abs r * reach s + n) (cost_size_is ss rs)

-- what one term gives a variable
abbrev pub pick : Term → ℕ → ℤ
pick t v = if t.var == v then t.coef else pos 0

pick_none : (w : Span → ℕ) (t : Term) (a n : ℕ) (ss : List Span) → t.var < a → size_by w ss (map (pick t) (range_with_len a n)) ≡ 0
pick_none w t a zero [] l = refl
pick_none w t a zero (s ∷ ss) l = refl
pick_none w t a (suc n) [] l = refl
pick_none w t a (suc n) (s ∷ ss) l =
    omega (
      arith,
      ap (λ z. unsigned_abs z * w s) (if_other t.var a t.coef (pos 0) (apart t.var a l)),
      pick_none w t (a + 1) n ss (omega arith),
    )
  where
    apart : (m k : ℕ) → m < k → m ≡ k → ⊥
    apart m k l e = omega (arith, l, e)

pick_size : (w : Span → ℕ) (t : Term) (a n k : ℕ) (ss : List Span) → t.var ≡ a + k → size_by w ss (map (pick t) (range_with_len a n)) ≤ unsigned_abs t.coef * w (span_at ss k)
pick_size w t a zero k [] e = omega arith
pick_size w t a zero k (s ∷ ss) e = omega arith
pick_size w t a (suc n) k [] e = omega arith
pick_size w t a (suc n) zero (s ∷ ss) e =
    omega (
      arith,
      ap (λ z. unsigned_abs z * w s) (if_same t.var a t.coef (pos 0) (omega (arith, e))),
      pick_none w t (a + 1) n ss (omega (arith, e)),
    )
pick_size w t a (suc n) (suc k) (s ∷ ss) e =
    omega (
      arith,
      ap (λ z. unsigned_abs z * w s) (if_other t.var a t.coef (pos 0) (apart t.var a k e)),
      pick_size w t (a + 1) n k ss (omega (arith, e)),
    )
  where
    apart : (m b i : ℕ) → m ≡ b + suc i → m ≡ b → ⊥
    apart m b i e f = omega (arith, e, f)

zeros_size : (w : Span → ℕ) (vs : List ℕ) (ss : List Span) → size_by w ss (map (λ (v : ℕ). pos 0) vs) ≡ 0
zeros_size w [] [] = refl
zeros_size w [] (s ∷ ss) = refl
zeros_size w (v ∷ vs) [] = refl
zeros_size w (v ∷ vs) (s ∷ ss) = omega (arith, zeros_size w vs ss)

added_size : (w : Span → ℕ) (f g : ℕ → ℤ) (vs : List ℕ) (ss : List Span)
    → size_by w ss (map (λ v. f v +ℤ g v) vs) ≤ size_by w ss (map f vs) + size_by w ss (map g vs)
added_size w f g [] [] = omega arith
added_size w f g [] (s ∷ ss) = omega arith
added_size w f g (v ∷ vs) [] = omega arith
added_size w f g (v ∷ vs) (s ∷ ss) =
    omega (arith, product (f v) (g v) (w s), added_size w f g vs ss)
  where
    within : (a b : ℤ) → unsigned_abs (a +ℤ b) ≤ unsigned_abs a + unsigned_abs b
    within a b = omega (arith, ints)

    product : (a b : ℤ) (m : ℕ) → unsigned_abs (a +ℤ b) * m ≤ unsigned_abs a * m + unsigned_abs b * m
    product a b m = omega (arith, mul-le-mul_left m (within a b))

-- the dense coefficients are no larger than the terms
pub dense_size : (w : Span → ℕ) (spans : List Span) (n : ℕ) (terms : List Term)
    → size_by w spans (dense terms n) ≤ sum_by (λ t. unsigned_abs t.coef * w (span_at spans t.var)) terms
dense_size w spans n [] = omega (arith, zeros_size w (range_with_len 0 n) spans)
dense_size w spans n (t ∷ ts) =
    omega (
      arith,
      added_size w (pick t) (coefficient ts) (range_with_len 0 n) spans,
      pick_size w t 0 n t.var spans (omega arith),
      dense_size w spans n ts,
      sum_by-cons (λ (u : Term). unsigned_abs u.coef * w (span_at spans u.var)) t ts,
    )
