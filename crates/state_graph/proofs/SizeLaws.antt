-- Laws of sizes: no coefficient and no hull of a block is large.
use Rattle.std.proofs.Common.{◌≡◌, refl, sym, ap, subst, ◌∙◌, ℕ, zero, suc, ◌+◌, ◌*◌, ◌^◌, ◌<◌, ◌≤◌, Bool, true, false, List, [], ◌∷◌, map, length, get_or, take, drop, arith, drop-cons, inl, inr}
use Rattle.std.proofs.Math.IntN.{ℤ, pos, ◌+ℤ◌}
use Rattle.std.proofs.Math.Nat.{mul-le-mul_left}
use Rattle.std.specs.Prelude.{◌==◌, if◌then◌else◌, unsigned_abs, sum_by, All}
use Rattle.std.specs.List.{range_with_len}
use Rattle.std.proofs.lemmas.Int.{ints}
use Rattle.std.proofs.lemmas.List.Sums.{sum_by-cons, get_or-le-sum_by, sum_by-le-sum_by}
use Rattle.bp_theory.specs.Program.{span_at, reach, coefficient}
use Rattle.bp_theory.specs.declared.Span.{Span}
use Rattle.bp_theory.specs.declared.Term.{Term}
use Rattle.bp_theory.specs.declared.Row.{Row}
use Rattle.bp_theory.proofs.SumLaws.{sum_of_so_far_within}
use Rattle.bp_theory.proofs.KeyLaws.{if_same, if_other}
use Rattle.bp_theory.specs.Bound.{end_cost}
use Rattle.bp_theory.specs.declared.Sense.TheVariants.{Le}
use Rattle.pricing_problem.specs.Ends.{top_cost}
use Rattle.pricing_problem.specs.Form.{term_size, row_size, cost_size}
use Rattle.pricing_problem.proofs.EndLaws.{end_cost-within, top_cost-within}
use Rattle.state_graph.specs.Windows.{coef_of}
use Rattle.state_graph.specs.Columns.{AreDense, IsLong, hull_with}
use Rattle.state_graph.proofs.ColumnLaws.{coefs_by_places}

-- a coefficient of the terms so far is short
pub coefficient_short : (spans : List Span) (terms : List Term) (i j : ℕ) → sum_by (term_size spans) terms < 2 ^ 62 → unsigned_abs (coefficient (take i terms) j) < 2 ^ 62
coefficient_short spans terms i j small =
    omega (
      arith,
      small,
      sum_of_so_far_within (λ t. if t.var == j then t.coef else pos 0) terms i,
      sum_by-le-sum_by (λ t. unsigned_abs (if t.var == j then t.coef else pos 0)) (term_size spans) terms each,
    )
  where
    at_least : (a r : ℕ) → 1 ≤ r → a ≤ a * r
    at_least a r l = omega (arith, mul-le-mul_left a l)

    each : (t : Term) → unsigned_abs (if t.var == j then t.coef else pos 0) ≤ term_size spans t
    each t = by (t.var == j)
      where
        by : (b : Bool) → unsigned_abs (if b then t.coef else pos 0) ≤ term_size spans t
        by true = at_least (unsigned_abs t.coef) (reach (span_at spans t.var)) (omega arith)
        by false = omega arith

pub term_short : (spans : List Span) (terms : List Term) (i : ℕ) (d : Term) → sum_by (term_size spans) terms < 2 ^ 62 → i < length terms
    → unsigned_abs (get_or terms i d).coef < 2 ^ 62
term_short spans terms i d small l =
    omega (arith, small, get_or-le-sum_by (term_size spans) terms i d l, at_least (unsigned_abs (get_or terms i d).coef) (reach (span_at spans (get_or terms i d).var)) (omega arith))
  where
    at_least : (a r : ℕ) → 1 ≤ r → a ≤ a * r
    at_least a r l = omega (arith, mul-le-mul_left a l)

-- what one term gives a variable
abbrev pick : Term → ℕ → ℤ
pick t v = if t.var == v then t.coef else pos 0

pick_none : (t : Term) (a n : ℕ) (ss : List Span) → t.var < a → cost_size ss (map (pick t) (range_with_len a n)) ≡ 0
pick_none t a zero [] l = refl
pick_none t a zero (s ∷ ss) l = refl
pick_none t a (suc n) [] l = refl
pick_none t a (suc n) (s ∷ ss) l =
    omega (
      arith,
      ap (λ z. unsigned_abs z * reach s) (if_other t.var a t.coef (pos 0) (apart t.var a l)),
      pick_none t (a + 1) n ss (omega arith),
    )
  where
    apart : (m k : ℕ) → m < k → m ≡ k → ⊥
    apart m k l e = omega (arith, l, e)

pick_size : (t : Term) (a n k : ℕ) (ss : List Span) → t.var ≡ a + k → cost_size ss (map (pick t) (range_with_len a n)) ≤ unsigned_abs t.coef * reach (span_at ss k)
pick_size t a zero k [] e = omega arith
pick_size t a zero k (s ∷ ss) e = omega arith
pick_size t a (suc n) k [] e = omega arith
pick_size t a (suc n) zero (s ∷ ss) e =
    omega (
      arith,
      ap (λ z. unsigned_abs z * reach s) (if_same t.var a t.coef (pos 0) (omega (arith, e))),
      pick_none t (a + 1) n ss (omega (arith, e)),
    )
pick_size t a (suc n) (suc k) (s ∷ ss) e =
    omega (
      arith,
      ap (λ z. unsigned_abs z * reach s) (if_other t.var a t.coef (pos 0) (apart t.var a k e)),
      pick_size t (a + 1) n k ss (omega (arith, e)),
    )
  where
    apart : (m b i : ℕ) → m ≡ b + suc i → m ≡ b → ⊥
    apart m b i e f = omega (arith, e, f)

zeros_size : (vs : List ℕ) (ss : List Span) → cost_size ss (map (λ (v : ℕ). pos 0) vs) ≡ 0
zeros_size [] [] = refl
zeros_size [] (s ∷ ss) = refl
zeros_size (v ∷ vs) [] = refl
zeros_size (v ∷ vs) (s ∷ ss) = omega (arith, zeros_size vs ss)

-- the magnitude of a sum
sum-le : (a b : ℤ) → unsigned_abs (a +ℤ b) ≤ unsigned_abs a + unsigned_abs b
sum-le a b = omega (arith, ints)

added_size : (f g : ℕ → ℤ) (vs : List ℕ) (ss : List Span) → cost_size ss (map (λ v. f v +ℤ g v) vs) ≤ cost_size ss (map f vs) + cost_size ss (map g vs)
added_size f g [] [] = omega arith
added_size f g [] (s ∷ ss) = omega arith
added_size f g (v ∷ vs) [] = omega arith
added_size f g (v ∷ vs) (s ∷ ss) =
    omega (arith, product (f v) (g v) (reach s), added_size f g vs ss)
  where
    product : (a b : ℤ) (m : ℕ) → unsigned_abs (a +ℤ b) * m ≤ unsigned_abs a * m + unsigned_abs b * m
    product a b m = omega (arith, mul-le-mul_left m (sum-le a b))

-- coefficients by place are no larger than the terms
places_size : (spans : List Span) (n : ℕ) (terms : List Term) → cost_size spans (map (coefficient terms) (range_with_len 0 n)) ≤ sum_by (term_size spans) terms
places_size spans n [] = omega (arith, zeros_size (range_with_len 0 n) spans)
places_size spans n (t ∷ ts) =
    omega (
      arith,
      added_size (pick t) (coefficient ts) (range_with_len 0 n) spans,
      pick_size t 0 n t.var spans (omega arith),
      places_size spans n ts,
      sum_by-cons (term_size spans) t ts,
    )

-- those from a variable on are no larger
behind_size : (spans : List Span) (coefs : List ℤ) (v : ℕ) → cost_size (drop v spans) (drop v coefs) ≤ cost_size spans coefs
behind_size spans coefs zero = omega arith
behind_size [] coefs (suc v) = omega arith
behind_size (s ∷ ss) [] (suc v) = bare (drop v ss)
  where
    bare : (ts : List Span) → cost_size ts [] ≤ 0
    bare [] = omega arith
    bare (t ∷ ts) = omega arith
behind_size (s ∷ ss) (c ∷ cs) (suc v) = omega (arith, behind_size ss cs v)

pub row_short : (rows : List Row) (spans : List Span) (dense : List (List ℤ)) (row v : ℕ) → AreDense rows (length spans) dense → row < length rows
    → All (λ (r : Row). row_size spans r < 2 ^ 62) rows → cost_size (drop v spans) (drop v (get_or dense row [])) < 2 ^ 62
row_short rows spans dense row v d there small =
    omega (
      arith,
      behind_size spans (get_or dense row []) v,
      subst (λ (cs : List ℤ). cost_size spans cs ≤ sum_by (term_size spans) (get_or rows row none).terms) (sym (coefs_by_places (get_or rows row none).terms (length spans) (get_or dense row []) (d.each row none there)))
          (places_size spans (length spans) (get_or rows row none).terms),
      small row none there,
    )
  where
    none : Row
    none = record { sense = Le; low = pos 0; rhs = pos 0; terms = [] }

-- with one variable more
pub size_more : (spans : List Span) (coefs : List ℤ) (v : ℕ) → v < length spans → v < length coefs
    → cost_size (drop v spans) (drop v coefs) ≡ unsigned_abs (coef_of coefs v) * reach (span_at spans v) + cost_size (drop (v + 1) spans) (drop (v + 1) coefs)
size_more spans coefs v there there_too =
    ap (λ (ss : List Span). cost_size ss (drop v coefs)) (drop-cons spans v (record { lo = pos 0; hi = pos 0 }) there)
    ∙ ap (λ (cs : List ℤ). cost_size (span_at spans v ∷ drop (suc v) spans) cs) (drop-cons coefs v (pos 0) there_too)
    ∙ ap (λ n. unsigned_abs (coef_of coefs v) * reach (span_at spans v) + cost_size (drop n spans) (drop n coefs)) one
  where
    one : suc v ≡ v + 1
    one = omega arith

-- both ends of a hull are at most a number in magnitude
pub record IsSized (hull : Span) (size : ℕ) : Type 0 where
  pub lo : unsigned_abs hull.lo ≤ size
  pub hi : unsigned_abs hull.hi ≤ size

pub hull_sized : (hull : Span) (coef : ℤ) (s : Span) (size : ℕ) → IsSized hull size → IsSized (hull_with hull coef s) (unsigned_abs coef * reach s + size)
hull_sized hull coef s size h = record {
  lo = omega (arith, h.lo, end_cost-within s coef, sum-le hull.lo (end_cost s coef));
  hi = omega (arith, h.hi, top_cost-within s coef, sum-le hull.hi (top_cost s coef));
}

pub sized_more : (spans : List Span) (coefs : List ℤ) (v : ℕ) (hull : Span) (c : ℤ) (s : Span) → v < length spans → v < length coefs
    → s ≡ span_at spans v → c ≡ coef_of coefs v → IsSized hull (cost_size (drop (v + 1) spans) (drop (v + 1) coefs)) → IsSized (hull_with hull c s) (cost_size (drop v spans) (drop v coefs))
sized_more spans coefs v hull c s there there_too is coef h =
    subst (λ n. IsSized (hull_with hull c s) n) (sym same) (hull_sized hull c s (cost_size (drop (v + 1) spans) (drop (v + 1) coefs)) h)
  where
    same : cost_size (drop v spans) (drop v coefs) ≡ unsigned_abs c * reach s + cost_size (drop (v + 1) spans) (drop (v + 1) coefs)
    same =
        size_more spans coefs v there there_too
        ∙ ap (λ z. unsigned_abs z * reach (span_at spans v) + cost_size (drop (v + 1) spans) (drop (v + 1) coefs)) (sym coef)
        ∙ ap (λ (x : Span). unsigned_abs c * reach x + cost_size (drop (v + 1) spans) (drop (v + 1) coefs)) (sym is)

pub sized_short : (hull : Span) (size : ℕ) → IsSized hull size → size < 2 ^ 62 → IsLong hull → ⊥
sized_short hull size h small (inl long) = omega (arith, h.lo, small, long)
sized_short hull size h small (inr long) = omega (arith, h.hi, small, long)
