-- The least price of a class's columns.
use Rattle.std.proofs.Common.{◌≡◌, ◌≢◌, ◌⊎◌, refl, ap, sym, subst, ◌∙◌, ℕ, ◌+◌, ◌-◌, ◌<◌, ◌^◌, Bool, true, false, List, [], ◌∷◌, ◌++◌, map, length, take, get_or, set, arith, inl, inr, ⊎_elim, get_or-set_same, get_or-set_other}
use Rattle.std.proofs.Math.IntN.{ℤ, pos}
use Rattle.std.specs.Prelude.{◌≤ℤ◌, ◌==◌, cond, if◌then◌else◌, filter, fold, All, Any, unsigned_abs}
use Rattle.std.specs.List.{AllByRecursion}
use Rattle.std.specs.Int.{int_min}
use Rattle.std.proofs.lemmas.Int.{ints, fold-int_min_bounds, fold-int_min_reached}
use Rattle.std.proofs.lemmas.Bool.Decides.{eqb_tells}
use Rattle.std.proofs.lemmas.List.{take_more}
use Rattle.std.proofs.lemmas.List.Elements.{recursion_from_All, All-from_recursion}
use Rattle.bp_theory.proofs.KeyLaws.{if_same, if_other}
use Rattle.search_laws.specs.declared.Column.{Column}
use Rattle.search_laws.specs.Master.{column_price, IsConvex}

-- the least of a class's prices, and of what the loop begins with
abbrev pub least_so_far : List ℤ → List Column → ℕ → ℤ
least_so_far mults cols k = fold int_min (pos (2 ^ 127 - 1)) (map (column_price mults) (filter (λ (c : Column). c.class == k) cols))

-- one element more
fold_more_if : {X : Type 0} (q : X → Bool) (p : X → ℤ) (a : ℤ) (xs : List X) (x : X)
    → fold int_min a (map p (filter q (xs ++ x ∷ [])))
    ≡ (if q x then int_min (fold int_min a (map p (filter q xs))) (p x) else fold int_min a (map p (filter q xs)))
fold_more_if {X} q p a [] x = by (q x)
  where
    by : (t : Bool) → fold int_min a (map p (cond t (x ∷ []) [])) ≡ (if t then int_min a (p x) else a)
    by true = refl
    by false = refl
fold_more_if {X} q p a (y ∷ ys) x = by (q y) (λ b. fold_more_if q p b ys x)
  where
    by : (t : Bool) → ((b : ℤ) → fold int_min b (map p (filter q (ys ++ x ∷ []))) ≡ (if q x then int_min (fold int_min b (map p (filter q ys))) (p x) else fold int_min b (map p (filter q ys))))
        → fold int_min a (map p (cond t (y ∷ filter q (ys ++ x ∷ [])) (filter q (ys ++ x ∷ []))))
        ≡ (if q x then int_min (fold int_min a (map p (cond t (y ∷ filter q ys) (filter q ys)))) (p x) else fold int_min a (map p (cond t (y ∷ filter q ys) (filter q ys))))
    by true rest = rest (int_min a (p y))
    by false rest = rest a

-- one column more
pub least_more : (mults : List ℤ) (cols : List Column) (i : ℕ) (d : Column) (k : ℕ) → i < length cols
    → least_so_far mults (take (i + 1) cols) k
    ≡ (if (get_or cols i d).class == k then int_min (least_so_far mults (take i cols) k) (column_price mults (get_or cols i d)) else least_so_far mults (take i cols) k)
least_more mults cols i d k l =
    ap (λ cs. least_so_far mults cs k) (take_more cols i d l)
    ∙ fold_more_if (λ (c : Column). c.class == k) (column_price mults) (pos (2 ^ 127 - 1)) (take i cols) (get_or cols i d)

-- a number that is no more than each price of a class is so for each column of the class
below_each : (cols : List Column) (mults : List ℤ) (k : ℕ) (v : ℤ) → AllByRecursion (λ z. v ≤ℤ z) (map (column_price mults) (filter (λ (c : Column). c.class == k) cols))
    → AllByRecursion (λ (c : Column). c.class ≡ k → v ≤ℤ column_price mults c) cols
below_each [] mults k v h = tt
below_each (c ∷ cols) mults k v h = by (c.class == k) (eqb_tells c.class k) (below_each cols mults k v) h
  where
    by : (t : Bool) → ((t ≡ true) × (c.class ≡ k)) ⊎ ((t ≡ false) × (c.class ≢ k))
        → (AllByRecursion (λ z. v ≤ℤ z) (map (column_price mults) (filter (λ (d : Column). d.class == k) cols))
        → AllByRecursion (λ (d : Column). d.class ≡ k → v ≤ℤ column_price mults d) cols)
        → AllByRecursion (λ z. v ≤ℤ z) (map (column_price mults) (cond t (c ∷ filter (λ (d : Column). d.class == k) cols) (filter (λ (d : Column). d.class == k) cols)))
        → AllByRecursion (λ (d : Column). d.class ≡ k → v ≤ℤ column_price mults d) (c ∷ cols)
    by true tells rest h = (λ same. h.0, rest h.1)
    by false (inl same) rest h = absurd (cc)
    by false (inr other) rest h = (λ same. absurd (other.1 same), rest h)

-- at the end the least is reached by a column of the class
pub least_is_convex : (mults : List ℤ) (cols : List Column) (k : ℕ) (v : ℤ) → v ≡ least_so_far mults cols k
    → Any (λ (c : Column). c.class ≡ k) cols → All (λ (c : Column). unsigned_abs (column_price mults c) < 2 ^ 126) cols
    → IsConvex cols mults k v
least_is_convex mults cols k v e there small =
    let zs : List ℤ = map (column_price mults) (filter (λ (c : Column). c.class == k) cols) in
    let bounds : (v ≤ℤ pos (2 ^ 127 - 1)) × All (λ z. v ≤ℤ z) zs = fold-int_min_bounds (pos (2 ^ 127 - 1)) zs v e in
    let c : Column = get_or cols there.0 there.1 in
    let below : v ≤ℤ column_price mults c =
    All-from_recursion (λ (d : Column). d.class ≡ k → v ≤ℤ column_price mults d) cols (below_each cols mults k v (recursion_from_All (λ z. v ≤ℤ z) zs bounds.1))
    there.0 there.1 there.2 (ap (λ (d : Column). d.class) there.3 ∙ there.4) in
    record {
      reached = ⊎_elim (λ none. absurd (too_small v (column_price mults c) none below (small there.0 there.1 there.2))) (λ found. found)
          (fold-int_min_reached (pos (2 ^ 127 - 1)) zs v e);
      least = bounds.1;
    }
  where
    too_small : (v p : ℤ) → v ≡ pos (2 ^ 127 - 1) → v ≤ℤ p → unsigned_abs p < 2 ^ 126 → ⊥
    too_small v p e l s = omega (arith, ints, e, l, s)

-- a list of least prices, with one more price of a class
pub least_step : (mults : List ℤ) (cols : List Column) (least : List ℤ) (j : ℕ) (d : Column) (r : ℤ) (k : ℕ) → j < length cols
    → (get_or cols j d).class < length least
    → r ≡ int_min (get_or least (get_or cols j d).class (pos 0)) (column_price mults (get_or cols j d))
    → get_or least k (pos 0) ≡ least_so_far mults (take j cols) k
    → get_or (set least (get_or cols j d).class r) k (pos 0) ≡ least_so_far mults (take (j + 1) cols) k
least_step mults cols least j d r k l there e h =
    let class : ℕ = (get_or cols j d).class in
    let p : ℤ = column_price mults (get_or cols j d) in
    let before : ℤ = least_so_far mults (take j cols) k in
    ⊎_elim
    (λ same.
    let read : get_or least class (pos 0) ≡ before = subst (λ i. get_or least i (pos 0) ≡ before) (sym same.1) h in
    subst (λ i. get_or (set least class r) i (pos 0) ≡ (if class == k then int_min before p else before)) same.1
    (get_or-set_same least class r (pos 0) there
    ∙ e
    ∙ ap (λ z. int_min z p) read
    ∙ sym (if_same class k (int_min before p) before same.1)))
    (λ other.
    let apart : k ≢ class = λ q. other.1 (sym q) in
    get_or-set_other least class k r (pos 0) apart ∙ h ∙ sym (if_other class k (int_min before p) before other.1))
    (eqb_tells class k)
    ∙ sym (least_more mults cols j d k l)
