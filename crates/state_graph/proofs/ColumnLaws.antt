-- Laws of the coefficients of each variable, and of what variables can add up to.
use Rattle.std.proofs.Common.{◌≡◌, refl, sym, ap, subst, ◌∙◌, ℕ, zero, suc, ◌+◌, ◌<◌, ◌≤◌, List, [], ◌∷◌, ◌++◌, map, length, get_or, set, take, drop, arith, inl, inr, drop-cons}
use Rattle.std.proofs.Math.IntN.{ℤ, pos, ◌+ℤ◌, ◌*ℤ◌}
use Rattle.std.specs.Prelude.{◌≤ℤ◌, ◌==◌, if◌then◌else◌, ◌⊎◌}
use Rattle.std.specs.List.{range_with_len}
use Rattle.std.proofs.lemmas.Int.{ints}
use Rattle.std.proofs.lemmas.Bool.{cases_lt, cases_eq}
use Rattle.std.proofs.lemmas.List.FromFn.{get_or-map-range_with_len, length-range_with_len}
use Rattle.std.proofs.lemmas.List.{get_or-set_same, get_or-set_other, get_or_default, ext_get_or, length-map}
use Rattle.std.proofs.lemmas.List.Elements.{recursion_from_All}
use Rattle.bp_theory.specs.Sums.{dot}
use Rattle.bp_theory.specs.Program.{span_at, coefficient, activity, value_at, IsWithin}
use Rattle.bp_theory.specs.Bound.{end_cost}
use Rattle.bp_theory.specs.Decomposition.{HasVariablesBelow}
use Rattle.bp_theory.specs.declared.Span.{Span}
use Rattle.bp_theory.specs.declared.Term.{Term}
use Rattle.bp_theory.specs.declared.Row.{Row}
use Rattle.bp_theory.specs.declared.Sense.TheVariants.{Le}
use Rattle.bp_theory.proofs.SumLaws.{sum_of_more, dot-map-map}
use Rattle.bp_theory.proofs.KeyLaws.{if_same, if_other, sum_of-by_key}
use Rattle.pricing_problem.specs.Ends.{top_cost}
use Rattle.pricing_problem.proofs.EndLaws.{end_cost-le, top_cost-ge}
use Rattle.state_graph.specs.Windows.{coef_of}
use Rattle.state_graph.specs.Columns.{AreCoefs, AreDense, AreWidened}
use Rattle.state_graph.specs.Layers.{row_sum, AreHulls}
use Rattle.state_graph.specs.declared.layers.Layer.{Layer}

-- a loop's step: one term more
pub coefficient_more : (terms : List Term) (sums : List ℤ) (i : ℕ) (d : Term) (new : ℤ) → i < length terms → (get_or terms i d).var < length sums
    → new ≡ get_or sums (get_or terms i d).var (pos 0) +ℤ (get_or terms i d).coef
    → ((j : ℕ) → get_or sums j (pos 0) ≡ coefficient (take i terms) j)
    → (j : ℕ) → get_or (set sums (get_or terms i d).var new) j (pos 0) ≡ coefficient (take (i + 1) terms) j
coefficient_more terms sums i d new l there is had j =
    changed (cases_eq (get_or terms i d).var j)
    ∙ ap (λ z. z +ℤ (if (get_or terms i d).var == j then (get_or terms i d).coef else pos 0)) (had j)
    ∙ sym (sum_of_more (λ t. if t.var == j then t.coef else pos 0) terms i d l)
  where
    stays : (a : ℤ) → a ≡ a +ℤ pos 0
    stays a = omega (arith, ints)

    changed : ((get_or terms i d).var ≡ j) ⊎ ((get_or terms i d).var ≡ j → ⊥)
        → get_or (set sums (get_or terms i d).var new) j (pos 0)
        ≡ get_or sums j (pos 0) +ℤ (if (get_or terms i d).var == j then (get_or terms i d).coef else pos 0)
    changed (inl same) =
        ap (λ k. get_or (set sums (get_or terms i d).var new) k (pos 0)) (sym same)
        ∙ get_or-set_same sums (get_or terms i d).var new (pos 0) there
        ∙ is
        ∙ ap (λ k. get_or sums k (pos 0) +ℤ (get_or terms i d).coef) same
        ∙ ap (λ z. get_or sums j (pos 0) +ℤ z) (sym (if_same (get_or terms i d).var j (get_or terms i d).coef (pos 0) same))
    changed (inr other) =
        get_or-set_other sums (get_or terms i d).var j new (pos 0) (λ e. other (sym e))
        ∙ stays (get_or sums j (pos 0))
        ∙ ap (λ z. get_or sums j (pos 0) +ℤ z) (sym (if_other (get_or terms i d).var j (get_or terms i d).coef (pos 0) other))

-- a point of as many numbers, by its places
by_places : (y : List ℤ) → map (value_at y) (range_with_len 0 (length y)) ≡ y
by_places y =
    ext_get_or (pos 0) (map (value_at y) (range_with_len 0 (length y))) y many
    (λ j l. get_or-map-range_with_len (value_at y) 0 (length y) j j (pos 0) (omega (arith, l, many)) (omega arith))
  where
    many : length (map (value_at y) (range_with_len 0 (length y))) ≡ length y
    many = length-map (range_with_len 0 (length y)) (value_at y) ∙ length-range_with_len 0 (length y)

-- coefficients by place are a list
pub coefs_by_places : (terms : List Term) (n : ℕ) (coefs : List ℤ) → AreCoefs terms n coefs → coefs ≡ map (coefficient terms) (range_with_len 0 n)
coefs_by_places terms n coefs h =
    ext_get_or (pos 0) coefs (map (coefficient terms) (range_with_len 0 n)) (h.each ∙ sym many)
    (λ j l. h.coefs_are j ∙ sym (get_or-map-range_with_len (coefficient terms) 0 n j j (pos 0) (omega (arith, l, h.each)) (omega arith)))
  where
    many : length (map (coefficient terms) (range_with_len 0 n)) ≡ n
    many = length-map (range_with_len 0 n) (coefficient terms) ∙ length-range_with_len 0 n

-- they give a row's activity
pub coefs_activity : (terms : List Term) (n : ℕ) (coefs y : List ℤ) → AreCoefs terms n coefs → n ≡ length y → HasVariablesBelow n terms → dot coefs y ≡ activity terms y
coefs_activity terms n coefs y h same below =
    ap (λ (cs : List ℤ). dot cs y) (coefs_by_places terms n coefs h ∙ ap (λ m. map (coefficient terms) (range_with_len 0 m)) same)
    ∙ ap (dot (map (coefficient terms) (range_with_len 0 (length y)))) (sym (by_places y))
    ∙ dot-map-map (coefficient terms) (value_at y) (range_with_len 0 (length y))
    ∙ sym (sum_of-by_key (λ (t : Term). t.var) (λ t. t.coef) (value_at y) (length y) terms (recursion_from_All (λ (t : Term). t.var < length y) terms (subst (λ m. HasVariablesBelow m terms) same below)))

-- hulls with one variable more in front
pub hulls_more : (l : Layer) (ls : List Layer) (hulls wider : List Span) → AreHulls ls hulls → AreWidened hulls l.column l.span wider → AreHulls (l ∷ ls) wider
hulls_more l ls hulls wider h w row [] lt inside = absurd inside
hulls_more l ls hulls wider h w row (y ∷ ys) lt inside =
    let there : row < length hulls = omega (arith, lt, w.each) in
    let rest = h row ys there inside.1 in
    subst (λ s. IsWithin s (row_sum (l ∷ ls) row (y ∷ ys))) (sym (w.hulls_are row there)) (record {
      above = both (span_at hulls row).lo (row_sum ls row ys) (end_cost l.span (coef_of l.column row)) (coef_of l.column row *ℤ y) rest.above (end_cost-le l.span (coef_of l.column row) y inside.0);
      below = both_too (row_sum ls row ys) (span_at hulls row).hi (coef_of l.column row *ℤ y) (top_cost l.span (coef_of l.column row)) rest.below (top_cost-ge l.span (coef_of l.column row) y inside.0);
    })
  where
    both : (a b c d : ℤ) → a ≤ℤ b → c ≤ℤ d → (a +ℤ c) ≤ℤ (d +ℤ b)
    both a b c d p q = omega (arith, ints)

    both_too : (a b c d : ℤ) → a ≤ℤ b → c ≤ℤ d → (c +ℤ a) ≤ℤ (b +ℤ d)
    both_too a b c d p q = omega (arith, ints)

-- behind the last variable nothing can be added
pub hulls_none : (hulls : List Span) → ((row : ℕ) → row < length hulls → span_at hulls row ≡ record { lo = pos 0; hi = pos 0 }) → AreHulls [] hulls
hulls_none hulls zeros row [] l inside = subst (λ s. IsWithin s (pos 0)) (sym (zeros row l)) (record { above = omega (arith, ints); below = omega (arith, ints) })
hulls_none hulls zeros row (y ∷ ys) l inside = absurd inside

-- a row's sums with one layer more in front
pub sums_more : (l : Layer) (ls : List Layer) (row v : ℕ) (coefs : List ℤ) → v < length coefs → coef_of l.column row ≡ coef_of coefs v
    → ((ys : List ℤ) → row_sum ls row ys ≡ dot (drop (v + 1) coefs) ys) → (ys : List ℤ) → row_sum (l ∷ ls) row ys ≡ dot (drop v coefs) ys
sums_more l ls row v coefs there same rest ys = by ys ∙ ap (λ (cs : List ℤ). dot cs ys) (sym (drop-cons coefs v (pos 0) there))
  where
    one : v + 1 ≡ suc v
    one = omega arith

    by : (zs : List ℤ) → row_sum (l ∷ ls) row zs ≡ dot (get_or coefs v (pos 0) ∷ drop (suc v) coefs) zs
    by [] = refl
    by (z ∷ zs) = ap (λ a. a *ℤ z +ℤ row_sum ls row zs) same ∙ ap (λ b. get_or coefs v (pos 0) *ℤ z +ℤ b) (rest zs ∙ ap (λ n. dot (drop n coefs) zs) one)

-- an element of a list with one more at the end
pub old_at : {X : Type 0} (xs : List X) (x d : X) (k : ℕ) → k < length xs → get_or (xs ++ (x ∷ [])) k d ≡ get_or xs k d
old_at [] x d k l = absurd (omega arith)
old_at (y ∷ ys) x d zero l = refl
old_at (y ∷ ys) x d (suc k) l = old_at ys x d k (omega arith)

pub new_at : {X : Type 0} (xs : List X) (x d : X) → get_or (xs ++ (x ∷ [])) (length xs) d ≡ x
new_at [] x d = refl
new_at (y ∷ ys) x d = new_at ys x d

-- a loop's step: the coefficients of one row more
pub dense_more : (rows : List Row) (count i : ℕ) (dense now : List (List ℤ)) (coefs : List ℤ) (terms : List Term) (row : Row) → i < length rows → row ≡ get_or rows i row → length dense ≡ i
    → now ≡ dense ++ (coefs ∷ []) → terms ≡ row.terms → AreCoefs terms count coefs
    → ((k : ℕ) (d : Row) → k < i → AreCoefs (get_or rows k d).terms count (get_or dense k []))
    → (k : ℕ) (d : Row) → k < i + 1 → AreCoefs (get_or rows k d).terms count (get_or now k [])
dense_more rows count i dense now coefs terms row there is many more same new had k d l =
    subst (λ (ds : List (List ℤ)). AreCoefs (get_or rows k d).terms count (get_or ds k [])) (sym more) (by (cases_lt k i))
  where
    by : (k < i) ⊎ (i ≤ k) → AreCoefs (get_or rows k d).terms count (get_or (dense ++ (coefs ∷ [])) k [])
    by (inl less) = subst (λ (cs : List ℤ). AreCoefs (get_or rows k d).terms count cs) (sym (old_at dense coefs [] k (omega (arith, less, many)))) (had k d less)
    by (inr above) =
        let at : k ≡ i = omega (arith, l, above) in
        let last : k ≡ length dense = omega (arith, at, many) in
        subst (λ (cs : List ℤ). AreCoefs (get_or rows k d).terms count cs) (sym (ap (λ n. get_or (dense ++ (coefs ∷ [])) n []) last ∙ new_at dense coefs []))
        (subst (λ (ts : List Term). AreCoefs ts count coefs)
        (same ∙ ap (λ (r : Row). r.terms) (is ∙ get_or_default rows i row d there ∙ ap (λ n. get_or rows n d) (sym at))) new)

pub longer : {X : Type 0} (xs : List X) (x : X) → length (xs ++ (x ∷ [])) ≡ length xs + 1
longer [] x = omega arith
longer (y ∷ ys) x = omega (arith, longer ys x)

-- a row's coefficients are as many as the variables
pub dense_wide : (rows : List Row) (n : ℕ) (dense : List (List ℤ)) → AreDense rows n dense → (k : ℕ) (d : List ℤ) → k < length dense → length (get_or dense k d) ≡ n
dense_wide rows n dense h k d l =
    ap (λ (cs : List ℤ). length cs) (get_or_default dense k d [] l)
    ∙ (h.each k (record { sense = Le; low = pos 0; rhs = pos 0; terms = [] }) (omega (arith, l, h.many))).each
