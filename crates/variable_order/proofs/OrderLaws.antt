-- Laws of orders: rows, spans and costs by an order have the points of the block, and their costs.
use Rattle.std.proofs.Common.{◌≡◌, refl, sym, ap, subst, ◌∙◌, ℕ, suc, ◌+◌, ◌*◌, ◌^◌, ◌<◌, ◌≤◌, max, List, [], ◌∷◌, map, length, get_or, set, arith, inl, inr, ⊎_elim}
use Rattle.std.proofs.Math.IntN.{ℤ, pos, negsuc, ◌-ℤ◌, ◌*ℤ◌}
use Rattle.std.specs.Prelude.{◌⊎◌, ◌≤ℤ◌, sum_by, unsigned_abs, Option, Some, None, MatchOption}
use Rattle.std.specs.List.{range_with_len}
use Rattle.std.proofs.lemmas.Int.{ints}
use Rattle.std.proofs.lemmas.Bool.{cases_lt, cases_eq}
use Rattle.std.proofs.lemmas.List.{get_or_default, get_or_past, get_or-map, get_or-set_same, get_or-set_other, length-map, ext_get_or}
use Rattle.std.proofs.lemmas.List.FromFn.{length-map-range_with_len, get_or-map-range_with_len}
use Rattle.std.proofs.lemmas.List.Elements.{All-map, recursion_from_All}
use Rattle.std.proofs.lemmas.List.Sums.{sum_by-cons}
use Rattle.bp_theory.specs.Sums.{sum_of, dot}
use Rattle.bp_theory.specs.Program.{value_at, span_at, activity, reach, IsWithin, IsInside, Meets, MeetsRow}
use Rattle.bp_theory.specs.Bound.{IsPoint}
use Rattle.bp_theory.specs.Trees.{IsSubspan}
use Rattle.bp_theory.specs.Decomposition.{HasVariablesBelow}
use Rattle.bp_theory.specs.declared.Span.{Span}
use Rattle.bp_theory.specs.declared.Term.{Term}
use Rattle.bp_theory.specs.declared.Sense.TheVariants.{Le}
use Rattle.bp_theory.specs.declared.Row.{Row}
use Rattle.bp_theory.proofs.SumLaws.{dot-map-map, sum_of-map, sum_of-same}
use Rattle.bp_theory.proofs.ZipLaws.{AllZip_at, AllZip-length, AllZip-map-map, AllZip-from_places}
use Rattle.pricing_problem.specs.Form.{HasShortEnds, IsForm, IsPriceable, cost_size, term_size, row_size}
use Rattle.pricing_problem.specs.Priced.{IsCheapest, HasNoPoint}
use Rattle.variable_order.specs.Orders.{number_at, IsOrder, spans_by, numbers_by, term_by, row_by, rows_by}

-- the part of a number above 0, and below
abbrev above : ℤ → ℕ
above (pos n) = n
above (negsuc n) = 0

abbrev below : ℤ → ℕ
below (pos n) = 0
below (negsuc n) = suc n

parts : (z : ℤ) → z ≡ pos (above z) -ℤ pos (below z)
parts (pos n) = omega (arith, ints)
parts (negsuc n) = omega (arith, ints)

sum_parts : (g : ℕ → ℤ) (xs : List ℕ) → sum_of g xs ≡ pos (sum_by (λ v. above (g v)) xs) -ℤ pos (sum_by (λ v. below (g v)) xs)
sum_parts g [] = refl
sum_parts g (x ∷ xs) =
    omega (arith, ints, sum_parts g xs, parts (g x), sum_by-cons (λ v. above (g v)) x xs, sum_by-cons (λ v. below (g v)) x xs)

-- a sum over the variables is the same by an order
pub sum_by_order : (g : ℕ → ℤ) (count : ℕ) (vars places : List ℕ) → IsOrder count vars places → sum_of g vars ≡ sum_of g (range_with_len 0 count)
sum_by_order g count vars places o =
    sum_parts g vars
    ∙ ap (λ n. pos n -ℤ pos (sum_by (λ v. below (g v)) vars)) (o.sums (λ v. above (g v)))
    ∙ ap (λ n. pos (sum_by (λ v. above (g v)) (range_with_len 0 count)) -ℤ pos n) (o.sums (λ v. below (g v)))
    ∙ sym (sum_parts g (range_with_len 0 count))

-- numbers by their own places are themselves
whole_numbers : (xs : List ℤ) (count : ℕ) → length xs ≡ count → map (value_at xs) (range_with_len 0 count) ≡ xs
whole_numbers xs count many =
    ext_get_or (pos 0) (map (value_at xs) (range_with_len 0 count)) xs (length-map-range_with_len (value_at xs) 0 count ∙ sym many)
    (λ i l. get_or-map-range_with_len (value_at xs) 0 count i i (pos 0) (subst (λ n. i < n) (length-map-range_with_len (value_at xs) 0 count) l) (omega arith))

abbrev none : Span
none = record { lo = pos 0; hi = pos 0 }

whole_spans : (ss : List Span) (count : ℕ) → length ss ≡ count → map (span_at ss) (range_with_len 0 count) ≡ ss
whole_spans ss count many =
    ext_get_or none (map (span_at ss) (range_with_len 0 count)) ss (length-map-range_with_len (span_at ss) 0 count ∙ sym many)
    (λ i l. get_or-map-range_with_len (span_at ss) 0 count i i none (subst (λ n. i < n) (length-map-range_with_len (span_at ss) 0 count) l) (omega arith))

-- a point's cost is the same by an order
pub dot_by : (count : ℕ) (vars places : List ℕ) (rs xs : List ℤ) → IsOrder count vars places → length rs ≡ count → length xs ≡ count
    → dot (numbers_by vars rs) (numbers_by vars xs) ≡ dot rs xs
dot_by count vars places rs xs o many too =
    dot-map-map (value_at rs) (value_at xs) vars
    ∙ sum_by_order (λ v. value_at rs v *ℤ value_at xs v) count vars places o
    ∙ sym (dot-map-map (value_at rs) (value_at xs) (range_with_len 0 count))
    ∙ ap (λ (zs : List ℤ). dot zs (map (value_at xs) (range_with_len 0 count))) (whole_numbers rs count many)
    ∙ ap (λ (zs : List ℤ). dot rs zs) (whole_numbers xs count too)

size_of_maps : (f : ℕ → Span) (g : ℕ → ℤ) (vs : List ℕ) → cost_size (map f vs) (map g vs) ≡ sum_by (λ v. unsigned_abs (g v) * reach (f v)) vs
size_of_maps f g [] = refl
size_of_maps f g (v ∷ vs) = ap (λ n. unsigned_abs (g v) * reach (f v) + n) (size_of_maps f g vs) ∙ sym (sum_by-cons (λ w. unsigned_abs (g w) * reach (f w)) v vs)

-- so is the size of costs
pub size_by : (count : ℕ) (vars places : List ℕ) (zone : List Span) (rs : List ℤ) → IsOrder count vars places → length zone ≡ count → length rs ≡ count
    → cost_size (spans_by vars zone) (numbers_by vars rs) ≡ cost_size zone rs
size_by count vars places zone rs o many too =
    size_of_maps (span_at zone) (value_at rs) vars
    ∙ o.sums (λ v. unsigned_abs (value_at rs v) * reach (span_at zone v))
    ∙ sym (size_of_maps (span_at zone) (value_at rs) (range_with_len 0 count))
    ∙ ap (λ (ss : List Span). cost_size ss (map (value_at rs) (range_with_len 0 count))) (whole_spans zone count many)
    ∙ ap (λ (zs : List ℤ). cost_size zone zs) (whole_numbers rs count too)

-- the place of a variable is one
placed_below : (count : ℕ) (vars places : List ℕ) (v : ℕ) → IsOrder count vars places → v < count → number_at places v < count
placed_below count vars places v o l = o.placed v 0 (omega (arith, l, o.each_place))

-- what stands at the place of a variable is the variable's
span_of : (count : ℕ) (vars places : List ℕ) (spans : List Span) (v : ℕ) → IsOrder count vars places → v < count
    → span_at (spans_by vars spans) (number_at places v) ≡ span_at spans v
span_of count vars places spans v o l =
    get_or-map (span_at spans) vars (number_at places v) 0 none (omega (arith, placed_below count vars places v o l, o.each)) ∙ ap (span_at spans) (o.onto v l)

value_of : (count : ℕ) (vars places : List ℕ) (xs : List ℤ) (v : ℕ) → IsOrder count vars places → v < count
    → value_at (numbers_by vars xs) (number_at places v) ≡ value_at xs v
value_of count vars places xs v o l =
    get_or-map (value_at xs) vars (number_at places v) 0 (pos 0) (omega (arith, placed_below count vars places v o l, o.each)) ∙ ap (value_at xs) (o.onto v l)

-- the place of a term's variable
place_in : (places : List ℕ) (v : ℕ) → v < length places → get_or places v v ≡ number_at places v
place_in places v l = get_or_default places v v 0 l

-- a term's span, by an order and in the block
term_span : (count : ℕ) (vars places : List ℕ) (spans : List Span) (v : ℕ) → IsOrder count vars places → length spans ≡ count
    → span_at (spans_by vars spans) (get_or places v v) ≡ span_at spans v
term_span count vars places spans v o many = by (cases_lt v count)
  where
    by : (v < count) ⊎ (count ≤ v) → span_at (spans_by vars spans) (get_or places v v) ≡ span_at spans v
    by (inl l) = ap (span_at (spans_by vars spans)) (place_in places v (omega (arith, l, o.each_place))) ∙ span_of count vars places spans v o l
    by (inr l) =
        ap (span_at (spans_by vars spans)) (get_or_past places v v (omega (arith, l, o.each_place)))
        ∙ get_or_past (spans_by vars spans) v none (omega (arith, l, length-map vars (span_at spans), o.each))
        ∙ sym (get_or_past spans v none (omega (arith, l, many)))

-- a term's number
term_value : (count : ℕ) (vars places : List ℕ) (xs : List ℤ) (v : ℕ) → IsOrder count vars places → length xs ≡ count
    → value_at (numbers_by vars xs) (get_or places v v) ≡ value_at xs v
term_value count vars places xs v o many = by (cases_lt v count)
  where
    by : (v < count) ⊎ (count ≤ v) → value_at (numbers_by vars xs) (get_or places v v) ≡ value_at xs v
    by (inl l) = ap (value_at (numbers_by vars xs)) (place_in places v (omega (arith, l, o.each_place))) ∙ value_of count vars places xs v o l
    by (inr l) =
        ap (value_at (numbers_by vars xs)) (get_or_past places v v (omega (arith, l, o.each_place)))
        ∙ get_or_past (numbers_by vars xs) v (pos 0) (omega (arith, l, length-map vars (value_at xs), o.each))
        ∙ sym (get_or_past xs v (pos 0) (omega (arith, l, many)))

-- and back
term_value_back : (count : ℕ) (vars places : List ℕ) (ys : List ℤ) (v : ℕ) → IsOrder count vars places → length ys ≡ count
    → value_at (numbers_by places ys) v ≡ value_at ys (get_or places v v)
term_value_back count vars places ys v o many = by (cases_lt v count)
  where
    by : (v < count) ⊎ (count ≤ v) → value_at (numbers_by places ys) v ≡ value_at ys (get_or places v v)
    by (inl l) = get_or-map (value_at ys) places v v (pos 0) (omega (arith, l, o.each_place))
    by (inr l) =
        get_or_past (numbers_by places ys) v (pos 0) (omega (arith, l, length-map places (value_at ys), o.each_place))
        ∙ sym (get_or_past ys v (pos 0) (omega (arith, l, many)))
        ∙ ap (value_at ys) (sym (get_or_past places v v (omega (arith, l, o.each_place))))

-- a row's sum is the same by an order
activity_by : (count : ℕ) (vars places : List ℕ) (terms : List Term) (xs : List ℤ) → IsOrder count vars places → length xs ≡ count
    → activity (map (term_by places) terms) (numbers_by vars xs) ≡ activity terms xs
activity_by count vars places terms xs o many =
    sum_of-map (λ (t : Term). t.coef *ℤ value_at (numbers_by vars xs) t.var) (term_by places) terms
    ∙ sum_of-same (λ (t : Term). t.coef *ℤ value_at (numbers_by vars xs) (get_or places t.var t.var)) (λ (t : Term). t.coef *ℤ value_at xs t.var)
    (λ (t : Term). ap (λ z. t.coef *ℤ z) (term_value count vars places xs t.var o many)) terms

activity_back : (count : ℕ) (vars places : List ℕ) (terms : List Term) (ys : List ℤ) → IsOrder count vars places → length ys ≡ count
    → activity (map (term_by places) terms) ys ≡ activity terms (numbers_by places ys)
activity_back count vars places terms ys o many =
    sum_of-map (λ (t : Term). t.coef *ℤ value_at ys t.var) (term_by places) terms
    ∙ sum_of-same (λ (t : Term). t.coef *ℤ value_at ys (get_or places t.var t.var)) (λ (t : Term). t.coef *ℤ value_at (numbers_by places ys) t.var)
    (λ (t : Term). ap (λ z. t.coef *ℤ z) (sym (term_value_back count vars places ys t.var o many))) terms

-- numbers put back and taken again are the same
taken_again : (count : ℕ) (vars places : List ℕ) (ys : List ℤ) → IsOrder count vars places → length ys ≡ count → numbers_by vars (numbers_by places ys) ≡ ys
taken_again count vars places ys o many =
    ext_get_or (pos 0) (numbers_by vars (numbers_by places ys)) ys (length-map vars (value_at (numbers_by places ys)) ∙ o.each ∙ sym many)
    (λ i l. at i (omega (arith, l, length-map vars (value_at (numbers_by places ys)), o.each)))
  where
    at : (i : ℕ) → i < count → get_or (numbers_by vars (numbers_by places ys)) i (pos 0) ≡ get_or ys i (pos 0)
    at i l =
        get_or-map (value_at (numbers_by places ys)) vars i 0 (pos 0) (omega (arith, l, o.each))
        ∙ get_or-map (value_at ys) places (number_at vars i) 0 (pos 0) (omega (arith, o.below i 0 (omega (arith, l, o.each)), o.each_place))
        ∙ ap (value_at ys) (o.back i l)

inside_by : (count : ℕ) (vars places : List ℕ) (zone : List Span) (xs : List ℤ) → IsOrder count vars places → length zone ≡ count → IsInside zone xs
    → IsInside (spans_by vars zone) (numbers_by vars xs)
inside_by count vars places zone xs o many h =
    AllZip-map-map IsWithin (span_at zone) (value_at xs) (λ v. v < count) (λ v l. AllZip_at IsWithin zone xs h v none (pos 0) (omega (arith, l, many)))
    vars (recursion_from_All (λ v. v < count) vars o.below)

inside_back : (count : ℕ) (vars places : List ℕ) (zone : List Span) (ys : List ℤ) → IsOrder count vars places → length zone ≡ count → IsInside (spans_by vars zone) ys
    → IsInside zone (numbers_by places ys)
inside_back count vars places zone ys o many h =
    AllZip-from_places IsWithin zone (numbers_by places ys) (many ∙ sym o.each_place ∙ sym (length-map places (value_at ys))) (λ k d e l. at k d e (omega (arith, l, many)))
  where
    at : (k : ℕ) (d : Span) (e : ℤ) → k < count → IsWithin (get_or zone k d) (get_or (numbers_by places ys) k e)
    at k d e l =
        let place : number_at places k < count = placed_below count vars places k o l in
        subst (λ (s : Span). IsWithin s (get_or (numbers_by places ys) k e)) (get_or_default zone k none d (omega (arith, l, many)))
        (subst (λ z. IsWithin (span_at zone k) z) (sym (get_or-map (value_at ys) places k 0 e (omega (arith, l, o.each_place))))
        (subst (λ (s : Span). IsWithin s (value_at ys (number_at places k))) (span_of count vars places zone k o l)
        (AllZip_at IsWithin (spans_by vars zone) ys h (number_at places k) none (pos 0) (omega (arith, place, o.each, length-map vars (span_at zone))))))

abbrev no_row : Row
no_row = record { sense = Le; low = pos 0; rhs = pos 0; terms = [] }

-- a point of the block is one by an order
pub point_by : (count : ℕ) (vars places : List ℕ) (rows : List Row) (zone : List Span) (xs : List ℤ) → IsOrder count vars places → length zone ≡ count → IsPoint rows zone xs
    → IsPoint (rows_by places rows) (spans_by vars zone) (numbers_by vars xs)
point_by count vars places rows zone xs o many h = record {
  inside = inside_by count vars places zone xs o many h.inside;
  meets = All-map (MeetsRow (numbers_by vars xs)) (row_by places) rows
      (λ k d l. subst (λ z. Meets (get_or rows k d).sense (get_or rows k d).low (get_or rows k d).rhs z)
      (sym (activity_by count vars places (get_or rows k d).terms xs o (sym (AllZip-length IsWithin zone xs h.inside) ∙ many))) (h.meets k d l));
}

-- and back
pub point_back : (count : ℕ) (vars places : List ℕ) (rows : List Row) (zone : List Span) (ys : List ℤ) → IsOrder count vars places → length zone ≡ count
    → IsPoint (rows_by places rows) (spans_by vars zone) ys → IsPoint rows zone (numbers_by places ys)
point_back count vars places rows zone ys o many h = record {
  inside = inside_back count vars places zone ys o many h.inside;
  meets = λ k d l. subst (λ z. Meets (get_or rows k d).sense (get_or rows k d).low (get_or rows k d).rhs z) (activity_back count vars places (get_or rows k d).terms ys o each)
      (subst (MeetsRow ys) (get_or-map (row_by places) rows k d no_row l) (h.meets k no_row (omega (arith, l, length-map rows (row_by places)))));
}
  where
    each : length ys ≡ count
    each = sym (AllZip-length IsWithin (spans_by vars zone) ys h.inside) ∙ length-map vars (span_at zone) ∙ o.each

-- where there is no point by an order, there is none
pub no_point_back : (count : ℕ) (vars places : List ℕ) (rows : List Row) (zone : List Span) → IsOrder count vars places → length zone ≡ count
    → HasNoPoint (rows_by places rows) (spans_by vars zone) → HasNoPoint rows zone
no_point_back count vars places rows zone o many h xs p = h (numbers_by vars xs) (point_by count vars places rows zone xs o many p)

-- the cheapest point by an order, put back, is the cheapest
pub cheapest_back : (count : ℕ) (vars places : List ℕ) (rows : List Row) (zone : List Span) (rs ys : List ℤ) (v : ℤ) → IsOrder count vars places → length zone ≡ count
    → length rs ≡ count → IsCheapest (rows_by places rows) (spans_by vars zone) (numbers_by vars rs) ys v → IsCheapest rows zone rs (numbers_by places ys) v
cheapest_back count vars places rows zone rs ys v o many too h = record {
  is_point = point_back count vars places rows zone ys o many h.is_point;
  reached = sym (dot_by count vars places rs (numbers_by places ys) o too (length-map places (value_at ys) ∙ o.each_place))
      ∙ ap (λ (zs : List ℤ). dot (numbers_by vars rs) zs) (taken_again count vars places ys o each) ∙ h.reached;
  least = λ xs p. subst (λ z. v ≤ℤ z) (dot_by count vars places rs xs o too (sym (AllZip-length IsWithin zone xs p.inside) ∙ many))
      (h.least (numbers_by vars xs) (point_by count vars places rows zone xs o many p));
}
  where
    each : length ys ≡ count
    each = sym (AllZip-length IsWithin (spans_by vars zone) ys h.is_point.inside) ∙ length-map vars (span_at zone) ∙ o.each

-- what can be priced can be by an order
pub priceable_by : (count : ℕ) (vars places : List ℕ) (spans zone : List Span) (rs : List ℤ) → IsOrder count vars places → length zone ≡ count → IsPriceable spans zone rs
    → IsPriceable (spans_by vars spans) (spans_by vars zone) (numbers_by vars rs)
priceable_by count vars places spans zone rs o many h = record {
  in_root = record {
    inside = AllZip-map-map IsSubspan (span_at zone) (span_at spans) (λ v. v < count)
        (λ v l. AllZip_at IsSubspan zone spans h.in_root.inside v none none (omega (arith, l, many))) vars (recursion_from_All (λ v. v < count) vars o.below);
    proper = All-map (λ (s : Span). s.lo ≤ℤ s.hi) (span_at zone) vars
        (λ k d l. h.in_root.proper (get_or vars k d) none (omega (arith, o.below k d l, many)));
  };
  each = length-map vars (value_at rs) ∙ sym (length-map vars (span_at zone));
  sizes = subst (λ n. n ≤ 2 ^ 123) (sym (size_by count vars places zone rs o many (h.each ∙ many))) h.sizes;
}

-- the terms of a row are as large by an order
terms_size_by : (count : ℕ) (vars places : List ℕ) (spans : List Span) (terms : List Term) → IsOrder count vars places → length spans ≡ count
    → sum_by (term_size (spans_by vars spans)) (map (term_by places) terms) ≡ sum_by (term_size spans) terms
terms_size_by count vars places spans [] o many = refl
terms_size_by count vars places spans (t ∷ ts) o many =
    sum_by-cons (term_size (spans_by vars spans)) (term_by places t) (map (term_by places) ts)
    ∙ ap (λ (s : Span). unsigned_abs t.coef * reach s + sum_by (term_size (spans_by vars spans)) (map (term_by places) ts)) (term_span count vars places spans t.var o many)
    ∙ ap (λ n. term_size spans t + n) (terms_size_by count vars places spans ts o many)
    ∙ sym (sum_by-cons (term_size spans) t ts)

-- a block's form is one by an order
pub form_by : (count : ℕ) (vars places : List ℕ) (rows : List Row) (spans : List Span) → IsOrder count vars places → length spans ≡ count → IsForm rows spans
    → IsForm (rows_by places rows) (spans_by vars spans)
form_by count vars places rows spans o many h = record {
  few_spans = omega (arith, h.few_spans, same);
  few_rows = omega (arith, h.few_rows, length-map rows (row_by places));
  ends = All-map HasShortEnds (span_at spans) vars (λ k d l. h.ends (get_or vars k d) none (omega (arith, o.below k d l, many)));
  places = All-map (λ (r : Row). HasVariablesBelow (length (spans_by vars spans)) r.terms) (row_by places) rows
      (λ k d l. All-map (λ (t : Term). t.var < length (spans_by vars spans)) (term_by places) (get_or rows k d).terms
      (λ j e m. there (get_or (get_or rows k d).terms j e).var (omega (arith, h.places k d l j e m, many))));
  sizes = All-map (λ (r : Row). row_size (spans_by vars spans) r < 2 ^ 62) (row_by places) rows
      (λ k d l. subst (λ n. max (unsigned_abs (get_or rows k d).low) (unsigned_abs (get_or rows k d).rhs) + n < 2 ^ 62)
      (sym (terms_size_by count vars places spans (get_or rows k d).terms o many)) (h.sizes k d l));
}
  where
    same : length (spans_by vars spans) ≡ length spans
    same = length-map vars (span_at spans) ∙ o.each ∙ sym many

    there : (v : ℕ) → v < count → get_or places v v < length (spans_by vars spans)
    there v l =
        omega (arith, place_in places v (omega (arith, l, o.each_place)), placed_below count vars places v o l, same, many)

-- a loop's step: one more place is written
pub written_more : {X : Type 0} (f : ℕ → X) (xs : List X) (k : ℕ) (x d : X) → k < length xs → x ≡ f k → ((i : ℕ) → i < k → get_or xs i d ≡ f i)
    → (i : ℕ) → i < k + 1 → get_or (set xs k x) i d ≡ f i
written_more f xs k x d there is had i l = ⊎_elim
    (λ same. ap (λ n. get_or (set xs k x) n d) same ∙ get_or-set_same xs k x d there ∙ is ∙ ap f (sym same))
    (λ other. get_or-set_other xs k i x d other ∙ had i (less other))
    (cases_eq i k)
  where
    less : (i ≡ k → ⊥) → i < k
    less n = ⊎_elim (λ a. a) (λ b. absurd (n (omega (arith, l, b)))) (cases_lt i k)

-- all places are written
pub written : {X : Type 0} (f : ℕ → X) (vars : List ℕ) (xs : List X) (d : X) → length xs ≡ length vars
    → ((i : ℕ) → i < length vars → get_or xs i d ≡ f (number_at vars i)) → xs ≡ map f vars
written f vars xs d many had =
    ext_get_or d xs (map f vars) (many ∙ sym (length-map vars f))
    (λ i l. had i (omega (arith, l, many)) ∙ sym (get_or-map f vars i 0 d (omega (arith, l, many))))

-- an answer by an order, with its point put back, is one of the block
pub answer_back : (count : ℕ) (vars places : List ℕ) (rows : List Row) (zone : List Span) (rs ys : List ℤ) (answer : Option ℤ) → IsOrder count vars places
    → length zone ≡ count → length rs ≡ count
    → MatchOption answer (HasNoPoint (rows_by places rows) (spans_by vars zone)) (λ v. IsCheapest (rows_by places rows) (spans_by vars zone) (numbers_by vars rs) ys v)
    → MatchOption answer (HasNoPoint rows zone) (λ v. IsCheapest rows zone rs (numbers_by places ys) v)
answer_back count vars places rows zone rs ys None o many too h = no_point_back count vars places rows zone o many h
answer_back count vars places rows zone rs ys (Some v) o many too h = cheapest_back count vars places rows zone rs ys v o many too h
