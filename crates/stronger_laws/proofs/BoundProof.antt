-- The numbers of a mixed-integer rounding cut's row are bounded by those of the rows that it combines.
use Rattle.std.proofs.Common.{◌≡◌, ◌≢◌, refl, sym, ap, subst, ◌∙◌, ℕ, zero, suc, ◌+◌, ◌*◌, ◌<◌, ◌≤◌, Bool, true, false, List, [], ◌∷◌, length, arith, ⊎_elim}
use Rattle.std.proofs.Math.IntN.{ℤ, pos, negsuc, neg_ℤ, ◌+ℤ◌, ◌-ℤ◌, ◌*ℤ◌}
use Rattle.std.proofs.Math.Nat.{mul-le-mul, mul-le-mul_left, mul-le-mul_right}
use Rattle.std.specs.Prelude.{unsigned_abs, max, sum_by, ◌==◌, if◌then◌else◌}
use Rattle.std.specs.List.{AllByRecursion, range_with_len}
use Rattle.std.proofs.lemmas.Bool.Decides.{eqb_tells}
use Rattle.std.proofs.lemmas.Int.{ints, unsigned_abs-mul}
use Rattle.std.proofs.lemmas.List.Sums.{sum_by-cons}
use Rattle.std.proofs.lemmas.List.Elements.{recursion_from_All}
use Rattle.bp_theory.specs.Sums.{sum_of}
use Rattle.bp_theory.specs.Program.{Program, coefficient, span_at, reach}
use Rattle.bp_theory.specs.Decomposition.{ProofRow, whole_row, link_row, no_row}
use Rattle.bp_theory.specs.Cuts.{row_coefficient}
use Rattle.bp_theory.specs.declared.Span.{Span}
use Rattle.bp_theory.specs.declared.Term.{Term}
use Rattle.bp_theory.specs.declared.Sense.{Sense}
use Rattle.bp_theory.specs.declared.Sense.TheVariants.{Le, Ge, Eq, In}
use Rattle.stronger_laws.specs.Mir.{mir_function, slack_side, put_back, named_side, named_put_back, row_of, weighted_coefficient, weighted_side, summed, is_upper, end_of, at_ends, summed_side, full_remainder, remainder_of, rounded_by, rounded_coefficient, slack_weight, mir_coefficient, mir_low, IsFittingMir, named_limit, combination_limit}
use Rattle.stronger_laws.specs.Laws.{MirIsBounded}
use Rattle.stronger_laws.specs.declared.MirCut.{MirCut}
use Rattle.stronger_laws.proofs.MirProof.{rest_low, rest_high, below_full, mir_shrinks_lem}
use Rattle.std.specs.Int.{int_rem_euclid}
use Rattle.std.specs.Prelude.{◌<ℤ◌, ◌≤ℤ◌}

-- ---- sums of natural numbers

total : {X : Type 0} → (X → ℕ) → List X → ℕ
total f [] = 0
total f (x ∷ xs) = f x + total f xs

total_is : {X : Type 0} (f : X → ℕ) (xs : List X) → total f xs ≡ sum_by f xs
unfolding total
total_is f [] = refl
total_is f (x ∷ xs) = omega (arith, total_is f xs, sum_by-cons f x xs)

total-le : {X : Type 0} (f g : X → ℕ) → ((x : X) → f x ≤ g x) → (xs : List X) → total f xs ≤ total g xs
unfolding total
total-le f g h [] = omega arith
total-le f g h (x ∷ xs) = omega (arith, h x, total-le f g h xs)

same_total : {X : Type 0} (f g : X → ℕ) → ((x : X) → f x ≡ g x) → (xs : List X) → total f xs ≡ total g xs
unfolding total
same_total f g h [] = refl
same_total f g h (x ∷ xs) = omega (arith, h x, same_total f g h xs)

total-add : {X : Type 0} (f g : X → ℕ) (xs : List X) → total (λ x. f x + g x) xs ≡ total f xs + total g xs
unfolding total
total-add f g [] = refl
total-add f g (x ∷ xs) = omega (arith, total-add f g xs)

total-nothing : {X : Type 0} (f : X → ℕ) → ((x : X) → f x ≡ 0) → (xs : List X) → total f xs ≡ 0
unfolding total
total-nothing f h [] = refl
total-nothing f h (x ∷ xs) = omega (arith, h x, total-nothing f h xs)

mul-total : {X : Type 0} (a : ℕ) (f : X → ℕ) (xs : List X) → a * total f xs ≡ total (λ x. a * f x) xs
unfolding total
mul-total a f [] = omega arith
mul-total a f (x ∷ xs) = omega (arith, mul-total a f xs)

total-mul : {X : Type 0} (a : ℕ) (f : X → ℕ) (xs : List X) → total f xs * a ≡ total (λ x. f x * a) xs
unfolding total
total-mul a f [] = omega arith
total-mul a f (x ∷ xs) = omega (arith, total-mul a f xs)

total_swap : {X Y : Type 0} (f : X → Y → ℕ) (xs : List X) (ys : List Y) → total (λ x. total (f x) ys) xs ≡ total (λ y. total (λ x. f x y) xs) ys
unfolding total
total_swap f [] ys = sym (total-nothing (λ y. 0) (λ y. refl) ys)
total_swap f (x ∷ xs) ys = omega (arith, total_swap f xs ys, total-add (f x) (λ y. total (λ x'. f x' y) xs) ys)

-- a sum's size is at most the sum of the sizes
size_within : {X : Type 0} (f : X → ℤ) (xs : List X) → unsigned_abs (sum_of f xs) ≤ total (λ x. unsigned_abs (f x)) xs
unfolding total
size_within f [] = omega arith
size_within f (x ∷ xs) = omega (arith, ints, size_within f xs)

-- ---- coefficients of a row, weighed by the variables' reaches

-- the size of a term in the sum over variables
missing_total : (g : ℕ → ℕ) (w k a n : ℕ) → k < a → total (λ v. (if k == v then w else 0) * g v) (range_with_len a n) ≡ 0
unfolding total
missing_total g w k a zero l = refl
missing_total g w k a (suc n) l =
    omega (arith, ap (λ t. (if t then w else 0) * g a) (differ k a (λ e. omega (arith, l, e))), missing_total g w k (a + 1) n (omega (arith, l)))
  where
    differ : (a b : ℕ) → a ≢ b → (a == b) ≡ false
    differ a b n = ⊎_elim (λ same. absurd (n same.1)) (λ other. other.0) (eqb_tells a b)

picked_total : (g : ℕ → ℕ) (w k a n : ℕ) → total (λ v. (if k == v then w else 0) * g v) (range_with_len a n) ≤ w * g k
unfolding total
picked_total g w k a zero = omega arith
picked_total g w k a (suc n) = ⊎_elim
    (λ same. omega (
      arith,
      ap (λ t. (if t then w else 0) * g a) same.0,
      ap (λ v. w * g v) same.1,
      missing_total g w k (a + 1) n (omega (arith, same.1)),
    ))
    (λ other. omega (arith, ap (λ t. (if t then w else 0) * g a) other.0, picked_total g w k (a + 1) n))
    (eqb_tells k a)

-- the weighed sizes of a row's coefficients are within those of its terms
by_key_within : (g : ℕ → ℕ) (n : ℕ) (ts : List Term)
    → total (λ v. unsigned_abs (coefficient ts v) * g v) (range_with_len 0 n) ≤ total (λ t. unsigned_abs t.coef * g t.var) ts
unfolding total
by_key_within g n [] = omega (arith, total-nothing (λ (v : ℕ). 0 * g v) (λ v. omega arith) (range_with_len 0 n))
by_key_within g n (t ∷ ts) =
    let vs : List ℕ = range_with_len 0 n in
    let here : ℕ → ℕ = λ v. (if t.var == v then unsigned_abs t.coef else 0) * g v in
    let rest : ℕ → ℕ = λ v. unsigned_abs (coefficient ts v) * g v in
    omega (
      arith,
      total-le (λ v. unsigned_abs (coefficient (t ∷ ts) v) * g v) (λ v. here v + rest v) (λ v. by (t.var == v) (coefficient ts v) (g v)) vs,
      total-add here rest vs,
      picked_total g (unsigned_abs t.coef) t.var 0 n,
      by_key_within g n ts,
    )
  where
    by : (s : Bool) (c : ℤ) (r : ℕ) → unsigned_abs ((if s then t.coef else pos 0) +ℤ c) * r ≤ (if s then unsigned_abs t.coef else 0) * r + unsigned_abs c * r
    by true c r = omega (arith, mul-le-mul_right r (sum_size t.coef c))
      where
        sum_size : (a b : ℤ) → unsigned_abs (a +ℤ b) ≤ unsigned_abs a + unsigned_abs b
        sum_size a b = omega (arith, ints)
    by false c r = omega (arith, ap (λ z. unsigned_abs z * r) (plain c))
      where
        plain : (c : ℤ) → pos 0 +ℤ c ≡ c
        plain c = omega (arith, ints)

-- one coefficient
one_within : (p : Program) (ts : List Term) (v : ℕ) → unsigned_abs (coefficient ts v) ≤ total (λ t. unsigned_abs t.coef * reach (span_at p.spans t.var)) ts
unfolding total
one_within p [] v = omega arith
one_within p (t ∷ ts) v = omega (
  arith,
  by (t.var == v) (coefficient ts v),
  at_least (unsigned_abs t.coef) (span_at p.spans t.var),
  one_within p ts v,
)
  where
    by : (s : Bool) (c : ℤ) → unsigned_abs ((if s then t.coef else pos 0) +ℤ c) ≤ unsigned_abs t.coef + unsigned_abs c
    by true c = omega (arith, ints)
    by false c = omega (arith, ints)

    at_least : (a : ℕ) (s : Span) → a * 1 ≤ a * reach s
    at_least a s = mul-le-mul_left a (omega arith)

-- ---- what a row takes of the limit

-- the greatest size of a row's sides, and of its sums
side_part : ProofRow → ℕ
side_part (whole_row row) = max (unsigned_abs row.low) (unsigned_abs row.rhs)
side_part (link_row v k) = 0
side_part no_row = 0

sum_part : Program → ProofRow → ℕ
sum_part p (whole_row row) = total (λ t. unsigned_abs t.coef * reach (span_at p.spans t.var)) row.terms
sum_part p (link_row v k) = 0
sum_part p no_row = 0

parts_of_limit : (p : Program) (row : ProofRow) → side_part row + sum_part p row ≡ named_limit p row
unfolding side_part sum_part
parts_of_limit p (whole_row row) =
    ap (λ n. max (unsigned_abs row.low) (unsigned_abs row.rhs) + n) (total_is (λ (t : Term). unsigned_abs t.coef * reach (span_at p.spans t.var)) row.terms)
parts_of_limit p (link_row v k) = refl
parts_of_limit p no_row = refl

side_within : (row : ProofRow) (u : ℤ) → unsigned_abs (named_side row u) ≤ side_part row
unfolding side_part
side_within (whole_row row) u = by row.sense row.low row.rhs u
  where
    by : (s : Sense) (low rhs u : ℤ) → unsigned_abs (slack_side s low rhs u) ≤ max (unsigned_abs low) (unsigned_abs rhs)
    by Le low rhs u = omega arith
    by Ge low rhs u = omega arith
    by Eq low rhs u = omega arith
    by In low rhs (pos n) = omega arith
    by In low rhs (negsuc n) = omega arith
side_within (link_row v k) u = omega arith
side_within no_row u = omega arith

coefficient_within : (p : Program) (row : ProofRow) (v : ℕ) → unsigned_abs (row_coefficient row v) ≤ sum_part p row
unfolding sum_part
coefficient_within p (whole_row row) v = one_within p row.terms v
coefficient_within p (link_row w k) v = omega arith
coefficient_within p no_row v = omega arith

weighed_within : (p : Program) (row : ProofRow)
    → total (λ v. unsigned_abs (row_coefficient row v) * reach (span_at p.spans v)) (range_with_len 0 (length p.spans)) ≤ sum_part p row
unfolding sum_part
weighed_within p (whole_row row) = by_key_within (λ v. reach (span_at p.spans v)) (length p.spans) row.terms
weighed_within p (link_row w k) = omega (arith, total-nothing (λ (v : ℕ). 0 * reach (span_at p.spans v)) (λ v. omega arith) (range_with_len 0 (length p.spans)))
weighed_within p no_row = omega (arith, total-nothing (λ (v : ℕ). 0 * reach (span_at p.spans v)) (λ v. omega arith) (range_with_len 0 (length p.spans)))

-- ---- combinations

-- the limit, by sides and sums
sides_limit : List ProofRow → List (ℕ × ℤ) → ℕ
sides_limit rows ms = total (λ m. unsigned_abs m.1 * side_part (row_of rows m)) ms

sums_limit : Program → List ProofRow → List (ℕ × ℤ) → ℕ
sums_limit p rows ms = total (λ m. unsigned_abs m.1 * sum_part p (row_of rows m)) ms

limits_add : (p : Program) (rows : List ProofRow) (ms : List (ℕ × ℤ)) → sides_limit rows ms + sums_limit p rows ms ≡ combination_limit p rows ms
unfolding sides_limit sums_limit
limits_add p rows ms =
    sym (total-add (λ (m : ℕ × ℤ). unsigned_abs m.1 * side_part (row_of rows m)) (λ m. unsigned_abs m.1 * sum_part p (row_of rows m)) ms)
    ∙ same_total (λ (m : ℕ × ℤ). unsigned_abs m.1 * side_part (row_of rows m) + unsigned_abs m.1 * sum_part p (row_of rows m))
    (λ m. unsigned_abs m.1 * named_limit p (row_of rows m))
    (λ m. both (unsigned_abs m.1) (side_part (row_of rows m)) (sum_part p (row_of rows m)) (named_limit p (row_of rows m)) (parts_of_limit p (row_of rows m))) ms
    ∙ total_is (λ (m : ℕ × ℤ). unsigned_abs m.1 * named_limit p (row_of rows m)) ms
  where
    both : (a s t n : ℕ) → s + t ≡ n → a * s + a * t ≡ a * n
    both a s t n e = omega (arith, ap (λ k. a * k) e)

-- weights no greater than the multipliers
weighted_side_within : (rows : List ProofRow) (w : ℕ × ℤ → ℤ) → ((m : ℕ × ℤ) → unsigned_abs (w m) ≤ unsigned_abs m.1) → (ms : List (ℕ × ℤ))
    → unsigned_abs (weighted_side rows w ms) ≤ sides_limit rows ms
unfolding sides_limit
weighted_side_within rows w small ms =
    omega (
      arith,
      size_within (λ m. w m *ℤ named_side (row_of rows m) m.1) ms,
      total-le (λ m. unsigned_abs (w m *ℤ named_side (row_of rows m) m.1)) (λ m. unsigned_abs m.1 * side_part (row_of rows m))
          (λ m. product (w m) m.1 (named_side (row_of rows m) m.1) (side_part (row_of rows m)) (small m) (side_within (row_of rows m) m.1)) ms,
    )
  where
    product : (a b c : ℤ) (n : ℕ) → unsigned_abs a ≤ unsigned_abs b → unsigned_abs c ≤ n → unsigned_abs (a *ℤ c) ≤ unsigned_abs b * n
    product a b c n h l =
        omega (arith, unsigned_abs-mul a c, mul-le-mul_right (unsigned_abs c) h, mul-le-mul_left (unsigned_abs b) l)

weighted_coefficient_within : (p : Program) (rows : List ProofRow) (w : ℕ × ℤ → ℤ) → ((m : ℕ × ℤ) → unsigned_abs (w m) ≤ unsigned_abs m.1)
    → (ms : List (ℕ × ℤ)) (v : ℕ) → unsigned_abs (weighted_coefficient rows w ms v) ≤ total (λ m. unsigned_abs m.1 * unsigned_abs (row_coefficient (row_of rows m) v)) ms
weighted_coefficient_within p rows w small ms v =
    omega (
      arith,
      size_within (λ m. w m *ℤ row_coefficient (row_of rows m) v) ms,
      total-le (λ m. unsigned_abs (w m *ℤ row_coefficient (row_of rows m) v)) (λ m. unsigned_abs m.1 * unsigned_abs (row_coefficient (row_of rows m) v))
          (λ m. product (w m) m.1 (row_coefficient (row_of rows m) v) (small m)) ms,
    )
  where
    product : (a b c : ℤ) → unsigned_abs a ≤ unsigned_abs b → unsigned_abs (a *ℤ c) ≤ unsigned_abs b * unsigned_abs c
    product a b c h = omega (arith, unsigned_abs-mul a c, mul-le-mul_right (unsigned_abs c) h)

-- one coefficient of the sum is within the sums' limit
sum_within : (p : Program) (rows : List ProofRow) (ms : List (ℕ × ℤ)) (v : ℕ)
    → total (λ m. unsigned_abs m.1 * unsigned_abs (row_coefficient (row_of rows m) v)) ms ≤ sums_limit p rows ms
unfolding sums_limit
sum_within p rows ms v =
    total-le (λ m. unsigned_abs m.1 * unsigned_abs (row_coefficient (row_of rows m) v)) (λ m. unsigned_abs m.1 * sum_part p (row_of rows m))
    (λ m. mul-le-mul_left (unsigned_abs m.1) (coefficient_within p (row_of rows m) v)) ms

-- an end is within the reach
end_within : (p : Program) (cut : MirCut) (v : ℕ) → unsigned_abs (end_of p cut v) ≤ reach (span_at p.spans v)
end_within p cut v = by (is_upper cut v) (span_at p.spans v)
  where
    by : (t : Bool) (s : Span) → unsigned_abs (if t then s.hi else s.lo) ≤ reach s
    by true s = omega arith
    by false s = omega arith

-- coefficients no greater than those of the sum, at the ends
ends_within : (p : Program) (rows : List ProofRow) (cut : MirCut) (f : ℕ → ℤ) → ((v : ℕ) → unsigned_abs (f v) ≤ unsigned_abs (summed rows cut v))
    → unsigned_abs (at_ends p cut f) ≤ sums_limit p rows cut.rows
unfolding sums_limit
ends_within p rows cut f small =
    let vs : List ℕ = range_with_len 0 (length p.spans) in
    let ms : List (ℕ × ℤ) = cut.rows in
    let r : ℕ → ℕ = λ v. reach (span_at p.spans v) in
    let c : ℕ × ℤ → ℕ → ℕ = λ m v. unsigned_abs (row_coefficient (row_of rows m) v) in
    omega (
      arith,
      size_within (λ v. f v *ℤ end_of p cut v) vs,
      total-le (λ v. unsigned_abs (f v *ℤ end_of p cut v)) (λ v. total (λ m. unsigned_abs m.1 * c m v) ms * r v)
          (λ v. product (f v) (end_of p cut v) (total (λ m. unsigned_abs m.1 * c m v) ms) (r v)
          (within (unsigned_abs (f v)) (unsigned_abs (summed rows cut v)) (total (λ m. unsigned_abs m.1 * c m v) ms) (small v)
          (weighted_coefficient_within p rows (λ m. m.1) (λ m. omega arith) ms v))
          (end_within p cut v)) vs,
      moved vs ms r c,
      total-le (λ m. unsigned_abs m.1 * total (λ v. c m v * r v) vs) (λ m. unsigned_abs m.1 * sum_part p (row_of rows m))
          (λ m. mul-le-mul_left (unsigned_abs m.1) (weighed_within p (row_of rows m))) ms,
    )
  where
    within : (a b c : ℕ) → a ≤ b → b ≤ c → a ≤ c
    within a b c h l = omega (arith, h, l)

    product : (a b : ℤ) (m n : ℕ) → unsigned_abs a ≤ m → unsigned_abs b ≤ n → unsigned_abs (a *ℤ b) ≤ m * n
    product a b m n h l = omega (arith, unsigned_abs-mul a b, mul-le-mul_right (unsigned_abs b) h, mul-le-mul_left m l)

    assoc : (a b c : ℕ) → a * b * c ≡ a * (b * c)
    assoc a b c = omega arith

    moved : (vs : List ℕ) (ms : List (ℕ × ℤ)) (r : ℕ → ℕ) (c : ℕ × ℤ → ℕ → ℕ)
        → total (λ v. total (λ m. unsigned_abs m.1 * c m v) ms * r v) vs ≡ total (λ m. unsigned_abs m.1 * total (λ v. c m v * r v) vs) ms
    moved vs ms r c =
        same_total (λ v. total (λ m. unsigned_abs m.1 * c m v) ms * r v) (λ v. total (λ m. unsigned_abs m.1 * c m v * r v) ms)
        (λ v. total-mul (r v) (λ m. unsigned_abs m.1 * c m v) ms) vs
        ∙ total_swap (λ v m. unsigned_abs m.1 * c m v * r v) vs ms
        ∙ same_total (λ m. total (λ v. unsigned_abs m.1 * c m v * r v) vs) (λ m. unsigned_abs m.1 * total (λ v. c m v * r v) vs)
        (λ m. same_total (λ v. unsigned_abs m.1 * c m v * r v) (λ v. unsigned_abs m.1 * (c m v * r v)) (λ v. assoc (unsigned_abs m.1) (c m v) (r v)) vs
        ∙ sym (mul-total (unsigned_abs m.1) (λ v. c m v * r v) vs)) ms

-- ---- the cut's numbers

below_divisor : (p : Program) (rows : List ProofRow) (cut : MirCut) → IsFittingMir p rows cut → remainder_of p rows cut < cut.divisor
below_divisor p rows cut fits =
    by (int_rem_euclid (summed_side p rows cut) (pos cut.divisor)) cut.divisor (remainder_of p rows cut)
    (rest_high (summed_side p rows cut) cut.divisor (omega (arith, fits.divides))) (omega (arith, fits.divides))
    (below_full cut.lowered (full_remainder p rows cut) fits.lowered)
    (rest_low (summed_side p rows cut) cut.divisor (omega (arith, fits.divides)))
  where
    by : (e : ℤ) (d r : ℕ) → e <ℤ pos d → 0 < d → r ≤ unsigned_abs e → pos 0 ≤ℤ e → r < d
    by e d r high h l low = omega (arith, ints, high, h, l, low)

rounded_within : (d r : ℕ) (upper : Bool) (a : ℤ) → r < d → unsigned_abs (rounded_by d r upper a) ≤ unsigned_abs a
rounded_within d r true a l = negated a (mir_function d r (neg_ℤ a)) (mir_shrinks_lem d r (neg_ℤ a) l)
  where
    negated : (a g : ℤ) → unsigned_abs g ≤ unsigned_abs (neg_ℤ a) → unsigned_abs (neg_ℤ g) ≤ unsigned_abs a
    negated a g h = omega (arith, ints, h)
rounded_within d r false a l = mir_shrinks_lem d r a l

put_back_within : (d r : ℕ) (row : ProofRow) (u : ℤ) → r < d → unsigned_abs (named_put_back d r row u) ≤ unsigned_abs u
put_back_within d r (whole_row row) u l = by row.sense u
  where
    up : (g u : ℤ) → unsigned_abs g ≤ unsigned_abs u → unsigned_abs (neg_ℤ g) ≤ unsigned_abs u
    up g u h = omega (arith, ints, h)

    down : (g u : ℤ) → unsigned_abs g ≤ unsigned_abs (neg_ℤ u) → unsigned_abs g ≤ unsigned_abs u
    down g u h = omega (arith, ints, h)

    by : (s : Sense) (u : ℤ) → unsigned_abs (put_back d r s u) ≤ unsigned_abs u
    by Le u = up (mir_function d r u) u (mir_shrinks_lem d r u l)
    by Ge u = down (mir_function d r (neg_ℤ u)) u (mir_shrinks_lem d r (neg_ℤ u) l)
    by Eq u = omega arith
    by In (pos n) = down (mir_function d r (neg_ℤ (pos n))) (pos n) (mir_shrinks_lem d r (neg_ℤ (pos n)) l)
    by In (negsuc n) = up (mir_function d r (negsuc n)) (negsuc n) (mir_shrinks_lem d r (negsuc n) l)
put_back_within d r (link_row v k) u l = omega arith
put_back_within d r no_row u l = omega arith

summed_side_within : (p : Program) (rows : List ProofRow) (cut : MirCut) → unsigned_abs (summed_side p rows cut) ≤ combination_limit p rows cut.rows
summed_side_within p rows cut =
    by (weighted_side rows (λ m. m.1) cut.rows) (at_ends p cut (summed rows cut)) (sides_limit rows cut.rows) (sums_limit p rows cut.rows) (combination_limit p rows cut.rows)
    (weighted_side_within rows (λ m. m.1) (λ m. omega arith) cut.rows) (ends_within p rows cut (summed rows cut) (λ v. omega arith)) (limits_add p rows cut.rows)
  where
    by : (a b : ℤ) (m n l : ℕ) → unsigned_abs a ≤ m → unsigned_abs b ≤ n → m + n ≡ l → unsigned_abs (a -ℤ b) ≤ l
    by a b m n l h g e = omega (arith, ints, h, g, e)

coefficient_bounded : (p : Program) (rows : List ProofRow) (cut : MirCut) (v : ℕ) → IsFittingMir p rows cut
    → unsigned_abs (mir_coefficient p rows cut v) ≤ 2 * combination_limit p rows cut.rows
coefficient_bounded p rows cut v fits =
    let l = below_divisor p rows cut fits in
    by (rounded_coefficient p rows cut v) (summed rows cut v) (weighted_coefficient rows (slack_weight p rows cut) cut.rows v)
    (total (λ m. unsigned_abs m.1 * unsigned_abs (row_coefficient (row_of rows m) v)) cut.rows) (sides_limit rows cut.rows) (sums_limit p rows cut.rows)
    (combination_limit p rows cut.rows)
    (rounded_within cut.divisor (remainder_of p rows cut) (is_upper cut v) (summed rows cut v) l)
    (weighted_coefficient_within p rows (λ m. m.1) (λ m. omega arith) cut.rows v)
    (weighted_coefficient_within p rows (slack_weight p rows cut) (λ m. put_back_within cut.divisor (remainder_of p rows cut) (row_of rows m) m.1 l) cut.rows v)
    (sum_within p rows cut.rows v) (limits_add p rows cut.rows)
  where
    by : (g a c : ℤ) (t m n l : ℕ) → unsigned_abs g ≤ unsigned_abs a → unsigned_abs a ≤ t → unsigned_abs c ≤ t → t ≤ n → m + n ≡ l
        → unsigned_abs (g +ℤ c) ≤ 2 * l
    by g a c t m n l e f h i j = omega (arith, ints, e, f, h, i, j)

low_bounded : (p : Program) (rows : List ProofRow) (cut : MirCut) → IsFittingMir p rows cut
    → unsigned_abs (mir_low p rows cut) ≤ 2 * combination_limit p rows cut.rows
low_bounded p rows cut fits =
    let l = below_divisor p rows cut fits in
    by (mir_function cut.divisor (remainder_of p rows cut) (summed_side p rows cut)) (summed_side p rows cut) (at_ends p cut (rounded_coefficient p rows cut))
    (weighted_side rows (slack_weight p rows cut) cut.rows) (sides_limit rows cut.rows) (sums_limit p rows cut.rows) (combination_limit p rows cut.rows)
    (mir_shrinks_lem cut.divisor (remainder_of p rows cut) (summed_side p rows cut) l) (summed_side_within p rows cut)
    (ends_within p rows cut (rounded_coefficient p rows cut)
    (λ v. rounded_within cut.divisor (remainder_of p rows cut) (is_upper cut v) (summed rows cut v) l))
    (weighted_side_within rows (slack_weight p rows cut) (λ m. put_back_within cut.divisor (remainder_of p rows cut) (row_of rows m) m.1 l) cut.rows)
    (limits_add p rows cut.rows)
  where
    by : (g b e k : ℤ) (m n l : ℕ) → unsigned_abs g ≤ unsigned_abs b → unsigned_abs b ≤ l → unsigned_abs e ≤ n → unsigned_abs k ≤ m → m + n ≡ l
        → unsigned_abs ((g +ℤ e) +ℤ k) ≤ 2 * l
    by g b e k m n l h i j o q = omega (arith, ints, h, i, j, o, q)

-- as many products as there are multipliers
limit_within : (p : Program) (rows : List ProofRow) (u l : ℕ) (ms : List (ℕ × ℤ)) → AllByRecursion (λ (m : ℕ × ℤ). unsigned_abs m.1 ≤ u) ms
    → AllByRecursion (λ m. named_limit p (row_of rows m) ≤ l) ms → total (λ m. unsigned_abs m.1 * named_limit p (row_of rows m)) ms ≤ length ms * (u * l)
unfolding total
limit_within p rows u l [] small short = omega arith
limit_within p rows u l (m ∷ ms) small short =
    step (unsigned_abs m.1 * named_limit p (row_of rows m)) (total (λ n. unsigned_abs n.1 * named_limit p (row_of rows n)) ms) (length ms) (u * l)
    (mul-le-mul small.0 short.0) (limit_within p rows u l ms small.1 short.1)
  where
    step : (a t n w : ℕ) → a ≤ w → t ≤ n * w → a + t ≤ suc n * w
    step a t n w h g = omega (arith, h, g)

pub mir_is_bounded_lem : MirIsBounded
mir_is_bounded_lem = record {
  side = summed_side_within;
  coefficient = coefficient_bounded;
  low = low_bounded;
  limit = λ p rows ms u l small short.
      subst (λ n. n ≤ length ms * (u * l)) (total_is (λ (m : ℕ × ℤ). unsigned_abs m.1 * named_limit p (row_of rows m)) ms)
      (limit_within p rows u l ms (recursion_from_All (λ (m : ℕ × ℤ). unsigned_abs m.1 ≤ u) ms small)
      (recursion_from_All (λ m. named_limit p (row_of rows m) ≤ l) ms short));
}
