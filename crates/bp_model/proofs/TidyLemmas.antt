-- Sums by variable: in order and without zeros they have the coefficients of the terms, and each list of terms has such sums.
use Rattle.std.proofs.Common.{◌≡◌, ◌≢◌, ℕ, zero, suc, ◌+◌, ◌*◌, ◌<◌, ◌≤◌, ◌^◌, ◌==◌, Bool, true, false, cond, not, if◌then◌else◌, List, [], ◌∷◌, ◌++◌, map, filter, length, take, get_or, sum_by, All, Option, None, Some, refl, sym, ap, subst, ◌∙◌, inl, inr, ◌⊎◌, ⊎_elim, arith}
use Rattle.std.specs.Prelude.{ℤ, pos, ◌+ℤ◌, unsigned_abs, unwrap_or}
use Rattle.std.specs.List.{AllByRecursion, AllZip}
use Rattle.std.specs.List.Sorted.{IsStrictlySortedBy}
use Rattle.std.specs.Map.{lookup, keys_of}
use Rattle.std.specs.BTreeMap.{is_at}
use Rattle.std.specs.Ordering.{nat_cmp, is_eq, int_eq}
use Rattle.std.specs.declared.cmp.Ordering.TheVariants.{Less, Equal, Greater}
use Rattle.std.proofs.lemmas.Int.{ints}
use Rattle.std.proofs.lemmas.Bool.Decides.{Decides-int_eq, eqb_tells}
use Rattle.std.proofs.lemmas.Bool.{cases_lt}
use Rattle.std.proofs.Math.Nat.{mul-le-mul_left}
use Rattle.std.specs.Cmp.{nat_cmp_is}
use Rattle.std.proofs.lemmas.List.Elements.{recursion_from_All, All-from_recursion}
use Rattle.std.proofs.lemmas.List.Sums.{sum_by-cons, get_or-le-sum_by, sum_by_more_le}
use Rattle.bp_theory.specs.Sums.{sum_of}
use Rattle.bp_theory.specs.Program.{coefficient, span_at, reach}
use Rattle.bp_theory.specs.Decomposition.{HasVariablesBelow, IsTidyFrom}
use Rattle.bp_theory.specs.declared.Span.{Span}
use Rattle.bp_theory.specs.declared.Term.{Term}
use Rattle.bp_theory.specs.declared.Row.{Row}
use Rattle.bp_theory.proofs.SumLaws.{sum_of_more}
use Rattle.bp_theory.proofs.KeyLaws.{if_same, if_other}
use Rattle.bp_theory.proofs.DecompositionProof.{coefficient_past}
use Rattle.bp_model.specs.Parts.{IsTidied, IsTidiedRow}
use Rattle.bp_model.specs.Tidy.{as_term, nonzero, sum_limit, pair_limit, IsSmall, IsSmallRow}

-- the sums that aren't 0, as terms
abbrev pub terms_from : List (ℕ × ℤ) → List Term
terms_from sums = map as_term (nonzero sums)

-- keys ascend, each from a number on
abbrev pub Ascend : ℕ → List (ℕ × ℤ) → Type 0
Ascend n [] = Unit {0}
Ascend n (e ∷ es) = (n ≤ e.0) × Ascend (suc e.0) es

-- a bound that is lower serves too
tidy_lower : (m n : ℕ) (terms : List Term) → m ≤ n → IsTidyFrom n terms → IsTidyFrom m terms
tidy_lower m n [] l h = tt
tidy_lower m n (t ∷ ts) l h = (omega (arith, h.0), h.1, h.2)

-- a sum joins the terms where it isn't 0
head_cases : (e : ℕ × ℤ) (es : List (ℕ × ℤ))
    → ((terms_from (e ∷ es) ≡ as_term e ∷ terms_from es) × (e.1 ≢ pos 0)) ⊎ ((terms_from (e ∷ es) ≡ terms_from es) × (e.1 ≡ pos 0))
head_cases e es = by (int_eq e.1 (pos 0)) refl
  where
    by : (b : Bool) → int_eq e.1 (pos 0) ≡ b
        → ((terms_from (e ∷ es) ≡ as_term e ∷ terms_from es) × (e.1 ≢ pos 0)) ⊎ ((terms_from (e ∷ es) ≡ terms_from es) × (e.1 ≡ pos 0))
    by true is = inr (
      ap (λ b. map as_term (if not b then e ∷ nonzero es else nonzero es)) is,
      (Decides-int_eq e.1 (pos 0)).0 is,
    )
    by false is = inl (
      ap (λ b. map as_term (if not b then e ∷ nonzero es else nonzero es)) is,
      λ zero'. let both : true ≡ false = sym ((Decides-int_eq e.1 (pos 0)).1 zero') ∙ is in cc,
    )

-- ascending sums make tidy terms
pub terms_tidy : (n : ℕ) (es : List (ℕ × ℤ)) → Ascend n es → IsTidyFrom n (terms_from es)
terms_tidy n [] h = tt
terms_tidy n (e ∷ es) h =
    let rest = terms_tidy (suc e.0) es h.1 in ⊎_elim
    (λ stays. subst (IsTidyFrom n) (sym stays.0) (h.0, stays.1, rest))
    (λ goes. subst (IsTidyFrom n) (sym goes.0) (tidy_lower n (suc e.0) (terms_from es) (omega (arith, h.0)) rest))
    (head_cases e es)

-- the coefficient at the first sum, and past it
head_coefficient : (e : ℕ × ℤ) (es : List (ℕ × ℤ)) (v : ℕ)
    → coefficient (terms_from (e ∷ es)) v ≡ (if e.0 == v then e.1 else pos 0) +ℤ coefficient (terms_from es) v
head_coefficient e es v = ⊎_elim
    (λ stays. ap (λ (terms : List Term). coefficient terms v) stays.0)
    (λ goes.
    let none : (if e.0 == v then e.1 else pos 0) ≡ pos 0 = ap (λ z. if e.0 == v then z else pos 0) goes.1 ∙ same (e.0 == v) in
    let at : coefficient (terms_from (e ∷ es)) v ≡ coefficient (terms_from es) v = ap (λ (terms : List Term). coefficient terms v) goes.0 in
    omega (arith, ints, none, at))
    (head_cases e es)
  where
    same : (b : Bool) → (if b then pos 0 else pos 0) ≡ pos 0
    same true = refl
    same false = refl

-- no sum stands before the first
missing : (n v : ℕ) (es : List (ℕ × ℤ)) → Ascend n es → v < n → coefficient (terms_from es) v ≡ pos 0
missing n v [] h l = refl
missing n v (e ∷ es) h l =
    let none = if_other e.0 v e.1 (pos 0) (λ same. omega (arith, h.0, same)) in
    omega (arith, ints, head_coefficient e es v, none, missing (suc e.0) v es h.1 (omega (arith, h.0)))

-- a number compares equal to itself alone
at_same : (v : ℕ) → is_at (nat_cmp v) v ≡ true
at_same v = ap is_eq (sym (nat_cmp_is v v Equal refl))

at_other : (v k : ℕ) → v ≢ k → is_at (nat_cmp v) k ≡ false
at_other v k apart = ⊎_elim
    (λ l. ap is_eq (sym (nat_cmp_is v k Less l)))
    (λ l. ap is_eq (sym (nat_cmp_is v k Greater (let more : k < v = omega arith in more))))
    (cases_lt v k)

-- a look-up at the first entry, and past it
lookup_head : (v : ℕ) (e : ℕ × ℤ) (es : List (ℕ × ℤ)) → v ≡ e.0 → lookup (is_at (nat_cmp v)) (e ∷ es) ≡ Some e.1
lookup_head v e es same =
    ap (λ b. cond b (Some e.1) (lookup (is_at (nat_cmp v)) es)) (subst (λ k. is_at (nat_cmp v) k ≡ true) same (at_same v))

lookup_later : (v : ℕ) (e : ℕ × ℤ) (es : List (ℕ × ℤ)) → v ≢ e.0
    → lookup (is_at (nat_cmp v)) (e ∷ es) ≡ lookup (is_at (nat_cmp v)) es
lookup_later v e es apart = ap (λ b. cond b (Some e.1) (lookup (is_at (nat_cmp v)) es)) (at_other v e.0 apart)

-- the coefficient of a variable is its sum
coefficient_at : (n v : ℕ) (es : List (ℕ × ℤ)) → Ascend n es
    → coefficient (terms_from es) v ≡ unwrap_or (lookup (is_at (nat_cmp v)) es) (pos 0)
coefficient_at n v [] h = refl
coefficient_at n v (e ∷ es) h = ⊎_elim
    (λ same.
    let at = if_same e.0 v e.1 (pos 0) (sym same.1) in
    let rest = missing (suc e.0) v es h.1 (omega (arith, same.1)) in
    let sum : coefficient (terms_from (e ∷ es)) v ≡ e.1 = omega (arith, ints, head_coefficient e es v, at, rest) in
    sum ∙ sym (ap (λ o. unwrap_or o (pos 0)) (lookup_head v e es same.1)))
    (λ other.
    let at = if_other e.0 v e.1 (pos 0) (λ same. other.1 (sym same)) in
    let sum : coefficient (terms_from (e ∷ es)) v ≡ coefficient (terms_from es) v = omega (arith, ints, head_coefficient e es v, at) in
    sum ∙ coefficient_at (suc e.0) v es h.1 ∙ sym (ap (λ o. unwrap_or o (pos 0)) (lookup_later v e es other.1)))
    (eqb_tells v e.0)

-- what compares less is less
less_from_cmp : (m n : ℕ) → nat_cmp m n ≡ Less → m < n
less_from_cmp m n is = ⊎_elim
    (λ l. l)
    (λ l. ⊎_elim
    (λ same. let both : Equal ≡ Less = nat_cmp_is m n Equal (sym same.1) ∙ is in absurd (cc))
    (λ other. let both : Greater ≡ Less = nat_cmp_is m n Greater (omega (arith, l, other.1)) ∙ is in absurd (cc))
    (eqb_tells n m))
    (cases_lt m n)

above_all : (m : ℕ) (ks : List ℕ) → AllByRecursion (λ k. nat_cmp m k ≡ Less) ks → AllByRecursion (λ k. suc m ≤ k) ks
above_all m [] h = tt
above_all m (k ∷ ks) h = (less_from_cmp m k h.0, above_all m ks h.1)

-- a map's entries ascend
ascend_from_sorted : (n : ℕ) (es : List (ℕ × ℤ)) → AllByRecursion (λ k. n ≤ k) (keys_of es) → IsStrictlySortedBy nat_cmp (keys_of es) → Ascend n es
unfolding IsStrictlySortedBy
ascend_from_sorted n [] low h = tt
ascend_from_sorted n (e ∷ es) low h = (low.0, ascend_from_sorted (suc e.0) es (above_all e.0 (keys_of es) h.0) h.1)

all_from_zero : (ks : List ℕ) → AllByRecursion (λ k. 0 ≤ k) ks
all_from_zero [] = tt
all_from_zero (k ∷ ks) = (omega arith, all_from_zero ks)

-- a map's sums that aren't 0 are the terms added up
pub map_tidies : (terms : List Term) (es : List (ℕ × ℤ)) → IsStrictlySortedBy nat_cmp (keys_of es)
    → ((v : ℕ) → unwrap_or (lookup (is_at (nat_cmp v)) es) (pos 0) ≡ coefficient terms v) → IsTidied terms (terms_from es)
map_tidies terms es sorted sums =
    let ascend = ascend_from_sorted 0 es (all_from_zero (keys_of es)) sorted in record {
      tidy = terms_tidy 0 es ascend;
      same = λ v. coefficient_at 0 v es ascend ∙ sums v;
    }

-- ---- each list of terms can be added up

-- the coefficients of so many variables from one on
dense : List Term → (count from : ℕ) → List (ℕ × ℤ)
dense terms zero from = []
dense terms (suc count) from = (from, coefficient terms from) ∷ dense terms count (suc from)

dense_ascends : (terms : List Term) (count from : ℕ) → Ascend from (dense terms count from)
unfolding dense
dense_ascends terms zero from = tt
dense_ascends terms (suc count) from = (omega arith, dense_ascends terms count (suc from))

dense_at : (terms : List Term) (count from v : ℕ) → from ≤ v → v < from + count
    → lookup (is_at (nat_cmp v)) (dense terms count from) ≡ Some (coefficient terms v)
unfolding dense
dense_at terms zero from v low high = absurd (omega arith)
dense_at terms (suc count) from v low high = ⊎_elim
    (λ same. lookup_head v (from, coefficient terms from) (dense terms count (suc from)) same.1 ∙ ap (λ k. Some (coefficient terms k)) (sym same.1))
    (λ other. lookup_later v (from, coefficient terms from) (dense terms count (suc from)) other.1
    ∙ dense_at terms count (suc from) v (omega (arith, low, other.1)) (omega (arith, high)))
    (eqb_tells v from)

dense_past : (terms : List Term) (count from v : ℕ) → from + count ≤ v → lookup (is_at (nat_cmp v)) (dense terms count from) ≡ None
unfolding dense
dense_past terms zero from v past = refl
dense_past terms (suc count) from v past =
    lookup_later v (from, coefficient terms from) (dense terms count (suc from)) (λ same. omega (arith, past, same))
    ∙ dense_past terms count (suc from) v (omega (arith, past))

-- terms added up, by their coefficients
pub sums_of : ℕ → List Term → List Term
sums_of n terms = terms_from (dense terms n 0)

pub sums_tidy : (n : ℕ) (terms : List Term) → HasVariablesBelow n terms → IsTidied terms (sums_of n terms)
unfolding sums_of
sums_tidy n terms below = record {
  tidy = terms_tidy 0 (dense terms n 0) (dense_ascends terms n 0);
  same = λ v. coefficient_at 0 v (dense terms n 0) (dense_ascends terms n 0) ∙ ⊎_elim
      (λ l. ap (λ o. unwrap_or o (pos 0)) (dense_at terms n 0 v (omega arith) (omega (arith, l))))
      (λ l. ap (λ o. unwrap_or o (pos 0)) (dense_past terms n 0 v (omega (arith, l)))
      ∙ sym (coefficient_past n v terms (recursion_from_All (λ t. t.var < n) terms below) l))
      (cases_lt v n);
}

-- a row with its terms added up
pub row_sums : ℕ → Row → Row
row_sums n row = record { sense = row.sense; low = row.low; rhs = row.rhs; terms = sums_of n row.terms }

pub row_sums_tidy : (n : ℕ) (row : Row) → HasVariablesBelow n row.terms → IsTidiedRow row (row_sums n row)
unfolding row_sums
row_sums_tidy n row below = record { sense = refl; low = refl; rhs = refl; terms = sums_tidy n row.terms below }

pub rows_sums_tidy : (n : ℕ) (rows : List Row) → AllByRecursion (λ row. HasVariablesBelow n row.terms) rows → AllZip IsTidiedRow rows (map (row_sums n) rows)
rows_sums_tidy n [] below = tt
rows_sums_tidy n (row ∷ rows) below = (row_sums_tidy n row below.0, rows_sums_tidy n rows below.1)

-- ---- the variables of added terms are there

tidy_missing : (n v : ℕ) (ts : List Term) → IsTidyFrom n ts → v < n → coefficient ts v ≡ pos 0
tidy_missing n v [] h l = refl
tidy_missing n v (t ∷ ts) h l =
    let none = if_other t.var v t.coef (pos 0) (λ same. omega (arith, h.0, same)) in
    omega (arith, ints, none, tidy_missing (suc t.var) v ts h.2 (omega (arith, h.0)))

below_from : (n k : ℕ) (terms ts : List Term) → AllByRecursion (λ t. t.var < n) terms → IsTidyFrom k ts
    → ((v : ℕ) → k ≤ v → coefficient ts v ≡ coefficient terms v) → AllByRecursion (λ t. t.var < n) ts
below_from n k terms [] below h same = tt
below_from n k terms (t ∷ ts) below h same = (
  ⊎_elim
      (λ l. l)
      (λ past.
      let at = if_same t.var t.var t.coef (pos 0) refl in
      let rest = tidy_missing (suc t.var) t.var ts h.2 (omega arith) in
      let none = coefficient_past n t.var terms below past in
      absurd (h.1 (omega (arith, ints, same t.var h.0, at, rest, none))))
      (cases_lt t.var n),
  below_from n (suc t.var) terms ts below h.2
      (λ v l.
      let at = if_other t.var v t.coef (pos 0) (λ e. omega (arith, l, e)) in
      omega (arith, ints, same v (omega (arith, h.0, l)), at)),
)

pub tidied_below : (n : ℕ) (terms sums : List Term) → IsTidied terms sums → HasVariablesBelow n terms → HasVariablesBelow n sums
tidied_below n terms sums h below =
    All-from_recursion (λ t. t.var < n) sums
    (below_from n 0 terms sums (recursion_from_All (λ t. t.var < n) terms below) h.tidy (λ v l. h.same v))

-- ---- limits

pub limit-as_term : (spans : List Span) (es : List (ℕ × ℤ)) → sum_limit spans (map as_term es) ≡ pair_limit spans es
limit-as_term spans [] = refl
limit-as_term spans (e ∷ es) =
    let f : Term → ℕ = λ t. unsigned_abs t.coef * reach (span_at spans t.var) in
    let g : ℕ × ℤ → ℕ = λ e. unsigned_abs e.1 * reach (span_at spans e.0) in
    omega (arith, sum_by-cons f (as_term e) (map as_term es), sum_by-cons g e es, limit-as_term spans es)

-- small sums have small coefficients
pub small_sums : (spans : List Span) (base : ℕ) (es : List (ℕ × ℤ)) → base + pair_limit spans es < 2 ^ 62 → All (λ e. unsigned_abs e.1 < 2 ^ 62) es
small_sums spans base es small = λ k d l.
    let g : ℕ × ℤ → ℕ = λ e. unsigned_abs e.1 * reach (span_at spans e.0) in
    let e : ℕ × ℤ = get_or es k d in
    let one : unsigned_abs e.1 * 1 ≤ unsigned_abs e.1 * reach (span_at spans e.0) = mul-le-mul_left (unsigned_abs e.1) (omega arith) in
    omega (arith, small, one, get_or-le-sum_by g es k d l)

-- the variables of sums, as those of their terms
pub pairs_below : (n : ℕ) (es : List (ℕ × ℤ)) → HasVariablesBelow n (map as_term es) → All (λ e. e.0 < n) es
pairs_below n es below = All-from_recursion (λ e. e.0 < n) es (each es (recursion_from_All (λ t. t.var < n) (map as_term es) below))
  where
    each : (es : List (ℕ × ℤ)) → AllByRecursion (λ t. t.var < n) (map as_term es) → AllByRecursion (λ e. e.0 < n) es
    each [] h = tt
    each (e ∷ es) h = (h.0, each es h.1)

-- ---- steps of loops

-- one more place of two lists
pub AllZip-push : {A B : Type 0} (R : A → B → Type 0) (xs : List A) (ys : List B) (x : A) (y : B) → AllZip R xs ys → R x y
    → AllZip R (xs ++ x ∷ []) (ys ++ y ∷ [])
AllZip-push R [] [] x y h r = (r, tt)
AllZip-push R [] (b ∷ ys) x y h r = absurd h
AllZip-push R (a ∷ xs) [] x y h r = absurd h
AllZip-push R (a ∷ xs) (b ∷ ys) x y h r = (h.0, AllZip-push R xs ys x y h.1 r)

-- sums so far that leave 62 bits leave them for all sums
pub fits_over : (spans : List Span) (sums : List (ℕ × ℤ)) (base limit size r i : ℕ) (d : ℕ × ℤ) → i < length sums
    → limit ≡ base + pair_limit spans (take i sums) → size ≡ unsigned_abs (get_or sums i d).1 → r ≡ reach (span_at spans (get_or sums i d).0)
    → 2 ^ 62 ≤ limit + size * r → base + pair_limit spans sums < 2 ^ 62 → ⊥
fits_over spans sums base limit size r i d l so_far size_is reach_is large small =
    let g : ℕ × ℤ → ℕ = λ e. unsigned_abs e.1 * reach (span_at spans e.0) in
    let product : size * r ≡ g (get_or sums i d) = ap (λ a. a * r) size_is ∙ ap (λ b. unsigned_abs (get_or sums i d).1 * b) reach_is in
    omega (arith, so_far, product, large, small, sum_by_more_le g sums i d l)

-- a term more in a map of sums
pub added_step : (terms : List Term) (i : ℕ) (d : Term) (old new : ℕ → Option ℤ) (had sum : ℤ) → i < length terms
    → ((v : ℕ) → unwrap_or (old v) (pos 0) ≡ coefficient (take i terms) v) → ((v : ℕ) → unsigned_abs (unwrap_or (old v) (pos 0)) ≤ i * 2 ^ 63)
    → had ≡ unwrap_or (old (get_or terms i d).var) (pos 0) → sum ≡ had +ℤ (get_or terms i d).coef → unsigned_abs sum ≤ unsigned_abs had + 2 ^ 63
    → ((v : ℕ) → new v ≡ cond (is_at (nat_cmp (get_or terms i d).var) v) (Some sum) (old v)) → (v : ℕ)
    → (unwrap_or (new v) (pos 0) ≡ coefficient (take (i + 1) terms) v) × (unsigned_abs (unwrap_or (new v) (pos 0)) ≤ (i + 1) * 2 ^ 63)
added_step terms i d old new had sum l sums small had_is sum_is size updates v =
    let t : Term = get_or terms i d in
    let more : coefficient (take (i + 1) terms) v ≡ coefficient (take i terms) v +ℤ (if t.var == v then t.coef else pos 0) =
    sum_of_more (λ (t : Term). if t.var == v then t.coef else pos 0) terms i d l in ⊎_elim
    (λ same.
    let here : new v ≡ Some sum = updates v ∙ ap (λ b. cond b (Some sum) (old v)) (subst (λ k. is_at (nat_cmp t.var) k ≡ true) same.1 (at_same t.var)) in
    let value : unwrap_or (new v) (pos 0) ≡ sum = ap (λ o. unwrap_or o (pos 0)) here in
    let before : had ≡ coefficient (take i terms) v = had_is ∙ sums t.var ∙ ap (coefficient (take i terms)) same.1 in
    let bound : unsigned_abs had ≤ i * 2 ^ 63 = subst (λ z. unsigned_abs z ≤ i * 2 ^ 63) (sym had_is) (small t.var) in (
      omega (arith, ints, value, before, sum_is, more, if_same t.var v t.coef (pos 0) same.1),
      omega (arith, ints, ap unsigned_abs value, bound, size),
    ))
    (λ other.
    let here : new v ≡ old v = updates v ∙ ap (λ b. cond b (Some sum) (old v)) (at_other t.var v other.1) in
    let value : unwrap_or (new v) (pos 0) ≡ unwrap_or (old v) (pos 0) = ap (λ o. unwrap_or o (pos 0)) here in (
      omega (arith, ints, value, sums v, more, if_other t.var v t.coef (pos 0) other.1),
      omega (arith, ap unsigned_abs value, small v),
    ))
    (eqb_tells t.var v)
