-- Coefficients by variable, rounded, as terms.
use Rattle.std.proofs.Common.{◌≡◌, ◌≢◌, ℕ, zero, suc, ◌+◌, ◌<◌, ◌≤◌, ◌==◌, Bool, true, false, cond, not, if◌then◌else◌, List, [], ◌∷◌, map, filter, length, get_or, Some, refl, sym, ap, subst, ◌∙◌, ⊎_elim, arith}
use Rattle.std.specs.Prelude.{ℤ, pos, ◌+ℤ◌, ◌*ℤ◌, unwrap_or}
use Rattle.std.specs.List.{AllByRecursion, range_with_len}
use Rattle.std.specs.List.Sorted.{IsStrictlySortedBy}
use Rattle.std.specs.Map.{lookup, keys_of}
use Rattle.std.specs.BTreeMap.{is_at}
use Rattle.std.specs.Ordering.{nat_cmp, int_eq}
use Rattle.std.proofs.Math.IntN.{*ℤ-zero}
use Rattle.std.proofs.Math.Nat.{div-eq_of_lt}
use Rattle.std.proofs.lemmas.Int.{ints}
use Rattle.std.proofs.lemmas.Bool.{cases_lt}
use Rattle.std.proofs.lemmas.Bool.Decides.{Decides-int_eq, eqb_tells}
use Rattle.std.proofs.lemmas.Map.Made.{keys_of-map_values}
use Rattle.std.proofs.lemmas.List.Elements.{recursion_from_All, All-from_recursion, All-filter, All-map}
use Rattle.bp_theory.specs.Sums.{sum_of, round_up}
use Rattle.bp_theory.specs.Program.{Program, coefficient}
use Rattle.bp_theory.specs.Decomposition.{ProofRow, whole_row, link_row, no_row, HasVariablesBelow, IsTidyFrom}
use Rattle.bp_theory.specs.Cuts.{row_coefficient, term_at, terms_of}
use Rattle.bp_theory.specs.declared.Term.{Term}
use Rattle.bp_theory.proofs.DecompositionProof.{coefficient_past, below_range}
use Rattle.bp_theory.proofs.KeyLaws.{if_same, if_other}
use Rattle.bp_model.specs.Tidy.{as_term, nonzero}
use Rattle.bp_model.proofs.TidyLemmas.{map_tidies}
use Rattle.block_program.proofs.StandLemmas.{before_none}
use Rattle.cut_sums.specs.Rounding.{round_entry}
use Rattle.cut_sums.specs.Rows.{IsBoundedRow, IsBoundedEntry}

-- ---- terms in order are those of their coefficients

head_alone : (n : ℕ) (t : Term) (ts : List Term) → IsTidyFrom n (t ∷ ts) → coefficient (t ∷ ts) t.var ≡ t.coef
head_alone n t ts h =
    omega (arith, ints, if_same t.var t.var t.coef (pos 0) refl, before_none (suc t.var) t.var ts h.2 (omega arith))

same_term : (x y : Term) → x.var ≡ y.var → x.coef ≡ y.coef → x ≡ y
same_term x y v c =
    ap (λ (n : ℕ). record { var = n; coef = x.coef }) v ∙ ap (λ (z : ℤ). record { var = y.var; coef = z }) c

-- terms in order and without zeros are the only ones with their coefficients
pub same_terms : (n : ℕ) (xs ys : List Term) → IsTidyFrom n xs → IsTidyFrom n ys → ((v : ℕ) → coefficient xs v ≡ coefficient ys v) → xs ≡ ys
same_terms n [] [] hx hy e = refl
same_terms n [] (y ∷ ys) hx hy e = absurd (hy.1 (sym (head_alone n y ys hy) ∙ sym (e y.var)))
same_terms n (x ∷ xs) [] hx hy e = absurd (hx.1 (sym (head_alone n x xs hx) ∙ e x.var))
same_terms n (x ∷ xs) (y ∷ ys) hx hy e = ⊎_elim
    (λ same.
    let coefs : x.coef ≡ y.coef = sym (head_alone n x xs hx) ∙ e x.var ∙ ap (coefficient (y ∷ ys)) same.1 ∙ head_alone n y ys hy in
    let heads : x ≡ y = same_term x y same.1 coefs in
    let at : (v : ℕ) → coefficient xs v ≡ coefficient ys v =
    λ v. let head : (if x.var == v then x.coef else pos 0) ≡ (if y.var == v then y.coef else pos 0) = ap (λ (t : Term). if t.var == v then t.coef else pos 0) heads in
    omega (arith, ints, e v, head) in
    let tails : xs ≡ ys = same_terms (suc x.var) xs ys hx.2 (subst (λ k. IsTidyFrom (suc k) ys) (sym same.1) hy.2) at in
    ap (λ (t : Term). t ∷ xs) heads ∙ ap (λ (ts : List Term). y ∷ ts) tails)
    (λ other. ⊎_elim
    (λ less. absurd (hx.1 (sym (head_alone n x xs hx) ∙ e x.var ∙ before_none y.var x.var (y ∷ ys) (omega arith, hy.1, hy.2) less)))
    (λ more. absurd (hy.1 (sym (head_alone n y ys hy) ∙ sym (e y.var) ∙ before_none x.var y.var (x ∷ xs) (omega arith, hx.1, hx.2) (omega (arith, more, other.1)))))
    (cases_lt x.var y.var))
    (eqb_tells x.var y.var)

-- ---- the terms of given coefficients

-- the terms of these coefficients of so many variables from one on
abbrev pub terms_within : (ℕ → ℤ) → ℕ → ℕ → List Term
terms_within f a n = filter (λ (t : Term). not (int_eq t.coef (pos 0))) (map (term_at f) (range_with_len a n))

tidy_from : (n m : ℕ) (ts : List Term) → n ≤ m → IsTidyFrom m ts → IsTidyFrom n ts
tidy_from n m [] l h = tt
tidy_from n m (t ∷ ts) l h = (omega (arith, l, h.0), h.1, h.2)

not_zero : (z : ℤ) → int_eq z (pos 0) ≡ false → z ≢ pos 0
not_zero z e same = let both : true ≡ false = sym ((Decides-int_eq z (pos 0)).1 same) ∙ e in cc

pub tidy_within : (f : ℕ → ℤ) (a n : ℕ) → IsTidyFrom a (terms_within f a n)
tidy_within f a zero = tt
tidy_within f a (suc n) = by (int_eq (f a) (pos 0)) refl (tidy_within f (a + 1) n)
  where
    by : (b : Bool) → int_eq (f a) (pos 0) ≡ b → IsTidyFrom (a + 1) (terms_within f (a + 1) n)
        → IsTidyFrom a (if not b then term_at f a ∷ terms_within f (a + 1) n else terms_within f (a + 1) n)
    by true e h = tidy_from a (a + 1) (terms_within f (a + 1) n) (omega arith) h
    by false e h = (omega arith, not_zero (f a) e, tidy_from (suc a) (a + 1) (terms_within f (a + 1) n) (omega arith) h)

coefficient_head : (f : ℕ → ℤ) (a n v : ℕ)
    → coefficient (terms_within f a (suc n)) v ≡ (if a == v then f a else pos 0) +ℤ coefficient (terms_within f (a + 1) n) v
coefficient_head f a n v = by (int_eq (f a) (pos 0)) refl
  where
    none : (b : Bool) → (if b then pos 0 else pos 0) ≡ pos 0
    none true = refl
    none false = refl

    by : (b : Bool) → int_eq (f a) (pos 0) ≡ b
        → coefficient (if not b then term_at f a ∷ terms_within f (a + 1) n else terms_within f (a + 1) n) v
        ≡ (if a == v then f a else pos 0) +ℤ coefficient (terms_within f (a + 1) n) v
    by true e =
        let zero' : (if a == v then f a else pos 0) ≡ pos 0 = ap (λ z. if a == v then z else pos 0) ((Decides-int_eq (f a) (pos 0)).0 e) ∙ none (a == v) in
        omega (arith, ints, zero')
    by false e = refl

coefficient_within : (f : ℕ → ℤ) (a n v : ℕ) → a ≤ v → v < a + n → coefficient (terms_within f a n) v ≡ f v
coefficient_within f a zero v low high = absurd (omega arith)
coefficient_within f a (suc n) v low high = ⊎_elim
    (λ same.
    let rest = before_none (a + 1) v (terms_within f (a + 1) n) (tidy_within f (a + 1) n) (omega (arith, same.1)) in
    omega (arith, ints, coefficient_head f a n v, if_same a v (f a) (pos 0) same.1, rest, ap f same.1))
    (λ other.
    let rest = coefficient_within f (a + 1) n v (omega (arith, low, other.1)) (omega (arith, high)) in
    omega (arith, ints, coefficient_head f a n v, if_other a v (f a) (pos 0) other.1, rest))
    (eqb_tells a v)

-- the terms of given coefficients are those of variables of the program
pub closed_terms : (p : Program) (f : ℕ → ℤ) → HasVariablesBelow (length p.spans) (terms_of p f)
closed_terms p f =
    All-filter (λ t. not (int_eq t.coef (pos 0))) (λ t. t.var < length p.spans) (map (term_at f) (range_with_len 0 (length p.spans)))
    (All-map (λ (t : Term). t.var < length p.spans) (term_at f) (range_with_len 0 (length p.spans))
    (All-from_recursion (λ v. v < length p.spans) (range_with_len 0 (length p.spans)) (below_range (length p.spans) 0 (length p.spans) (omega arith))))

coefficient_of : (p : Program) (f : ℕ → ℤ) (v : ℕ) → (length p.spans ≤ v → f v ≡ pos 0) → coefficient (terms_of p f) v ≡ f v
coefficient_of p f v past = ⊎_elim
    (λ l. coefficient_within f 0 (length p.spans) v (omega arith) (omega (arith, l)))
    (λ l. coefficient_past (length p.spans) v (terms_of p f) (recursion_from_All (λ t. t.var < length p.spans) (terms_of p f) (closed_terms p f)) l ∙ sym (past l))
    (cases_lt v (length p.spans))

-- a map's sums that aren't 0 are the terms of their coefficients
terms_from_map : (p : Program) (f : ℕ → ℤ) (es : List (ℕ × ℤ)) → IsStrictlySortedBy nat_cmp (keys_of es)
    → ((v : ℕ) → unwrap_or (lookup (is_at (nat_cmp v)) es) (pos 0) ≡ f v) → ((v : ℕ) → length p.spans ≤ v → f v ≡ pos 0)
    → map as_term (nonzero es) ≡ terms_of p f
terms_from_map p f es sorted sums past =
    let tidied = map_tidies (terms_of p f) es sorted (λ v. sums v ∙ sym (coefficient_of p f v (past v))) in
    same_terms 0 (map as_term (nonzero es)) (terms_of p f) tidied.tidy (tidy_within f 0 (length p.spans)) tidied.same

-- ---- rounding

pub round_zero : (q : ℕ) → 0 < q → round_up (pos 0) q ≡ pos 0
round_zero q h = ap pos (div-eq_of_lt (omega (arith, h)))

rounded_at : (q : ℕ) (test : ℕ → Bool) (es : List (ℕ × ℤ)) → 0 < q
    → unwrap_or (lookup test (map (round_entry q) es)) (pos 0) ≡ round_up (unwrap_or (lookup test es) (pos 0)) q
rounded_at q test [] h = sym (round_zero q h)
rounded_at q test (e ∷ es) h = by (test e.0) (rounded_at q test es h)
  where
    by : (b : Bool) → unwrap_or (lookup test (map (round_entry q) es)) (pos 0) ≡ round_up (unwrap_or (lookup test es) (pos 0)) q
        → unwrap_or (cond b (Some (round_up e.1 q)) (lookup test (map (round_entry q) es))) (pos 0)
        ≡ round_up (unwrap_or (cond b (Some e.1) (lookup test es)) (pos 0)) q
    by true h = refl
    by false h = h

-- the sums of a map, rounded, are the terms of the rounded coefficients
pub rounded_terms : (p : Program) (f : ℕ → ℤ) (q : ℕ) (es : List (ℕ × ℤ)) → 0 < q → IsStrictlySortedBy nat_cmp (keys_of es)
    → ((v : ℕ) → unwrap_or (lookup (is_at (nat_cmp v)) es) (pos 0) ≡ f v) → ((v : ℕ) → length p.spans ≤ v → f v ≡ pos 0)
    → map as_term (nonzero (map (round_entry q) es)) ≡ terms_of p (λ v. round_up (f v) q)
rounded_terms p f q es h sorted sums past =
    terms_from_map p (λ v. round_up (f v) q) (map (round_entry q) es)
    (subst (IsStrictlySortedBy nat_cmp) (sym (keys_of-map_values (λ z. round_up z q) es)) sorted)
    (λ v. rounded_at q (is_at (nat_cmp v)) es h ∙ ap (λ z. round_up z q) (sums v))
    (λ v l. ap (λ z. round_up z q) (past v l) ∙ round_zero q h)

-- ---- no row has a variable past the program's

entry_past : (p : Program) (row : ProofRow) (u : ℤ) (v : ℕ) → IsBoundedRow p row → length p.spans ≤ v → u *ℤ row_coefficient row v ≡ pos 0
entry_past p (whole_row row) u v h l =
    ap (λ z. u *ℤ z) (coefficient_past (length p.spans) v row.terms (recursion_from_All (λ t. t.var < length p.spans) row.terms h.below) l) ∙ *ℤ-zero u
entry_past p (link_row w k) u v h l = absurd h
entry_past p no_row u v h l = absurd h

pub combined_past : (p : Program) (rows : List ProofRow) (v : ℕ) (ms : List (ℕ × ℤ)) → AllByRecursion (IsBoundedEntry p rows) ms → length p.spans ≤ v
    → sum_of (λ m. m.1 *ℤ row_coefficient (get_or rows m.0 no_row) v) ms ≡ pos 0
combined_past p rows v [] h l = refl
combined_past p rows v (m ∷ ms) h l =
    omega (arith, ints, entry_past p (get_or rows m.0 no_row) m.1 v h.0.row l, combined_past p rows v ms h.1 l)
