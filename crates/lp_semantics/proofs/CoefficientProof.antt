-- The coefficients of written terms by number are those by name.
use Rattle.std.proofs.Common.{◌≡◌, ◌∙◌, refl, sym, ap, subst, ℕ, suc, ◌+◌, ◌-◌, ◌*◌, ◌<◌, ◌≤◌, Bool, true, false, List, [], ◌∷◌, map, length, get_or, Contains, arith, if◌then◌else◌, ⊎_elim, add-zero, zero-add}
use Rattle.std.specs.Prelude.{ℤ, pos, ◌+ℤ◌, unsigned_abs, sum_by, zip, unwrap_or}
use Rattle.std.specs.Str.{bytes_eq}
use Rattle.std.specs.List.{IsDistinct, AllByRecursion}
use Rattle.std.proofs.Math.IntN.{+ℤ_idl, +ℤ_idr}
use Rattle.std.proofs.lemmas.Int.{ints}
use Rattle.std.proofs.lemmas.Bool.{cases_lt, ne_eqb, eq-eqb}
use Rattle.std.proofs.lemmas.List.{get_or-map, get_or_past, length-map}
use Rattle.std.proofs.lemmas.List.Sums.{sum_by-cons}
use Rattle.bp_theory.specs.Program.{coefficient, span_at, reach}
use Rattle.bp_theory.specs.Decomposition.{IsTidyFrom}
use Rattle.bp_theory.specs.declared.Span.{Span}
use Rattle.bp_theory.specs.declared.Term.{Term}
use Rattle.bp_model.specs.Parts.{IsTidied}
use Rattle.lp_syntax.specs.Tree.{Name, Item, term, constant}
use Rattle.lp_semantics.specs.Meaning as meaning
use Rattle.lp_semantics.specs.Meaning.{signed, minimised, total, share_of, with_sign, largest_activity}
use Rattle.lp_semantics.specs.Model.{HasCoefficients}
use Rattle.lp_semantics.specs.Numbered.{raw_terms}
use Rattle.lp_semantics.proofs.NameNumbers.{same_number}
use Rattle.lp_semantics.proofs.TermLemmas.{zero_stays}

-- the variable of an item is in the list
abbrev pub IsKnownItem : List Name → Item → Type 0
IsKnownItem names (term t) = Contains names t.variable
IsKnownItem names (constant c) = Unit {0}

spread : (t : Bool) (a b : ℤ) → minimised t (a +ℤ b) ≡ minimised t a +ℤ minimised t b
spread true a b = omega (arith, ints)
spread false a b = refl

-- by number and by name
raw_coefficient : (names : List Name) (turned : Bool) (v : ℕ) (items : List Item) → IsDistinct bytes_eq names → v < length names
    → AllByRecursion (IsKnownItem names) items
    → coefficient (raw_terms names turned items) v ≡ minimised turned (total (map (share_of (get_or names v [])) items))
raw_coefficient names turned v [] distinct l known = sym (zero_stays turned)
raw_coefficient names turned v (term t ∷ items) distinct l known =
    let n : Name = get_or names v [] in
    let z : ℤ = signed t.signs (unwrap_or t.factor 1) in
    ap (λ b. (if b then minimised turned z else pos 0) +ℤ coefficient (raw_terms names turned items) v) (same_number names t.variable v distinct known.0 l)
    ∙ ap (λ y. y +ℤ coefficient (raw_terms names turned items) v) (choose (bytes_eq n t.variable) z)
    ∙ ap (λ y. minimised turned (if bytes_eq n t.variable then z else pos 0) +ℤ y) (raw_coefficient names turned v items distinct l known.1)
    ∙ sym (spread turned (if bytes_eq n t.variable then z else pos 0) (total (map (share_of n) items)))
  where
    choose : (b : Bool) (z : ℤ) → (if b then minimised turned z else pos 0) ≡ minimised turned (if b then z else pos 0)
    choose true z = refl
    choose false z = sym (zero_stays turned)
raw_coefficient names turned v (constant c ∷ items) distinct l known =
    raw_coefficient names turned v items distinct l known.1
    ∙ ap (minimised turned) (sym (+ℤ_idl (total (map (share_of (get_or names v [])) items))))

-- a variable that no term has
coefficient_missing : (terms : List Term) (n v : ℕ) → AllByRecursion (λ (t : Term). t.var < n) terms → n ≤ v → coefficient terms v ≡ pos 0
coefficient_missing [] n v all l = refl
coefficient_missing (t ∷ terms) n v all l =
    ap (λ b. (if b then t.coef else pos 0) +ℤ coefficient terms v) (ne_eqb t.var v (λ e. omega (arith, all.0, l, e)))
    ∙ +ℤ_idl (coefficient terms v)
    ∙ coefficient_missing terms n v all.1 l

-- terms that are added up have the coefficients by name
pub has_coefficients : (names : List Name) (turned : Bool) (items : List Item) (sums : List Term) → IsDistinct bytes_eq names
    → AllByRecursion (IsKnownItem names) items → AllByRecursion (λ (t : Term). t.var < length names) (raw_terms names turned items)
    → IsTidied (raw_terms names turned items) sums
    → HasCoefficients (map (λ n. minimised turned (meaning.item_coefficient items n)) names) sums
unfolding meaning.item_coefficient
has_coefficients names turned items sums distinct known below tidied = record {
  tidy = tidied.tidy;
  each = λ v. tidied.same v ∙ ⊎_elim
      (λ inside.
      raw_coefficient names turned v items distinct inside known
      ∙ sym (get_or-map (λ n. minimised turned (total (map (share_of n) items))) names v [] (pos 0) inside))
      (λ past.
      coefficient_missing (raw_terms names turned items) (length names) v below past
      ∙ sym (get_or_past (map (λ n. minimised turned (total (map (share_of n) items))) names) v (pos 0)
      (omega (arith, past, length-map names (λ n. minimised turned (total (map (share_of n) items)))))))
      (cases_lt v (length names));
}

-- the terms of a tidy list behind a variable don't have it
tidy_missing : (n v : ℕ) (terms : List Term) → IsTidyFrom n terms → v < n → coefficient terms v ≡ pos 0
tidy_missing n v [] tidy l = refl
tidy_missing n v (t ∷ terms) tidy l =
    ap (λ b. (if b then t.coef else pos 0) +ℤ coefficient terms v) (ne_eqb t.var v (λ e. omega (arith, tidy.0, l, e)))
    ∙ +ℤ_idl (coefficient terms v)
    ∙ tidy_missing (suc t.var) v terms tidy.2 (omega (arith, tidy.0, l))

-- the first term of a tidy list is its variable's coefficient
tidy_first : (t : Term) (terms : List Term) → IsTidyFrom (suc t.var) terms → coefficient (t ∷ terms) t.var ≡ t.coef
tidy_first t terms tidy =
    ap (λ b. (if b then t.coef else pos 0) +ℤ coefficient terms t.var) (eq-eqb t.var t.var refl)
    ∙ ap (λ z. t.coef +ℤ z) (tidy_missing (suc t.var) t.var terms tidy (omega arith))
    ∙ +ℤ_idr t.coef

-- how much tidy terms may come to
abbrev pub tidy_activity : (ℕ → ℕ) → List Term → ℕ
tidy_activity w terms = sum_by (λ (t : Term). unsigned_abs t.coef * w t.var) terms

abbrev pub dense_activity : List ℤ → List Span → ℕ
dense_activity coefficients spans = sum_by (λ (p : ℤ × Span). unsigned_abs p.0 * reach p.1) (zip coefficients spans)

-- no terms where all coefficients are 0
none_left : (n : ℕ) (terms : List Term) (w : ℕ → ℕ) → IsTidyFrom n terms → ((v : ℕ) → coefficient terms (n + v) ≡ pos 0) → tidy_activity w terms ≡ 0
none_left n [] w tidy zeros = refl
none_left n (t ∷ terms) w tidy zeros =
    let at : n + (t.var - n) ≡ t.var = omega (arith, tidy.0) in
    absurd (tidy.1 (sym (tidy_first t terms tidy.2) ∙ ap (coefficient (t ∷ terms)) (sym at) ∙ zeros (t.var - n)))

shift : (n k : ℕ) → suc n + k ≡ n + suc k
shift n k = omega arith

-- one variable more
with_first : (c : ℤ) (s : Span) (coefficients : List ℤ) (spans : List Span) → dense_activity (c ∷ coefficients) (s ∷ spans) ≡ unsigned_abs c * reach s + dense_activity coefficients spans
with_first c s coefficients spans = sum_by-cons (λ (p : ℤ × Span). unsigned_abs p.0 * reach p.1) (c, s) (zip coefficients spans)

zero_first : (c : ℤ) (s : Span) (m d : ℕ) → c ≡ pos 0 → m ≡ d → m ≡ unsigned_abs c * reach s + d
zero_first c s m d e same = omega (arith, same, ap (λ z. unsigned_abs z * reach s) e)

-- tidy terms come to as much as the coefficients that they give
pub same_activity : (n : ℕ) (coefficients : List ℤ) (spans : List Span) (terms : List Term) (w : ℕ → ℕ) → length coefficients ≡ length spans
    → IsTidyFrom n terms → ((v : ℕ) → coefficient terms (n + v) ≡ get_or coefficients v (pos 0))
    → ((k : ℕ) → w (n + k) ≡ reach (span_at spans k))
    → tidy_activity w terms ≡ dense_activity coefficients spans
same_activity n [] spans terms w long tidy each reaches = none_left n terms w tidy each
same_activity n (c ∷ coefficients) [] terms w long tidy each reaches = let none : ⊥ = omega arith in absurd none
same_activity n (c ∷ coefficients) (s ∷ spans) [] w long tidy each reaches =
    zero_first c s 0 (dense_activity coefficients spans) (sym (each 0))
    (same_activity (suc n) coefficients spans [] w (omega arith) tt (λ v. each (suc v)) (λ k. ap w (shift n k) ∙ reaches (suc k)))
    ∙ sym (with_first c s coefficients spans)
same_activity n (c ∷ coefficients) (s ∷ spans) (t ∷ terms) w long tidy each reaches = ⊎_elim
    (λ later.
    zero_first c s (tidy_activity w (t ∷ terms)) (dense_activity coefficients spans)
    (sym (each 0) ∙ ap (coefficient (t ∷ terms)) (add-zero n) ∙ tidy_missing (suc n) n (t ∷ terms) (later, tidy.1, tidy.2) (omega arith))
    (same_activity (suc n) coefficients spans (t ∷ terms) w (omega arith) (later, tidy.1, tidy.2)
    (λ v. ap (coefficient (t ∷ terms)) (shift n v) ∙ each (suc v)) (λ k. ap w (shift n k) ∙ reaches (suc k)))
    ∙ sym (with_first c s coefficients spans))
    (λ now.
    let same : t.var ≡ n = omega (arith, now, tidy.0) in
    let first : c ≡ t.coef = sym (each 0) ∙ ap (coefficient (t ∷ terms)) (add-zero n ∙ sym same) ∙ tidy_first t terms tidy.2 in
    let reached : w t.var ≡ reach s = ap w (same ∙ sym (add-zero n)) ∙ reaches 0 in
    let rest : tidy_activity w terms ≡ dense_activity coefficients spans =
    same_activity (suc n) coefficients spans terms w (omega arith) (subst (λ i. IsTidyFrom (suc i) terms) same tidy.2)
    (λ v. sym (behind v same) ∙ ap (coefficient (t ∷ terms)) (shift n v) ∙ each (suc v)) (λ k. ap w (shift n k) ∙ reaches (suc k)) in
    sum_by-cons (λ (u : Term). unsigned_abs u.coef * w u.var) t terms
    ∙ ap (λ y. y + tidy_activity w terms) (ap (λ z. unsigned_abs z * w t.var) (sym first) ∙ ap (λ y. unsigned_abs c * y) reached)
    ∙ ap (λ y. unsigned_abs c * reach s + y) rest
    ∙ sym (with_first c s coefficients spans))
    (cases_lt n t.var)
  where
    behind : (v : ℕ) → t.var ≡ n → coefficient (t ∷ terms) (suc n + v) ≡ coefficient terms (suc n + v)
    behind v same =
        ap (λ b. (if b then t.coef else pos 0) +ℤ coefficient terms (suc n + v)) (ne_eqb t.var (suc n + v) (λ e. omega (arith, same, e)))
        ∙ +ℤ_idl (coefficient terms (suc n + v))

-- the same from the first variable on
pub activity_is : (beside : ℕ) (coefficients : List ℤ) (spans : List Span) (terms : List Term) → length coefficients ≡ length spans → HasCoefficients coefficients terms
    → beside + sum_by (λ (t : Term). unsigned_abs t.coef * reach (span_at spans t.var)) terms ≡ largest_activity beside coefficients spans
unfolding largest_activity
activity_is beside coefficients spans terms long h =
    ap (λ k. beside + k) (same_activity 0 coefficients spans terms (λ v. reach (span_at spans v)) long h.tidy
    (λ v. ap (coefficient terms) (zero-add v) ∙ h.each v) (λ k. ap (λ v. reach (span_at spans v)) (zero-add k)))
