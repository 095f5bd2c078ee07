-- Laws of columns as they grow, and of what stands in them.
use Rattle.std.proofs.Common.{◌≡◌, ◌≢◌, refl, sym, ap, subst, ◌∙◌, ℕ, zero, suc, ◌+◌, ◌<◌, Bool, true, false, ◌||◌, filter, List, [], ◌∷◌, ◌++◌, length, get_or, set, take, All, Option, Some, None, arith, append_assoc, length-append, zero-add, true≢false, ⊎_elim, inl, inr}
use Rattle.std.specs.Prelude.{ℤ, pos, ◌==◌, ◌⊎◌, if◌then◌else◌, is_none}
use Rattle.std.specs.List.{AllByRecursion, list_any}
use Rattle.std.specs.Ordering.{int_eq}
use Rattle.std.proofs.lemmas.Int.{ints}
use Rattle.std.proofs.lemmas.Bool.{cases_eq, cases_lt}
use Rattle.std.proofs.lemmas.Bool.Decides.{eqb_tells, Decides-int_eq}
use Rattle.std.proofs.lemmas.List.{append-nil, length-take-le, take_more, get_or-set_same, get_or-set_other, get_or_append_left, get_or-append-add}
use Rattle.std.proofs.lemmas.List.Elements.{All-from_recursion, recursion_from_All}
use Rattle.bp_theory.specs.Program.{coefficient}
use Rattle.bp_theory.specs.Decomposition.{stands_in, IsTidyFrom}
use Rattle.bp_theory.specs.declared.Term.{Term}
use Rattle.bp_theory.specs.declared.Row.{Row}
use Rattle.bp_theory.proofs.KeyLaws.{if_same, if_other}
use Rattle.block_build.specs.Stand.{StandsInRow}
use Rattle.block_build.specs.Gather.{coefs_from}
use Rattle.block_build.specs.Columns.{row_entries, column_from, master_entries, row_at, PlacedAt}
use Rattle.block_program.proofs.StandLemmas.{before_none}

pub row_entries-append : (row j : ℕ) (ts us : List Term) → row_entries row j (ts ++ us) ≡ row_entries row j ts ++ row_entries row j us
row_entries-append row j [] us = refl
row_entries-append row j (t ∷ ts) us = by (t.var == j) (row_entries-append row j ts us)
  where
    by : (b : Bool) → row_entries row j (ts ++ us) ≡ row_entries row j ts ++ row_entries row j us
        → (if b then (row, t.coef) ∷ row_entries row j (ts ++ us) else row_entries row j (ts ++ us))
        ≡ (if b then (row, t.coef) ∷ row_entries row j ts else row_entries row j ts) ++ row_entries row j us
    by true rest = ap (λ es. (row, t.coef) ∷ es) rest
    by false rest = rest

pub column_from-append : (first j : ℕ) (rows more : List Row) → column_from first (rows ++ more) j ≡ column_from first rows j ++ column_from (length rows + first) more j
column_from-append first j [] more = ap (λ n. column_from n more j) (plain first)
  where
    plain : (n : ℕ) → n ≡ 0 + n
    plain n = omega arith
column_from-append first j (row ∷ rows) more =
    ap (λ es. row_entries first j row.terms ++ es) (column_from-append (suc first) j rows more)
    ∙ sym (append_assoc (row_entries first j row.terms) (column_from (suc first) rows j) (column_from (length rows + suc first) more j))
    ∙ ap (λ n. (row_entries first j row.terms ++ column_from (suc first) rows j) ++ column_from n more j) (moved (length rows) first)
  where
    moved : (m n : ℕ) → m + suc n ≡ suc m + n
    moved m n = omega arith

-- another variable's term adds no entry
row_entries-other_var : (row j : ℕ) (t : Term) → (t.var ≡ j → ⊥) → row_entries row j (t ∷ []) ≡ []
row_entries-other_var row j t n = ⊎_elim
    (λ same. absurd (n same.1))
    (λ other. ap (λ b. if b then (row, t.coef) ∷ [] else []) other.0)
    (eqb_tells t.var j)

-- a loop's step: one more term added to its variable's column
pub columns_more : (row n : ℕ) (before columns now : List (List (ℕ × ℤ))) (terms : List Term) (i : ℕ) (d : Term) → i < length terms
    → (get_or terms i d).var < length columns
    → ((j : ℕ) → j < n → get_or columns j [] ≡ get_or before j [] ++ row_entries row j (take i terms))
    → now ≡ set columns (get_or terms i d).var (get_or columns (get_or terms i d).var [] ++ row_entries row (get_or terms i d).var (get_or terms i d ∷ []))
    → (j : ℕ) → j < n → get_or now j [] ≡ get_or before j [] ++ row_entries row j (take (i + 1) terms)
columns_more row n before columns now terms i d l there had is j m =
    ap (λ (cs : List (List (ℕ × ℤ))). get_or cs j []) is ∙ by (get_or terms i d) there (take_more terms i d l)
  where
    nothing : (es : List (ℕ × ℤ)) → es ≡ es ++ []
    nothing es = sym (append-nil es)

    by : (t : Term) → t.var < length columns → take (i + 1) terms ≡ take i terms ++ t ∷ []
        → get_or (set columns t.var (get_or columns t.var [] ++ row_entries row t.var (t ∷ []))) j []
        ≡ get_or before j [] ++ row_entries row j (take (i + 1) terms)
    by t fits more = changed (cases_eq t.var j) ∙ sym whole
      where
        whole : get_or before j [] ++ row_entries row j (take (i + 1) terms) ≡ get_or columns j [] ++ row_entries row j (t ∷ [])
        whole =
            ap (λ ts. get_or before j [] ++ row_entries row j ts) more
            ∙ ap (λ es. get_or before j [] ++ es) (row_entries-append row j (take i terms) (t ∷ []))
            ∙ sym (append_assoc (get_or before j []) (row_entries row j (take i terms)) (row_entries row j (t ∷ [])))
            ∙ ap (λ es. es ++ row_entries row j (t ∷ [])) (sym (had j m))

        changed : (t.var ≡ j) ⊎ (t.var ≡ j → ⊥)
            → get_or (set columns t.var (get_or columns t.var [] ++ row_entries row t.var (t ∷ []))) j []
            ≡ get_or columns j [] ++ row_entries row j (t ∷ [])
        changed (inl same) =
            ap (λ k. get_or (set columns t.var (get_or columns t.var [] ++ row_entries row t.var (t ∷ []))) k []) (sym same)
            ∙ get_or-set_same columns t.var (get_or columns t.var [] ++ row_entries row t.var (t ∷ [])) [] fits
            ∙ ap (λ k. get_or columns k [] ++ row_entries row k (t ∷ [])) same
        changed (inr other) =
            get_or-set_other columns t.var j (get_or columns t.var [] ++ row_entries row t.var (t ∷ [])) [] (λ e. other (sym e))
            ∙ nothing (get_or columns j [])
            ∙ ap (λ es. get_or columns j [] ++ es) (sym (row_entries-other_var row j t other))

-- a loop's step: one more row
pub column_from_more : (first : ℕ) (rows : List Row) (i j : ℕ) (row : Row) → i < length rows → row ≡ get_or rows i row
    → column_from first (take (i + 1) rows) j ≡ column_from first (take i rows) j ++ row_entries (first + i) j row.terms
column_from_more first rows i j row l is =
    ap (λ rs. column_from first rs j) (take_more rows i row l ∙ ap (λ u. take i rows ++ u ∷ []) (sym is))
    ∙ column_from-append first j (take i rows) (row ∷ [])
    ∙ ap (λ n. column_from first (take i rows) j ++ column_from n (row ∷ []) j) (count (length-take-le i rows (omega arith)))
    ∙ ap (λ es. column_from first (take i rows) j ++ es) (append-nil (row_entries (first + i) j row.terms))
  where
    count : length (take i rows) ≡ i → length (take i rows) + first ≡ first + i
    count e = omega (arith, e)

-- ---- what stands in a column

all_append : {X : Type 0} (P : X → Type 0) (xs ys : List X) → AllByRecursion P xs → AllByRecursion P ys → AllByRecursion P (xs ++ ys)
all_append P [] ys h g = g
all_append P (x ∷ xs) ys h g = (h.0, all_append P xs ys h.1 g)

all_mapped : {X : Type 0} (P Q : X → Type 0) → ((x : X) → P x → Q x) → (xs : List X) → AllByRecursion P xs → AllByRecursion Q xs
all_mapped P Q f [] h = tt
all_mapped P Q f (x ∷ xs) h = (f x h.0, all_mapped P Q f xs h.1)

or_later : (b c : Bool) → c ≡ true → (b || c) ≡ true
or_later true c e = refl
or_later false c e = e

-- entries of a row are of its number, and their variable stands there
entries_stand : (row v : ℕ) (ts : List Term) → AllByRecursion (λ (e : ℕ × ℤ). (e.0 ≡ row) × (list_any (λ (t : Term). t.var == v) ts ≡ true)) (row_entries row v ts)
entries_stand row v [] = tt
entries_stand row v (t ∷ ts) = by (t.var == v) refl (entries_stand row v ts)
  where
    by : (b : Bool) → t.var == v ≡ b → AllByRecursion (λ (e : ℕ × ℤ). (e.0 ≡ row) × (list_any (λ (u : Term). u.var == v) ts ≡ true)) (row_entries row v ts)
        → AllByRecursion (λ (e : ℕ × ℤ). (e.0 ≡ row) × ((t.var == v || list_any (λ (u : Term). u.var == v) ts) ≡ true)) (if b then (row, t.coef) ∷ row_entries row v ts else row_entries row v ts)
    by true e rest = (
      (refl, ap (λ b. b || list_any (λ (u : Term). u.var == v) ts) e),
      all_mapped (λ (x : ℕ × ℤ). (x.0 ≡ row) × (list_any (λ (u : Term). u.var == v) ts ≡ true)) (λ (x : ℕ × ℤ). (x.0 ≡ row) × ((t.var == v || list_any (λ (u : Term). u.var == v) ts) ≡ true))
          (λ x h. (h.0, or_later (t.var == v) (list_any (λ (u : Term). u.var == v) ts) h.1)) (row_entries row v ts) rest,
    )
    by false e rest =
        all_mapped (λ (x : ℕ × ℤ). (x.0 ≡ row) × (list_any (λ (u : Term). u.var == v) ts ≡ true)) (λ (x : ℕ × ℤ). (x.0 ≡ row) × ((t.var == v || list_any (λ (u : Term). u.var == v) ts) ≡ true))
        (λ x h. (h.0, or_later (t.var == v) (list_any (λ (u : Term). u.var == v) ts) h.1)) (row_entries row v ts) rest

-- an entry's row is one where the variable stands
abbrev Stands : ℕ → List Row → ℕ → ℕ × ℤ → Type 0
Stands first rows v e = (r : ℕ) × (e.0 ≡ first + r) × (r < length rows) × ((d : Row) → stands_in v (get_or rows r d) ≡ true)

all_stand : (first : ℕ) (rows : List Row) (v : ℕ) → AllByRecursion (Stands first rows v) (column_from first rows v)
all_stand first [] v = tt
all_stand first (row ∷ rows) v =
    all_append (Stands first (row ∷ rows) v) (row_entries first v row.terms) (column_from (suc first) rows v)
    (all_mapped (λ (e : ℕ × ℤ). (e.0 ≡ first) × (stands_in v row ≡ true)) (Stands first (row ∷ rows) v)
    (λ e h. (0, omega (arith, h.0), omega arith, λ d. h.1)) (row_entries first v row.terms) (entries_stand first v row.terms))
    (all_mapped (Stands (suc first) rows v) (Stands first (row ∷ rows) v)
    (λ e h. (suc h.0, omega (arith, h.1), omega (arith, h.2), h.3)) (column_from (suc first) rows v) (all_stand (suc first) rows v))

-- the entry at a place of a column
entry_stands : (rows : List Row) (v i : ℕ) → i < length (column_from 0 rows v)
    → (row_at (column_from 0 rows v) i < length rows) × ((d : Row) → stands_in v (get_or rows (row_at (column_from 0 rows v) i) d) ≡ true)
entry_stands rows v i l =
    let h = All-from_recursion (Stands 0 rows v) (column_from 0 rows v) (all_stand 0 rows v) i (0, pos 0) l in
    let same : h.0 ≡ row_at (column_from 0 rows v) i = omega (arith, h.1) in
    (omega (arith, same, h.2), λ d. subst (λ r. stands_in v (get_or rows r d) ≡ true) same (h.3 d))

-- where a variable stands it has an entry
row_has : (row v : ℕ) (ts : List Term) → list_any (λ (t : Term). t.var == v) ts ≡ true → (0 < length (row_entries row v ts)) × (row_at (row_entries row v ts) 0 ≡ row)
row_has row v [] e = absurd (true≢false (sym e))
row_has row v (t ∷ ts) e = by (t.var == v) e (row_has row v ts)
  where
    by : (b : Bool) → (b || list_any (λ (u : Term). u.var == v) ts) ≡ true
        → (list_any (λ (u : Term). u.var == v) ts ≡ true → (0 < length (row_entries row v ts)) × (row_at (row_entries row v ts) 0 ≡ row))
        → (0 < length (if b then (row, t.coef) ∷ row_entries row v ts else row_entries row v ts)) × (row_at (if b then (row, t.coef) ∷ row_entries row v ts else row_entries row v ts) 0 ≡ row)
    by true h rest = (omega arith, refl)
    by false h rest = rest h

has_entry : (first : ℕ) (rows : List Row) (v r : ℕ) → r < length rows → ((d : Row) → stands_in v (get_or rows r d) ≡ true)
    → (i : ℕ) × (i < length (column_from first rows v)) × (row_at (column_from first rows v) i ≡ first + r)
has_entry first [] v r l stands = absurd (omega arith)
has_entry first (row ∷ rows) v zero l stands =
    let h = row_has first v row.terms (stands row) in
    let front = row_entries first v row.terms in
    let back = column_from (suc first) rows v in
    (0, omega (arith, h.0, length-append front back), ap (λ (e : ℕ × ℤ). e.0) (get_or_append_left front back (0, pos 0) 0 h.0) ∙ h.1 ∙ omega arith)
has_entry first (row ∷ rows) v (suc r) l stands =
    let h = has_entry (suc first) rows v r (omega (arith, l)) stands in
    let front = row_entries first v row.terms in
    let back = column_from (suc first) rows v in
    (length front + h.0, omega (arith, h.1, length-append front back), ap (λ (e : ℕ × ℤ). e.0) (get_or-append-add front back h.0 (0, pos 0)) ∙ h.2 ∙ omega arith)

-- ---- columns and rows tell the same of blocks

pub placed_stands : (rows : List Row) (places : List (Option ℕ)) (v i k : ℕ) → PlacedAt places (column_from 0 rows v) i k → StandsInRow rows places v (row_at (column_from 0 rows v) i) k
placed_stands rows places v i k h = let s = entry_stands rows v i h.there in record { there = s.0; place = h.place; stands = s.1 }

pub stands_placed : (rows : List Row) (places : List (Option ℕ)) (v r k : ℕ) → StandsInRow rows places v r k
    → (i : ℕ) × PlacedAt places (column_from 0 rows v) i k × (row_at (column_from 0 rows v) i ≡ r)
stands_placed rows places v r k h =
    let e = has_entry 0 rows v r h.there h.stands in
    let same : row_at (column_from 0 rows v) e.0 ≡ r = omega (arith, e.2) in
    (e.0, record { there = e.1; place = ap (λ n. get_or places n None) same ∙ h.place }, same)

-- ---- coefficients in master rows

filter_append : (q : ℕ × ℤ → Bool) (xs ys : List (ℕ × ℤ)) → filter q (xs ++ ys) ≡ filter q xs ++ filter q ys
filter_append q [] ys = refl
filter_append q (x ∷ xs) ys = by (q x) (filter_append q xs ys)
  where
    by : (b : Bool) → filter q (xs ++ ys) ≡ filter q xs ++ filter q ys
        → (if b then x ∷ filter q (xs ++ ys) else filter q (xs ++ ys)) ≡ (if b then x ∷ filter q xs else filter q xs) ++ filter q ys
    by true rest = ap (λ zs. x ∷ zs) rest
    by false rest = rest

-- all of a row's entries pass, or none
all_pass : (q : ℕ × ℤ → Bool) (xs : List (ℕ × ℤ)) → AllByRecursion (λ e. q e ≡ true) xs → filter q xs ≡ xs
all_pass q [] h = refl
all_pass q (x ∷ xs) h = ap (λ b. if b then x ∷ filter q xs else filter q xs) h.0 ∙ ap (λ ys. x ∷ ys) (all_pass q xs h.1)

none_pass : (q : ℕ × ℤ → Bool) (xs : List (ℕ × ℤ)) → AllByRecursion (λ e. q e ≡ false) xs → filter q xs ≡ []
none_pass q [] h = refl
none_pass q (x ∷ xs) h = ap (λ b. if b then x ∷ filter q xs else filter q xs) h.0 ∙ none_pass q xs h.1

-- a tidy row has one entry where the coefficient isn't 0, and none elsewhere
no_entries : (row v n : ℕ) (ts : List Term) → IsTidyFrom n ts → v < n → row_entries row v ts ≡ []
no_entries row v n [] h l = refl
no_entries row v n (t ∷ ts) h l = ⊎_elim
    (λ same. absurd (let none : ⊥ = omega (arith, same.1, h.0, l) in none))
    (λ other. ap (λ b. if b then (row, t.coef) ∷ row_entries row v ts else row_entries row v ts) other.0 ∙ no_entries row v (suc t.var) ts h.2 (omega (arith, h.0, l)))
    (eqb_tells t.var v)

pub one_entry : (row v n : ℕ) (ts : List Term) → IsTidyFrom n ts
    → row_entries row v ts ≡ (if int_eq (coefficient ts v) (pos 0) then [] else (row, coefficient ts v) ∷ [])
one_entry row v n [] h = refl
one_entry row v n (t ∷ ts) h = ⊎_elim
    (λ same.
    let rest : coefficient ts v ≡ pos 0 = before_none (suc t.var) v ts h.2 (omega (arith, same.1)) in
    let all : coefficient (t ∷ ts) v ≡ t.coef = let head = if_same t.var v t.coef (pos 0) same.1 in omega (arith, ints, head, rest) in
    ap (λ b. if b then (row, t.coef) ∷ row_entries row v ts else row_entries row v ts) same.0
    ∙ ap (λ es. (row, t.coef) ∷ es) (no_entries row v (suc t.var) ts h.2 (omega (arith, same.1)))
    ∙ ap (λ b. if b then [] else (row, t.coef) ∷ []) (sym (not_zero t.coef h.1))
    ∙ ap (λ z. if int_eq z (pos 0) then [] else (row, z) ∷ []) (sym all))
    (λ other.
    let all : coefficient (t ∷ ts) v ≡ coefficient ts v = let head = if_other t.var v t.coef (pos 0) other.1 in omega (arith, ints, head) in
    ap (λ b. if b then (row, t.coef) ∷ row_entries row v ts else row_entries row v ts) other.0
    ∙ one_entry row v (suc t.var) ts h.2 ∙ ap (λ z. if int_eq z (pos 0) then [] else (row, z) ∷ []) (sym all))
    (eqb_tells t.var v)
  where
    not_zero : (z : ℤ) → z ≢ pos 0 → int_eq z (pos 0) ≡ false
    not_zero z apart = by (int_eq z (pos 0)) refl
      where
        by : (b : Bool) → int_eq z (pos 0) ≡ b → b ≡ false
        by true e = absurd (apart ((Decides-int_eq z (pos 0)).0 e))
        by false e = refl

master_from : (all : List (Option ℕ)) (first : ℕ) (rows : List Row) (places : List (Option ℕ)) (v : ℕ) → ((r : ℕ) → get_or all (first + r) None ≡ get_or places r None)
    → length places ≡ length rows → AllByRecursion (λ (row : Row). IsTidyFrom 0 row.terms) rows → master_entries all (column_from first rows v) ≡ coefs_from v first rows places
master_from all first [] places v at each tidy = refl
master_from all first (row ∷ rows) [] v at each tidy = absurd (omega (arith, each))
master_from all first (row ∷ rows) (place ∷ places) v at each tidy =
    let q : ℕ × ℤ → Bool = λ e. is_none (get_or all e.0 None) in
    let front = row_entries first v row.terms in
    let back = column_from (suc first) rows v in
    let here : get_or all first None ≡ place = ap (λ n. get_or all n None) (let e : first ≡ first + 0 = omega arith in e) ∙ at 0 in
    filter_append q front back
    ∙ by place here (master_from all (suc first) rows places v (λ r. ap (λ n. get_or all n None) (let e : suc first + r ≡ first + suc r = omega arith in e) ∙ at (suc r)) (omega (arith, each)) tidy.1)
  where
    by : (p : Option ℕ) → get_or all first None ≡ p → master_entries all (column_from (suc first) rows v) ≡ coefs_from v (suc first) rows places
        → master_entries all (row_entries first v row.terms) ++ master_entries all (column_from (suc first) rows v) ≡ coefs_from v first (row ∷ rows) (p ∷ places)
    by None here rest =
        ap (λ (es : List (ℕ × ℤ)). es ++ master_entries all (column_from (suc first) rows v))
        (all_pass (λ (e : ℕ × ℤ). is_none (get_or all e.0 None)) (row_entries first v row.terms)
        (all_mapped (λ (e : ℕ × ℤ). (e.0 ≡ first) × (stands_in v row ≡ true)) (λ (e : ℕ × ℤ). is_none (get_or all e.0 None) ≡ true)
        (λ e h. ap (λ n. is_none (get_or all n None)) h.0 ∙ ap is_none here) (row_entries first v row.terms) (entries_stand first v row.terms))
        ∙ one_entry first v 0 row.terms tidy.0)
        ∙ ap (λ (es : List (ℕ × ℤ)). (if int_eq (coefficient row.terms v) (pos 0) then [] else (first, coefficient row.terms v) ∷ []) ++ es) rest
        ∙ split (int_eq (coefficient row.terms v) (pos 0)) (first, coefficient row.terms v) (coefs_from v (suc first) rows places)
      where
        split : (b : Bool) (e : ℕ × ℤ) (es : List (ℕ × ℤ)) → (if b then [] else e ∷ []) ++ es ≡ (if b then es else e ∷ es)
        split true e es = refl
        split false e es = refl
    by (Some k) here rest =
        ap (λ (es : List (ℕ × ℤ)). es ++ master_entries all (column_from (suc first) rows v))
        (none_pass (λ (e : ℕ × ℤ). is_none (get_or all e.0 None)) (row_entries first v row.terms)
        (all_mapped (λ (e : ℕ × ℤ). (e.0 ≡ first) × (stands_in v row ≡ true)) (λ (e : ℕ × ℤ). is_none (get_or all e.0 None) ≡ false)
        (λ e h. ap (λ n. is_none (get_or all n None)) h.0 ∙ ap is_none here) (row_entries first v row.terms) (entries_stand first v row.terms)))
        ∙ rest

-- the entries of a column in master rows are the coefficients there
pub master_is : (rows : List Row) (places : List (Option ℕ)) (v : ℕ) → length places ≡ length rows → All (λ (row : Row). IsTidyFrom 0 row.terms) rows
    → master_entries places (column_from 0 rows v) ≡ coefs_from v 0 rows places
master_is rows places v each tidy =
    master_from places 0 rows places v (λ r. ap (λ n. get_or places n None) (zero-add r)) each (recursion_from_All (λ (row : Row). IsTidyFrom 0 row.terms) rows tidy)

-- ---- one home more

pub one_longer : {X : Type 0} (homes : List X) (home : X) (new : List X) (v : ℕ) → new ≡ homes ++ home ∷ [] → length homes ≡ v → length new ≡ v + 1
one_longer {X} homes home new v new_is each = omega (arith, ap (λ (hs : List X). length hs) new_is, length-append homes (home ∷ []), each)

-- what each column gives, one more
pub homes_more : (f : List (ℕ × ℤ) → List ℕ) (columns : List (List (ℕ × ℤ))) (v : ℕ) (homes new : List (List ℕ)) (home : List ℕ) → length homes ≡ v → new ≡ homes ++ home ∷ []
    → home ≡ f (get_or columns v []) → ((w : ℕ) → w < v → get_or homes w [] ≡ f (get_or columns w []))
    → (w : ℕ) → w < v + 1 → get_or new w [] ≡ f (get_or columns w [])
homes_more f columns v homes new home each new_is here earlier w l = ⊎_elim
    (λ less.
    ap (λ (hs : List (List ℕ)). get_or hs w []) new_is ∙ get_or_append_left homes (home ∷ []) [] w (omega (arith, less, each)) ∙ earlier w less)
    (λ more.
    let same : w ≡ v = omega (arith, l, more) in
    ap (λ (hs : List (List ℕ)). get_or hs w []) new_is ∙ ap (λ n. get_or (homes ++ home ∷ []) n []) (let e : w ≡ length homes + 0 = omega (arith, same, each) in e)
    ∙ get_or-append-add homes (home ∷ []) 0 [] ∙ here ∙ ap (λ n. f (get_or columns n [])) (sym same))
    (cases_lt w v)
