-- Laws of columns as they grow, and of what stands in them.
use Rattle.std.proofs.Common.{◌≡◌, refl, sym, ap, ◌∙◌, ℕ, suc, ◌+◌, ◌<◌, Bool, true, false, List, [], ◌∷◌, ◌++◌, length, get_or, set, take, arith, append_assoc, ⊎_elim, inl, inr}
use Rattle.std.specs.Prelude.{◌==◌, ◌⊎◌, if◌then◌else◌}
use Rattle.std.proofs.lemmas.Bool.{cases_eq}
use Rattle.std.proofs.lemmas.Bool.Decides.{eqb_tells}
use Rattle.std.proofs.lemmas.List.{append-nil, length-take-le, take_more, get_or-set_same, get_or-set_other}
use Rattle.bp_theory.specs.declared.Term.{Term}
use Rattle.bp_theory.specs.declared.Row.{Row}
use Rattle.enumeration.specs.Columns.{entry_of, row_entries, column_from}
use Rattle.enumeration.specs.declared.columns.Entry.{Entry}

pub row_entries-append : (row j : ℕ) (ts us : List Term) → row_entries row j (ts ++ us) ≡ row_entries row j ts ++ row_entries row j us
row_entries-append row j [] us = refl
row_entries-append row j (t ∷ ts) us = by (t.var == j) (row_entries-append row j ts us)
  where
    by : (b : Bool) → row_entries row j (ts ++ us) ≡ row_entries row j ts ++ row_entries row j us
        → (if b then entry_of row t ∷ row_entries row j (ts ++ us) else row_entries row j (ts ++ us))
        ≡ (if b then entry_of row t ∷ row_entries row j ts else row_entries row j ts) ++ row_entries row j us
    by true rest = ap (λ es. entry_of row t ∷ es) rest
    by false rest = rest

pub column_from-append : (first j : ℕ) (rows more : List Row) → column_from first (rows ++ more) j ≡ column_from first rows j ++ column_from (length rows + first) more j
column_from-append first j [] more = ap (λ n. column_from n more j) (plain first)
  where
    plain : (n : ℕ) → n ≡ 0 + n
    plain n = omega arith
column_from-append first j (row ∷ rows) more =
    ap (λ es. row_entries first j row.terms ++ es) (column_from-append (suc first) j rows more)
    ∙ sym (append_assoc (row_entries first j row.terms) (column_from (suc first) rows j) (column_from (length rows + suc first) more j))
    ∙ ap (λ n. (row_entries first j row.terms ++ column_from (suc first) rows j) ++ column_from n more j) (moved (length rows) first)
  where
    moved : (m n : ℕ) → m + suc n ≡ suc m + n
    moved m n = omega arith

-- another variable's term adds no entry
row_entries-other_var : (row j : ℕ) (t : Term) → (t.var ≡ j → ⊥) → row_entries row j (t ∷ []) ≡ []
row_entries-other_var row j t n = ⊎_elim
    (λ same. absurd (n same.1))
    (λ other. ap (λ b. if b then entry_of row t ∷ [] else []) other.0)
    (eqb_tells t.var j)

-- a loop's step: one more term added to its variable's column
pub columns_more : (row n : ℕ) (before columns now : List (List Entry)) (terms : List Term) (i : ℕ) (d : Term) → i < length terms
    → (get_or terms i d).var < length columns
    → ((j : ℕ) → j < n → get_or columns j [] ≡ get_or before j [] ++ row_entries row j (take i terms))
    → now ≡ set columns (get_or terms i d).var (get_or columns (get_or terms i d).var [] ++ row_entries row (get_or terms i d).var (get_or terms i d ∷ []))
    → (j : ℕ) → j < n → get_or now j [] ≡ get_or before j [] ++ row_entries row j (take (i + 1) terms)
columns_more row n before columns now terms i d l there had is j m =
    ap (λ (cs : List (List Entry)). get_or cs j []) is ∙ by (get_or terms i d) there (take_more terms i d l)
  where
    nothing : (es : List Entry) → es ≡ es ++ []
    nothing es = sym (append-nil es)

    by : (t : Term) → t.var < length columns → take (i + 1) terms ≡ take i terms ++ t ∷ []
        → get_or (set columns t.var (get_or columns t.var [] ++ row_entries row t.var (t ∷ []))) j []
        ≡ get_or before j [] ++ row_entries row j (take (i + 1) terms)
    by t fits more = changed (cases_eq t.var j) ∙ sym whole
      where
        whole : get_or before j [] ++ row_entries row j (take (i + 1) terms) ≡ get_or columns j [] ++ row_entries row j (t ∷ [])
        whole =
            ap (λ ts. get_or before j [] ++ row_entries row j ts) more
            ∙ ap (λ es. get_or before j [] ++ es) (row_entries-append row j (take i terms) (t ∷ []))
            ∙ sym (append_assoc (get_or before j []) (row_entries row j (take i terms)) (row_entries row j (t ∷ [])))
            ∙ ap (λ es. es ++ row_entries row j (t ∷ [])) (sym (had j m))

        changed : (t.var ≡ j) ⊎ (t.var ≡ j → ⊥)
            → get_or (set columns t.var (get_or columns t.var [] ++ row_entries row t.var (t ∷ []))) j []
            ≡ get_or columns j [] ++ row_entries row j (t ∷ [])
        changed (inl same) =
            ap (λ k. get_or (set columns t.var (get_or columns t.var [] ++ row_entries row t.var (t ∷ []))) k []) (sym same)
            ∙ get_or-set_same columns t.var (get_or columns t.var [] ++ row_entries row t.var (t ∷ [])) [] fits
            ∙ ap (λ k. get_or columns k [] ++ row_entries row k (t ∷ [])) same
        changed (inr other) =
            get_or-set_other columns t.var j (get_or columns t.var [] ++ row_entries row t.var (t ∷ [])) [] (λ e. other (sym e))
            ∙ nothing (get_or columns j [])
            ∙ ap (λ es. get_or columns j [] ++ es) (sym (row_entries-other_var row j t other))

-- a loop's step: one more row
pub column_from_more : (rows : List Row) (i j : ℕ) (row : Row) → i < length rows → row ≡ get_or rows i row
    → column_from 0 (take (i + 1) rows) j ≡ column_from 0 (take i rows) j ++ row_entries i j row.terms
column_from_more rows i j row l is =
    ap (λ rs. column_from 0 rs j) (take_more rows i row l ∙ ap (λ u. take i rows ++ u ∷ []) (sym is))
    ∙ column_from-append 0 j (take i rows) (row ∷ [])
    ∙ ap (λ n. column_from 0 (take i rows) j ++ column_from n (row ∷ []) j) (count (length-take-le i rows (omega arith)))
    ∙ ap (λ es. column_from 0 (take i rows) j ++ es) (append-nil (row_entries i j row.terms))
  where
    count : length (take i rows) ≡ i → length (take i rows) + 0 ≡ i
    count e = omega (arith, e)
