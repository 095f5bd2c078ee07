-- Lists of names with one name more.
use Rattle.std.proofs.Common.{◌≡◌, ℕ, zero, suc, ◌+◌, ◌<◌, ◌⊎◌, Bool, true, false, not, cond, ◌||◌, List, [], ◌∷◌, ◌++◌, length, refl, sym, ◌∙◌, ap, subst, inl, inr, arith, Option, None, Some}
use Rattle.std.proofs.lemmas.Bool.{cases_Bool, or_cases, or_left, or_right, or_parts, or_from, both_ways, false_from_ne_true, true_from_ne_false, cond-true, cond-false, not_from_true, not_from_false}
use Rattle.std.proofs.lemmas.List.{append-nil}
use Rattle.std.proofs.lemmas.List.Folds.{list_any-append}
use Rattle.std.proofs.lemmas.List.Elements.{filter-append}
use Rattle.std.proofs.lemmas.Map.Views.{Contains-from_any}
use Rattle.std.proofs.lemmas.Slice.Eq.{bytes_eq-Decides}
use Rattle.std.specs.Prelude.{filter, Contains, slice_index_or, decimal}
use Rattle.std.specs.List.{list_any}
use Rattle.std.specs.Str.{bytes_eq}
use Rattle.lp_syntax.specs.Tree.{Name}
use Rattle.lp_semantics.specs.Meaning.{has_name}
use Rattle.lp_syntax.specs.Roles.{firsts, has_twice, names_from}
use Rattle.lp_read.specs.Noted.{with_name, row_name}

equal : (m n : Name) → bytes_eq m n ≡ true → m ≡ n
equal m n = (bytes_eq-Decides m n).0

equals : (m n : Name) → m ≡ n → bytes_eq m n ≡ true
equals m n = (bytes_eq-Decides m n).1

pub itself : (n : Name) → bytes_eq n n ≡ true
itself n = equals n n refl

turn : (m n : Name) → bytes_eq m n ≡ true → bytes_eq n m ≡ true
turn m n h = equals n m (sym (equal m n h))

turn_false : (m n : Name) → bytes_eq m n ≡ false → bytes_eq n m ≡ false
turn_false m n h = false_from_ne_true (bytes_eq n m) (λ e. both_ways (bytes_eq m n) h (turn n m e))

-- a name is among names where the test says so
pub contains_has : (names : List Name) (n : Name) → Contains names n → has_name names n ≡ true
contains_has [] n h = let l : h.0 < 0 = h.1 in absurd (omega arith)
contains_has (m ∷ names) n h = go h.0 h.1 h.2 (contains_has names n)
  where
    go : (k : ℕ) → k < length (m ∷ names) → slice_index_or (m ∷ names) k n ≡ n → (Contains names n → has_name names n ≡ true) → (bytes_eq n m || has_name names n) ≡ true
    go zero l e f = or_left (bytes_eq n m) (has_name names n) (equals n m (sym e))
    go (suc k) l e f = or_right (bytes_eq n m) (has_name names n) (f (k, omega arith, e))

pub absent_has : (names : List Name) (n : Name) → (Contains names n → ⊥) → has_name names n ≡ false
absent_has names n h = false_from_ne_true (has_name names n) (λ e. h (Contains-from_any equal n names e))

pub present_has : (names : List Name) (n : Name) (b : Bool) → ((Contains names n → ⊥) → b ≡ true) → b ≡ false → has_name names n ≡ true
present_has names n b f e = true_from_ne_false (has_name names n) (λ h. both_ways b e (f (λ c. both_ways (has_name names n) h (contains_has names n c))))

-- a filter that takes out another name
filter_has : (names : List Name) (x n : Name) → bytes_eq n x ≡ false → has_name (filter (λ m. not (bytes_eq x m)) names) n ≡ has_name names n
filter_has [] x n h = refl
filter_has (m ∷ names) x n h = go (bytes_eq x m) refl (filter_has names x n h)
  where
    go : (b : Bool) → bytes_eq x m ≡ b → has_name (filter (λ m. not (bytes_eq x m)) names) n ≡ has_name names n
        → has_name (cond (not b) (m ∷ filter (λ m. not (bytes_eq x m)) names) (filter (λ m. not (bytes_eq x m)) names)) n ≡ (bytes_eq n m || has_name names n)
    go false e r = ap (λ t. bytes_eq n m || t) r
    go true e r = r ∙ sym (ap (λ t. t || has_name names n) (subst (λ y. bytes_eq n y ≡ false) (equal x m e) h))

pub firsts_has : (names : List Name) (n : Name) → has_name (firsts names) n ≡ has_name names n
firsts_has [] n = refl
firsts_has (x ∷ names) n = go (cases_Bool (bytes_eq n x)) (firsts_has names n)
  where
    go : (bytes_eq n x ≡ true) ⊎ (bytes_eq n x ≡ false) → has_name (firsts names) n ≡ has_name names n
        → (bytes_eq n x || has_name (filter (λ m. not (bytes_eq x m)) (firsts names)) n) ≡ (bytes_eq n x || has_name names n)
    go (inl e) r = or_left (bytes_eq n x) _ e ∙ sym (or_left (bytes_eq n x) _ e)
    go (inr e) r = ap (λ t. bytes_eq n x || t) (filter_has (firsts names) x n e ∙ r)

-- the firsts with one name more
pub firsts_push : (names : List Name) (n : Name) → firsts (names ++ n ∷ []) ≡ with_name (firsts names) n
firsts_push [] n = refl
firsts_push (x ∷ names) n =
    ap (λ l. x ∷ filter (λ m. not (bytes_eq x m)) l) (firsts_push names n) ∙ go (cases_Bool (bytes_eq n x)) (cases_Bool (has_name (firsts names) n))
  where
    others : List Name
    others = filter (λ m. not (bytes_eq x m)) (firsts names)

    go : (bytes_eq n x ≡ true) ⊎ (bytes_eq n x ≡ false) → (has_name (firsts names) n ≡ true) ⊎ (has_name (firsts names) n ≡ false)
        → x ∷ filter (λ m. not (bytes_eq x m)) (with_name (firsts names) n) ≡ with_name (x ∷ filter (λ m. not (bytes_eq x m)) (firsts names)) n
    go (inl e) (inl h) =
        ap (λ l. x ∷ filter (λ m. not (bytes_eq x m)) l) (cond-true _ _ _ h)
        ∙ sym (cond-true _ _ _ (or_left (bytes_eq n x) _ e))
    go (inl e) (inr h) =
        ap (λ l. x ∷ filter (λ m. not (bytes_eq x m)) l) (cond-false _ _ _ h)
        ∙ ap (λ l. x ∷ l) (filter-append (λ m. not (bytes_eq x m)) (firsts names) (n ∷ []) ∙ ap (λ l. filter (λ m. not (bytes_eq x m)) (firsts names) ++ l) (cond-false _ _ _ (not_from_true (bytes_eq x n) (turn n x e))) ∙ append-nil _)
        ∙ sym (cond-true _ _ _ (or_left (bytes_eq n x) _ e))
    go (inr e) (inl h) =
        ap (λ l. x ∷ filter (λ m. not (bytes_eq x m)) l) (cond-true _ _ _ h)
        ∙ sym (cond-true _ _ _ (or_right (bytes_eq n x) _ (filter_has (firsts names) x n e ∙ h)))
    go (inr e) (inr h) =
        ap (λ l. x ∷ filter (λ m. not (bytes_eq x m)) l) (cond-false _ _ _ h)
        ∙ ap (λ l. x ∷ l) (filter-append (λ m. not (bytes_eq x m)) (firsts names) (n ∷ []) ∙ ap (λ l. filter (λ m. not (bytes_eq x m)) (firsts names) ++ l) (cond-true _ _ _ (not_from_false (bytes_eq x n) (turn_false n x e))))
        ∙ sym (cond-false _ _ _ (or_from (bytes_eq n x) _ e (filter_has (firsts names) x n e ∙ h)))

-- the names of rows with one row more
pub rows_push : (k : ℕ) (labels : List (Option Name)) (label : Option Name) → names_from k (labels ++ label ∷ []) ≡ names_from k labels ++ row_name (length (names_from k labels) + k) label ∷ []
rows_push k [] None = ap (λ j. (99 ∷ decimal j) ∷ []) (let e : k ≡ 0 + k = omega arith in e)
rows_push k [] (Some n) = refl
rows_push k (None ∷ labels) label = ap (λ l. (99 ∷ decimal k) ∷ l) (rows_push (k + 1) labels label ∙ ap (λ j. names_from (k + 1) labels ++ row_name j label ∷ []) (let e : length (names_from (k + 1) labels) + (k + 1) ≡ suc (length (names_from (k + 1) labels)) + k = omega arith in e))
rows_push k (Some n ∷ labels) label = ap (λ l. n ∷ l) (rows_push (k + 1) labels label ∙ ap (λ j. names_from (k + 1) labels ++ row_name j label ∷ []) (let e : length (names_from (k + 1) labels) + (k + 1) ≡ suc (length (names_from (k + 1) labels)) + k = omega arith in e))

-- no name twice, with one name more
pub once_push : (names : List Name) (n : Name) → has_twice names ≡ false → has_name names n ≡ false → has_twice (names ++ n ∷ []) ≡ false
once_push [] n t h = refl
once_push (x ∷ names) n t h =
    let p : (list_any (bytes_eq x) names ≡ false) × (has_twice names ≡ false) = or_parts _ _ t in
    let q : (bytes_eq n x ≡ false) × (has_name names n ≡ false) = or_parts _ _ h in
    or_from _ _ (list_any-append (bytes_eq x) names (n ∷ []) ∙ or_from _ _ p.0 (or_from (bytes_eq x n) false (turn_false n x q.0) refl)) (once_push names n p.1 q.1)

pub twice_push : (names : List Name) (n : Name) → has_name names n ≡ true → has_twice (names ++ n ∷ []) ≡ true
twice_push [] n h = absurd cc
twice_push (x ∷ names) n h = elim (or_cases (bytes_eq n x) (has_name names n) h) [
  | inl e ↦ or_left _ _ (list_any-append (bytes_eq x) names (n ∷ []) ∙ or_right (list_any (bytes_eq x) names) _ (or_left (bytes_eq x n) false (turn n x e)))
  | inr e ↦ or_right _ _ (twice_push names n e)
]
