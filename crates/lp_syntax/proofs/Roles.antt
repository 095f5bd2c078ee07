-- What is at fault by its role stays so, whatever follows.
use Rattle.std.proofs.Common.{◌≡◌, ℕ, zero, suc, ◌+◌, ◌<◌, ◌≤◌, Bool, true, false, not, cond, ◌||◌, List, [], ◌∷◌, ◌++◌, take, drop, length, refl, sym, ◌∙◌, ap, arith, Option, None, Some, length-append, inl, inr, ◌⊎◌}
use Rattle.bp_theory.specs.Limits.{most_rows, most_terms, most_variables}
use Rattle.bp_theory.specs.declared.Limits.{Limits}
use Rattle.std.proofs.lemmas.Bool.{or_cases, or_left, or_right, ltb-true, lt-ltb, both_ways}
use Rattle.std.proofs.lemmas.List.Folds.{list_any-append}
use Rattle.std.proofs.lemmas.List.{take-append-drop}
use Rattle.std.proofs.lemmas.List.Elements.{filter-append, filter_map-append}
use Rattle.std.proofs.lemmas.List.Sums.{length-filter}
use Rattle.std.specs.Prelude.{filter, filter_map, count_by, nat_lt, decimal}
use Rattle.std.specs.List.{list_any}
use Rattle.std.specs.Str.{bytes_eq}
use Rattle.lp_token.specs.declared.LpKind.{LpKind}
use Rattle.lp_token.specs.declared.LpKind.TheVariants.{RowTwice, Limit}
use Rattle.lp_syntax.specs.Tree.{Name, Symbol, Site}
use Rattle.lp_syntax.specs.Roles.{Seen, seen, first_of_symbols, variable_of, counts_as_term, row_of, firsts, has_twice, names_from, variables, row_names, term_count, is_over_limit, role_fault}

-- the firsts of a front are the front of the firsts
firsts-append : (xs ys : List Name) → (zs : List Name) × (firsts (xs ++ ys) ≡ firsts xs ++ zs)
firsts-append [] ys = (firsts ys, refl)
firsts-append (x ∷ xs) ys =
    let r : (zs : List Name) × (firsts (xs ++ ys) ≡ firsts xs ++ zs) = firsts-append xs ys in
    (filter (λ m. not (bytes_eq x m)) r.0, ap (λ l. x ∷ filter (λ m. not (bytes_eq x m)) l) r.1 ∙ ap (λ l. x ∷ l) (filter-append (λ m. not (bytes_eq x m)) (firsts xs) r.0))

names_from-append : (k : ℕ) (xs ys : List (Option Name)) → (zs : List Name) × (names_from k (xs ++ ys) ≡ names_from k xs ++ zs)
names_from-append k [] ys = (names_from k ys, refl)
names_from-append k (None ∷ xs) ys = let r : (zs : List Name) × (names_from (k + 1) (xs ++ ys) ≡ names_from (k + 1) xs ++ zs) = names_from-append (k + 1) xs ys in (r.0, ap (λ l. (99 ∷ decimal k) ∷ l) r.1)
names_from-append k (Some n ∷ xs) ys = let r : (zs : List Name) × (names_from (k + 1) (xs ++ ys) ≡ names_from (k + 1) xs ++ zs) = names_from-append (k + 1) xs ys in (r.0, ap (λ l. n ∷ l) r.1)

has_twice-append : (xs ys : List Name) → has_twice xs ≡ true → has_twice (xs ++ ys) ≡ true
has_twice-append [] ys h = absurd cc
has_twice-append (x ∷ xs) ys h =
    elim (or_cases (list_any (bytes_eq x) xs) (has_twice xs) h) [
      | inl e ↦ or_left (list_any (bytes_eq x) (xs ++ ys)) (has_twice (xs ++ ys)) (list_any-append (bytes_eq x) xs ys ∙ or_left (list_any (bytes_eq x) xs) (list_any (bytes_eq x) ys) e)
      | inr e ↦ or_right (list_any (bytes_eq x) (xs ++ ys)) (has_twice (xs ++ ys)) (has_twice-append xs ys e)
    ]

-- rows, variables and terms of a front
more_rows : (xs ys : List Seen) → (zs : List Name) × (row_names (xs ++ ys) ≡ row_names xs ++ zs)
unfolding row_names
more_rows xs ys =
    let f : Seen → Option (Option Name) = λ t. row_of t.site t.symbol t.next in
    let r : (zs : List Name) × (names_from 1 (filter_map f xs ++ filter_map f ys) ≡ names_from 1 (filter_map f xs) ++ zs) = names_from-append 1 (filter_map f xs) (filter_map f ys) in
    (r.0, ap (names_from 1) (filter_map-append f xs ys) ∙ r.1)

more_variables : (xs ys : List Seen) → (zs : List Name) × (variables (xs ++ ys) ≡ variables xs ++ zs)
unfolding variables
more_variables xs ys =
    let f : Seen → Option Name = λ t. variable_of t.site t.symbol t.next in
    let r : (zs : List Name) × (firsts (filter_map f xs ++ filter_map f ys) ≡ firsts (filter_map f xs) ++ zs) = firsts-append (filter_map f xs) (filter_map f ys) in
    (r.0, ap firsts (filter_map-append f xs ys) ∙ r.1)

more_terms : (xs ys : List Seen) → term_count xs ≤ term_count (xs ++ ys)
unfolding term_count
more_terms xs ys =
    let p : Seen → Bool = λ t. counts_as_term t.site t.symbol t.next in
    let whole : count_by p (xs ++ ys) ≡ length (filter p xs) + length (filter p ys) = sym (length-filter p (xs ++ ys)) ∙ ap length (filter-append p xs ys) ∙ length-append (filter p xs) (filter p ys) in
    let front : length (filter p xs) ≡ count_by p xs = length-filter p xs in
    omega arith

over_more : (limits : Limits) (xs ys : List Seen) → is_over_limit limits xs ≡ true → is_over_limit limits (xs ++ ys) ≡ true
unfolding is_over_limit
over_more limits xs ys h =
    let v : (zs : List Name) × (variables (xs ++ ys) ≡ variables xs ++ zs) = more_variables xs ys in
    let r : (zs : List Name) × (row_names (xs ++ ys) ≡ row_names xs ++ zs) = more_rows xs ys in
    let t : term_count xs ≤ term_count (xs ++ ys) = more_terms xs ys in
    let vl : length (variables (xs ++ ys)) ≡ length (variables xs) + length v.0 = ap length v.1 ∙ length-append (variables xs) v.0 in
    let rl : length (row_names (xs ++ ys)) ≡ length (row_names xs) + length r.0 = ap length r.1 ∙ length-append (row_names xs) r.0 in
    elim (or_cases (nat_lt (most_variables limits) (length (variables xs))) (nat_lt (most_rows limits) (length (row_names xs)) || nat_lt (most_terms limits) (term_count xs)) h) [
      | inl a ↦
          let l : most_variables limits < length (variables xs) = ltb-true _ _ a in
          let m : most_variables limits < length (variables (xs ++ ys)) = omega arith in
          or_left (nat_lt (most_variables limits) (length (variables (xs ++ ys)))) _ (lt-ltb _ _ m)
      | inr b ↦ or_right (nat_lt (most_variables limits) (length (variables (xs ++ ys)))) _ (elim (or_cases (nat_lt (most_rows limits) (length (row_names xs))) (nat_lt (most_terms limits) (term_count xs)) b) [
        | inl a ↦
            let l : most_rows limits < length (row_names xs) = ltb-true _ _ a in
            let m : most_rows limits < length (row_names (xs ++ ys)) = omega arith in
            or_left (nat_lt (most_rows limits) (length (row_names (xs ++ ys)))) _ (lt-ltb _ _ m)
        | inr a ↦
            let l : most_terms limits < term_count xs = ltb-true _ _ a in
            let m : most_terms limits < term_count (xs ++ ys) = omega arith in
            or_right (nat_lt (most_rows limits) (length (row_names (xs ++ ys)))) _ (lt-ltb _ _ m)
      ])
    ]

no_fault : (a b : Bool) → cond a (Some RowTwice) (cond b (Some Limit) None) ≡ None → (a ≡ false) × (b ≡ false)
no_fault true b h = absurd cc
no_fault false true h = absurd cc
no_fault false false h = (refl, refl)

a_fault : (a b : Bool) (kind : LpKind) → cond a (Some RowTwice) (cond b (Some Limit) None) ≡ Some kind → (a ≡ true) ⊎ (b ≡ true)
a_fault true b kind h = inl refl
a_fault false true kind h = inr refl
a_fault false false kind h = absurd cc

-- a front at fault makes the whole at fault
pub fault_more : (limits : Limits) (xs ys : List Seen) (kind : LpKind) → role_fault limits xs ≡ Some kind → role_fault limits (xs ++ ys) ≡ None → ⊥
unfolding role_fault
fault_more limits xs ys kind h k =
    let none : (has_twice (row_names (xs ++ ys)) ≡ false) × (is_over_limit limits (xs ++ ys) ≡ false) = no_fault _ _ k in
    let r : (zs : List Name) × (row_names (xs ++ ys) ≡ row_names xs ++ zs) = more_rows xs ys in
    elim (a_fault _ _ kind h) [
      | inl t ↦ both_ways _ none.0 (ap has_twice r.1 ∙ has_twice-append (row_names xs) r.0 t)
      | inr o ↦ both_ways _ none.1 (over_more limits xs ys o)
    ]

-- what is seen of a front of sites is a front of what is seen
seen-take : (n : ℕ) (sites : List Site) (all : List Symbol) → seen (take n sites) all ≡ take n (seen sites all)
seen-take zero sites all = refl
seen-take (suc n) [] all = refl
seen-take (suc n) (site ∷ sites) [] = refl
seen-take (suc n) (site ∷ sites) (s ∷ all) = ap (λ l. record { site = site; symbol = s; next = first_of_symbols all } ∷ l) (seen-take n sites all)

-- no front of a text without such a fault has one
pub front_sound : (limits : Limits) (n : ℕ) (sites : List Site) (all : List Symbol) (kind : LpKind) → role_fault limits (seen (take n sites) all) ≡ Some kind → role_fault limits (seen sites all) ≡ None → ⊥
front_sound limits n sites all kind h k =
    fault_more limits (take n (seen sites all)) (drop n (seen sites all)) kind (sym (ap (role_fault limits) (seen-take n sites all)) ∙ h) (ap (role_fault limits) (take-append-drop n (seen sites all)) ∙ k)
