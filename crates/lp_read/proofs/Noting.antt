-- What is noted of tokens with one token more.
use Rattle.std.proofs.Common.{◌≡◌, ℕ, suc, ◌+◌, ◌⊎◌, Bool, true, false, cond, ◌||◌, List, [], ◌∷◌, ◌++◌, map, drop, length, refl, sym, ◌∙◌, ap, subst, inl, inr, arith, Option, None, Some, Result, Ok, Err, IfErr, add-one, length-append}
use Rattle.bp_theory.specs.Limits.{most_rows, most_terms, most_variables}
use Rattle.bp_theory.specs.declared.Limits.{Limits}
use Rattle.bp_theory.specs.declared.Limits.TheVariants.{Usual, Large}
use Rattle.std.proofs.lemmas.Bool.{cases_Bool, or_cases, or_left, or_right, or_parts, cond-true, cond-false}
use Rattle.std.proofs.lemmas.List.{append-nil, map-append}
use Rattle.std.proofs.lemmas.List.Elements.{filter-append, filter_map-append}
use Rattle.std.specs.Prelude.{filter, filter_map, count_by, nat_lt, slice_get}
use Rattle.std.specs.List.{cons_option}
use Rattle.std.proofs.lemmas.List.Sums.{length-filter}
use Rattle.std.specs.Str.{bytes_eq}
use Rattle.lp_token.specs.declared.LpKind.{LpKind}
use Rattle.lp_token.specs.declared.LpKind.TheVariants.{RowTwice, Limit}
use Rattle.lp_read.specs.declared.notes.Notes.{Notes}
use Rattle.lp_read.specs.declared.notes.ParseFault.{ParseFault}
use Rattle.lp_read.specs.declared.notes.ParseFault.TheVariants.{At}
use Rattle.lp_syntax.specs.Tree.{Name, Symbol}
use Rattle.lp_syntax.specs.declared.tree.Site.{Site}
use Rattle.lp_syntax.specs.declared.tree.Site.TheVariants.{ObjectiveFirst as objective_first, ObjectiveMore as objective_more, RowFirst as row_first, RowMore as row_more, Listed as listed, Other as other}
use Rattle.lp_semantics.specs.Meaning.{has_name}
use Rattle.lp_semantics.specs.Reading.{place_of, row_places}
use Rattle.lp_syntax.specs.Roles.{Seen, seen, first_of_symbols, variable_of, counts_as_term, row_of, firsts, has_twice, names_from, variables, row_names, term_count, is_over_limit, role_fault}
use Rattle.lp_read.specs.Noted.{with_name, with_token, names_with, tokens_with, row_name, rows_with, row_tokens_with, is_repeated, is_repeated_in, terms_with, with_rows, with_variables, noted, are_too_many, IsRoleFault, AreNoted}
use Rattle.lp_read.proofs.NameLists.{itself, firsts_has, firsts_push, rows_push, once_push, twice_push}

-- what a token names
abbrev names : Seen → Option Name
names t = variable_of t.site t.symbol t.next

abbrev row_at : Seen → Option (Option Name)
row_at t = row_of t.site t.symbol t.next

-- all that tokens name
abbrev named : List Seen → List Name
named tokens = filter_map names tokens

-- one more element of a filter_map
one_more : {A B : Type 0} (f : A → Option B) (xs : List A) (x : A) → filter_map f (xs ++ x ∷ []) ≡ filter_map f xs ++ filter_map f (x ∷ [])
one_more f xs x = filter_map-append f xs (x ∷ [])

variables_push : (tokens : List Seen) (t : Seen) → variables (tokens ++ t ∷ []) ≡ names_with (variables tokens) (names t)
unfolding variables
variables_push tokens t = ap firsts (one_more names tokens t) ∙ go (names t)
  where
    go : (o : Option Name) → firsts (named tokens ++ cons_option o []) ≡ names_with (firsts (named tokens)) o
    go None = ap firsts (append-nil (named tokens))
    go (Some n) = firsts_push (named tokens) n

row_names_push : (tokens : List Seen) (t : Seen) → row_names (tokens ++ t ∷ []) ≡ rows_with (row_names tokens) (row_at t)
unfolding row_names
row_names_push tokens t = ap (names_from 1) (one_more row_at tokens t) ∙ go (row_at t)
  where
    go : (o : Option (Option Name)) → names_from 1 (filter_map row_at tokens ++ cons_option o []) ≡ rows_with (names_from 1 (filter_map row_at tokens)) o
    go None = ap (names_from 1) (append-nil (filter_map row_at tokens))
    go (Some label) = rows_push 1 (filter_map row_at tokens) label

-- a token that names n
abbrev names_it : Name → Option Name → Bool
names_it n o = elim o [ None ↦ false | Some m ↦ bytes_eq n m ]

-- the first token of a name that is there stays the first
place_known : (n : Name) (tokens : List Seen) (t : Seen) → has_name (named tokens) n ≡ true → place_of n (tokens ++ t ∷ []) ≡ place_of n tokens
place_known n [] t h = absurd cc
place_known n (s ∷ tokens) t h = go (names s) h (place_known n tokens t)
  where
    go : (o : Option Name) → has_name (cons_option o (named tokens)) n ≡ true → (has_name (named tokens) n ≡ true → place_of n (tokens ++ t ∷ []) ≡ place_of n tokens)
        → cond (names_it n o) 0 (place_of n (tokens ++ t ∷ []) + 1) ≡ cond (names_it n o) 0 (place_of n tokens + 1)
    go None h f = ap (λ k. k + 1) (f h)
    go (Some m) h f = elim (or_cases (bytes_eq n m) (has_name (named tokens) n) h) [
      | inl e ↦ cond-true _ _ _ e ∙ sym (cond-true _ _ _ e)
      | inr e ↦ ap (λ k. cond (bytes_eq n m) 0 (k + 1)) (f e)
    ]

-- a new name's first token is the last
place_new : (n : Name) (tokens : List Seen) (t : Seen) → has_name (named tokens) n ≡ false → names_it n (names t) ≡ true → place_of n (tokens ++ t ∷ []) ≡ length tokens
place_new n [] t h e = cond-true _ _ _ e
place_new n (s ∷ tokens) t h e = go (names s) h (λ g. place_new n tokens t g e)
  where
    go : (o : Option Name) → has_name (cons_option o (named tokens)) n ≡ false → (has_name (named tokens) n ≡ false → place_of n (tokens ++ t ∷ []) ≡ length tokens)
        → cond (names_it n o) 0 (place_of n (tokens ++ t ∷ []) + 1) ≡ suc (length tokens)
    go None h f = ap (λ k. k + 1) (f h) ∙ add-one (length tokens)
    go (Some m) h f =
        let p : (bytes_eq n m ≡ false) × (has_name (named tokens) n ≡ false) = or_parts _ _ h in
        cond-false _ _ _ p.0 ∙ ap (λ k. k + 1) (f p.1) ∙ add-one (length tokens)

-- two maps that agree on a list's names
maps_agree : (f g : Name → ℕ) (ns : List Name) → ((n : Name) → has_name ns n ≡ true → f n ≡ g n) → map f ns ≡ map g ns
maps_agree f g [] h = refl
maps_agree f g (n ∷ ns) h =
    ap (λ k. k ∷ map f ns) (h n (or_left (bytes_eq n n) _ (itself n))) ∙ ap (λ l. g n ∷ l) (maps_agree f g ns (λ m e. h m (or_right (bytes_eq m n) _ e)))

places_same : (tokens : List Seen) (t : Seen) → map (λ n. place_of n (tokens ++ t ∷ [])) (variables tokens) ≡ map (λ n. place_of n tokens) (variables tokens)
unfolding variables
places_same tokens t = maps_agree (λ n. place_of n (tokens ++ t ∷ [])) (λ n. place_of n tokens) (firsts (named tokens)) (λ n e. place_known n tokens t (sym (firsts_has (named tokens) n) ∙ e))

first_tokens_push : (tokens : List Seen) (t : Seen) → map (λ n. place_of n (tokens ++ t ∷ [])) (variables (tokens ++ t ∷ [])) ≡ tokens_with (variables tokens) (map (λ n. place_of n tokens) (variables tokens)) (length tokens) (names t)
unfolding variables
first_tokens_push tokens t = ap (map (λ n. place_of n (tokens ++ t ∷ []))) (variables_push tokens t) ∙ go (names t) refl
  where
    all : List Name
    all = firsts (named tokens)

    place : Name → ℕ
    place n = place_of n (tokens ++ t ∷ [])

    pick : (n : Name) → names t ≡ Some n → (has_name (firsts (named tokens)) n ≡ true) ⊎ (has_name (firsts (named tokens)) n ≡ false)
        → map (λ n. place_of n (tokens ++ t ∷ [])) (with_name (firsts (named tokens)) n) ≡ with_token (firsts (named tokens)) (map (λ n. place_of n tokens) (firsts (named tokens))) n (length tokens)
    pick n e (inl h) = ap (map (λ n. place_of n (tokens ++ t ∷ []))) (cond-true _ _ _ h) ∙ places_same tokens t ∙ sym (cond-true _ _ _ h)
    pick n e (inr h) =
        let last : place_of n (tokens ++ t ∷ []) ≡ length tokens = place_new n tokens t (sym (firsts_has (named tokens) n) ∙ h) (ap (names_it n) e ∙ itself n) in
        ap (map (λ n. place_of n (tokens ++ t ∷ []))) (cond-false _ _ _ h)
        ∙ map-append (λ n. place_of n (tokens ++ t ∷ [])) (firsts (named tokens)) (n ∷ [])
        ∙ ap (λ l. l ++ place_of n (tokens ++ t ∷ []) ∷ []) (places_same tokens t)
        ∙ ap (λ k. map (λ n. place_of n tokens) (firsts (named tokens)) ++ k ∷ []) last
        ∙ sym (cond-false _ _ _ h)

    go : (o : Option Name) → names t ≡ o → map (λ n. place_of n (tokens ++ t ∷ [])) (names_with (firsts (named tokens)) o) ≡ tokens_with (firsts (named tokens)) (map (λ n. place_of n tokens) (firsts (named tokens))) (length tokens) o
    go None e = places_same tokens t
    go (Some n) e = pick n e (cases_Bool (has_name (firsts (named tokens)) n))

-- the first tokens of rows
row_tokens_push : (i : ℕ) (tokens : List Seen) (t : Seen) → row_places i (tokens ++ t ∷ []) ≡ row_tokens_with (row_places i tokens) (i + length tokens) (row_at t)
row_tokens_push i [] t = go t.site
  where
    go : (s : Site) → (elim s [ row_first ↦ i ∷ [] | _ ↦ [] ]) ≡ row_tokens_with [] (i + 0) (row_of s t.symbol t.next)
    go row_first = ap (λ k. k ∷ []) (let e : i ≡ i + 0 = omega arith in e)
    go objective_first = refl
    go objective_more = refl
    go row_more = refl
    go listed = refl
    go other = refl
row_tokens_push i (s ∷ tokens) t = go s.site (row_at t) (row_tokens_push (i + 1) tokens t)
  where
    shift : i + 1 + length tokens ≡ i + suc (length tokens)
    shift = omega arith

    push : (o : Option (Option Name)) (at : ℕ) (k : ℕ) (l : List ℕ) → k ∷ row_tokens_with l at o ≡ row_tokens_with (k ∷ l) at o
    push None at k l = refl
    push (Some label) at k l = refl

    go : (x : Site) (o : Option (Option Name)) → row_places (i + 1) (tokens ++ t ∷ []) ≡ row_tokens_with (row_places (i + 1) tokens) (i + 1 + length tokens) o
        → (elim x [ row_first ↦ i ∷ row_places (i + 1) (tokens ++ t ∷ []) | _ ↦ row_places (i + 1) (tokens ++ t ∷ []) ]) ≡ row_tokens_with (elim x [ row_first ↦ i ∷ row_places (i + 1) tokens | _ ↦ row_places (i + 1) tokens ]) (i + suc (length tokens)) o
    go row_first o e = ap (λ l. i ∷ l) (e ∙ ap (λ k. row_tokens_with (row_places (i + 1) tokens) k o) shift) ∙ push o (i + suc (length tokens)) i (row_places (i + 1) tokens)
    go objective_first o e = e ∙ ap (λ k. row_tokens_with (row_places (i + 1) tokens) k o) shift
    go objective_more o e = e ∙ ap (λ k. row_tokens_with (row_places (i + 1) tokens) k o) shift
    go row_more o e = e ∙ ap (λ k. row_tokens_with (row_places (i + 1) tokens) k o) shift
    go listed o e = e ∙ ap (λ k. row_tokens_with (row_places (i + 1) tokens) k o) shift
    go other o e = e ∙ ap (λ k. row_tokens_with (row_places (i + 1) tokens) k o) shift

abbrev counts : Seen → Bool
counts t = counts_as_term t.site t.symbol t.next

-- how many terms there are
terms_push : (tokens : List Seen) (t : Seen) → term_count (tokens ++ t ∷ []) ≡ terms_with (term_count tokens) (counts_as_term t.site t.symbol t.next)
unfolding term_count
terms_push tokens t =
    sym (length-filter counts (tokens ++ t ∷ [])) ∙ ap length (filter-append counts tokens (t ∷ [])) ∙ length-append (filter counts tokens) (filter counts (t ∷ []))
    ∙ ap (λ k. k + length (filter counts (t ∷ []))) (length-filter counts tokens) ∙ go (count_by counts tokens) (counts t)
  where
    go : (n : ℕ) (b : Bool) → n + length (cond b (t ∷ []) []) ≡ terms_with n b
    go n true = refl
    go n false = omega arith

-- what is noted, with one token more
pub notes_more : (limits : Limits) (tokens : List Seen) (r : Notes) (t : Seen) → AreNoted limits tokens r → AreNoted limits (tokens ++ t ∷ []) (noted r (length tokens) t)
notes_more limits tokens r t h = record {
  names = ap (λ l. names_with l (names t)) h.names ∙ sym (variables_push tokens t);
  first_tokens = ap (λ l. tokens_with l r.first_tokens (length tokens) (names t)) h.names ∙ ap (λ l. tokens_with (variables tokens) l (length tokens) (names t)) h.first_tokens ∙ sym (first_tokens_push tokens t);
  row_names = ap (λ l. rows_with l (row_at t)) h.row_names ∙ sym (row_names_push tokens t);
  row_tokens = ap (λ l. row_tokens_with l (length tokens) (row_at t)) h.row_tokens ∙ sym (row_tokens_push 0 tokens t ∙ ap (λ k. row_tokens_with (row_places 0 tokens) k (row_at t)) (let e : 0 + length tokens ≡ length tokens = omega arith in e));
  terms = ap (λ k. terms_with k (counts_as_term t.site t.symbol t.next)) h.terms ∙ sym (terms_push tokens t);
  same_limits = h.same_limits;
}

-- no fault by names and counts
pub no_fault : (limits : Limits) (tokens : List Seen) → has_twice (row_names tokens) ≡ false → is_over_limit limits tokens ≡ false → role_fault limits tokens ≡ None
unfolding role_fault
no_fault limits tokens a b = cond-false _ _ _ a ∙ cond-false _ _ _ b

pub twice_fault : (limits : Limits) (tokens : List Seen) → has_twice (row_names tokens) ≡ true → role_fault limits tokens ≡ Some RowTwice
unfolding role_fault
twice_fault limits tokens a = cond-true _ _ _ a

pub limit_fault : (limits : Limits) (tokens : List Seen) → has_twice (row_names tokens) ≡ false → is_over_limit limits tokens ≡ true → role_fault limits tokens ≡ Some Limit
unfolding role_fault
limit_fault limits tokens a b = cond-false _ _ _ a ∙ cond-true _ _ _ b

-- then no row has an earlier one's name
pub sound_rows : (limits : Limits) (tokens : List Seen) → role_fault limits tokens ≡ None → has_twice (row_names tokens) ≡ false
unfolding role_fault
sound_rows limits tokens h = go (has_twice (row_names tokens)) _ h
  where
    go : (b : Bool) (o : Option LpKind) → cond b (Some RowTwice) o ≡ None → b ≡ false
    go false o h = refl
    go true o h = absurd cc

-- the counts are those noted
counts_same : (limits : Limits) (tokens : List Seen) (r : Notes) → AreNoted limits tokens r → are_too_many r ≡ is_over_limit limits tokens
unfolding is_over_limit
counts_same limits tokens r h =
    ap (λ l. nat_lt (most_variables l) (length r.names) || (nat_lt (most_rows l) (length r.row_names) || nat_lt (most_terms l) r.terms)) h.same_limits
    ∙ ap (λ l. nat_lt (most_variables limits) (length l) || (nat_lt (most_rows limits) (length r.row_names) || nat_lt (most_terms limits) r.terms)) h.names
    ∙ ap (λ l. nat_lt (most_variables limits) (length (variables tokens)) || (nat_lt (most_rows limits) (length l) || nat_lt (most_terms limits) r.terms)) h.row_names
    ∙ ap (λ k. nat_lt (most_variables limits) (length (variables tokens)) || (nat_lt (most_rows limits) (length (row_names tokens)) || nat_lt (most_terms limits) k)) h.terms

-- whether a name stands twice, with one row more
rows_once : (rows : List Name) (o : Option (Option Name)) → has_twice rows ≡ false → is_repeated rows o ≡ false → has_twice (rows_with rows o) ≡ false
rows_once rows None h e = h
rows_once rows (Some label) h e = once_push rows (row_name (length rows + 1) label) h e

rows_twice : (rows : List Name) (o : Option (Option Name)) → is_repeated rows o ≡ true → has_twice (rows_with rows o) ≡ true
rows_twice rows None e = absurd cc
rows_twice rows (Some label) e = twice_push rows (row_name (length rows + 1) label) e

-- one token more without a fault
pub sound_more : (limits : Limits) (tokens : List Seen) (r : Notes) (t : Seen) → AreNoted limits tokens r → role_fault limits tokens ≡ None → is_repeated_in r t ≡ false → are_too_many (noted r (length tokens) t) ≡ false → role_fault limits (tokens ++ t ∷ []) ≡ None
sound_more limits tokens r t h e a b =
    no_fault limits (tokens ++ t ∷ [])
    (ap has_twice (row_names_push tokens t) ∙ rows_once (row_names tokens) (row_at t) (sound_rows limits tokens e) (ap (λ l. is_repeated l (row_at t)) (sym h.row_names) ∙ a))
    (sym (counts_same limits (tokens ++ t ∷ []) (noted r (length tokens) t) (notes_more limits tokens r t h)) ∙ b)

-- one token more with a row's name that an earlier one has
pub twice_more : (limits : Limits) (tokens : List Seen) (r : Notes) (t : Seen) → AreNoted limits tokens r → is_repeated_in r t ≡ true → role_fault limits (tokens ++ t ∷ []) ≡ Some RowTwice
twice_more limits tokens r t h a =
    twice_fault limits (tokens ++ t ∷ []) (ap has_twice (row_names_push tokens t) ∙ rows_twice (row_names tokens) (row_at t) (ap (λ l. is_repeated l (row_at t)) (sym h.row_names) ∙ a))

-- one token too many
pub limit_more : (limits : Limits) (tokens : List Seen) (r : Notes) (t : Seen) → AreNoted limits tokens r → role_fault limits tokens ≡ None → is_repeated_in r t ≡ false → are_too_many (noted r (length tokens) t) ≡ true → role_fault limits (tokens ++ t ∷ []) ≡ Some Limit
limit_more limits tokens r t h e a b =
    limit_fault limits (tokens ++ t ∷ [])
    (ap has_twice (row_names_push tokens t) ∙ rows_once (row_names tokens) (row_at t) (sound_rows limits tokens e) (ap (λ l. is_repeated l (row_at t)) (sym h.row_names) ∙ a))
    (sym (counts_same limits (tokens ++ t ∷ []) (noted r (length tokens) t) (notes_more limits tokens r t h)) ∙ b)

-- one symbol more in its site
pub seen_more : (sites : List Site) (all : List Symbol) (site : Site) (s : Symbol) → slice_get all (length sites) ≡ Some s
    → seen (sites ++ site ∷ []) all ≡ seen sites all ++ record { site = site; symbol = s; next = first_of_symbols (drop (suc (length sites)) all) } ∷ []
seen_more [] [] site s h = absurd cc
seen_more [] (a ∷ all) site s h = ap (λ x. record { site = site; symbol = x; next = first_of_symbols all } ∷ []) (same a s h)
  where
    same : (a b : Symbol) → Some a ≡ Some b → a ≡ b
    same a b h = cc
seen_more (x ∷ sites) [] site s h = absurd cc
seen_more (x ∷ sites) (a ∷ all) site s h = ap (λ l. record { site = x; symbol = a; next = first_of_symbols all } ∷ l) (seen_more sites all site s h)

-- nothing is noted of no tokens
pub no_tokens : (limits : Limits) → role_fault limits [] ≡ None
unfolding role_fault row_names is_over_limit variables term_count
no_tokens Usual = refl
no_tokens Large = refl

pub none_noted : (limits : Limits) → AreNoted limits [] (record { names = []; first_tokens = []; row_names = []; row_tokens = []; terms = 0; limits = limits })
unfolding row_names variables term_count
none_noted limits = record { names = refl; first_tokens = refl; row_names = refl; row_tokens = refl; terms = refl; same_limits = refl }

-- what is noted of one token, step by step
pub noted_as : (notes one two r : Notes) (at : ℕ) (t : Seen) (counts : Bool) → one ≡ with_rows notes at t → two ≡ with_variables one at t
    → counts ≡ counts_as_term t.site t.symbol t.next → ◌≡◌ {A = Notes} r (record two { terms = terms_with two.terms counts }) → r ≡ noted notes at t
noted_as notes one two r at t counts rows variables counted last =
    last
    ∙ ap (λ b. record two { terms = terms_with two.terms b }) counted
    ∙ ap (λ (n : Notes). record n { terms = terms_with n.terms (counts_as_term t.site t.symbol t.next) }) (variables ∙ ap (λ (n : Notes). with_variables n at t) rows)

-- where there are too many, the token is refused
pub over_refused : (notes r : Notes) (at : ℕ) (t : Seen) (result : Result Notes ParseFault) → r ≡ noted notes at t → is_repeated_in notes t ≡ false
    → IfErr result (λ f. (f ≡ At at Limit) × (are_too_many r ≡ true)) → IfErr result (IsRoleFault notes at t)
over_refused notes r at t (Ok kept) same new h = tt
over_refused notes r at t (Err f) same new h = subst (IsRoleFault notes at t) (sym h.0) (refl, inr (refl, new, ap are_too_many (sym same) ∙ h.1))
