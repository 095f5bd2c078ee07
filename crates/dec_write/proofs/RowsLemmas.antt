-- How far a list of rows has been read, and what each text comes to.
use Rattle.std.proofs.Common.{◌≡◌, ◌≢◌, ◌⊎◌, ℕ, zero, suc, ◌+◌, ◌<◌, ◌≤◌, Bool, true, false, cond, ◌||◌, List, [], ◌∷◌, ◌++◌, length, take, drop, get_or, map, refl, sym, ◌∙◌, ap, subst, ⊎_elim, inl, inr, arith, Option, None, Some, Ok}
use Rattle.std.proofs.Math.ListN.{set, replicate}
use Rattle.std.proofs.lemmas.Bool.{cases_lt, cases_order, or_left, or_right, or_cases, false_from_ne_true, both_ways}
use Rattle.std.proofs.lemmas.List.Elements.{All-append}
use Rattle.std.proofs.lemmas.Option.{slice_get_past}
use Rattle.std.proofs.lemmas.Slice.Eq.{bytes_eq-Decides}
use Rattle.std.specs.Prelude.{slice_get, option_and_then, All}
use Rattle.std.specs.List.{list_any, IsDistinct}
use Rattle.std.specs.Str.{bytes_eq}
use Rattle.bp_theory.specs.Limits.{most_bytes}
use Rattle.bp_model.specs.Named.{NamedProgram}
use Rattle.dec_syntax.specs.Cut.{Token, tokens}
use Rattle.dec_syntax.specs.Scan.{tokens_at}
use Rattle.dec_syntax.specs.Parts.{is_among, number_among}
use Rattle.dec_syntax.proofs.ListLemmas.{among_found, among_absent, number_found, number_inside, map_update, map_at}
use Rattle.dec_write.specs.Rows.{words_in, name_fault, word_fault, fault_at, ListsRows, HasRowsFault, too_long, at_token}
use Rattle.dec_write.specs.Listing.{Keeps, StandsBefore}
use Rattle.dec_write.specs.declared.fault.RowsKind.{RowsKind}
use Rattle.dec_write.specs.declared.fault.RowsKind.TheVariants.{Limit, UnknownRow, RowTwice}
use Rattle.dec_write.specs.declared.rows.Listing.{Listing}

-- ---- one word more

pub seen_none : (names : List (List ℕ)) → replicate (length names) false ≡ map (is_among []) names
seen_none [] = refl
seen_none (n ∷ names) = ap (λ (xs : List Bool). false ∷ xs) (seen_none names)

among_more : (earlier : List (List ℕ)) (word name : List ℕ) → cond (bytes_eq word name) true (is_among earlier name) ≡ is_among (earlier ++ (word ∷ [])) name
among_more [] word name = by (bytes_eq word name)
  where
    by : (b : Bool) → cond b true false ≡ (b || false)
    by true = refl
    by false = refl
among_more (e ∷ earlier) word name = by (bytes_eq e name) (bytes_eq word name) (among_more earlier word name)
  where
    by : (b t : Bool) → cond t true (is_among earlier name) ≡ is_among (earlier ++ (word ∷ [])) name
        → cond t true (b || is_among earlier name) ≡ (b || is_among (earlier ++ (word ∷ [])) name)
    by true true h = refl
    by true false h = refl
    by false t h = h

map_among_more : (earlier : List (List ℕ)) (word : List ℕ) (names : List (List ℕ))
    → map (λ n. cond (bytes_eq word n) true (is_among earlier n)) names ≡ map (is_among (earlier ++ (word ∷ []))) names
map_among_more earlier word [] = refl
map_among_more earlier word (n ∷ names) =
    ap (λ (b : Bool). b ∷ map (λ m. cond (bytes_eq word m) true (is_among earlier m)) names) (among_more earlier word n)
    ∙ ap (λ (xs : List Bool). is_among (earlier ++ (word ∷ [])) n ∷ xs) (map_among_more earlier word names)

map_snoc : (f : List ℕ → ℕ) (xs : List (List ℕ)) (x : List ℕ) → map f (xs ++ (x ∷ [])) ≡ map f xs ++ (f x ∷ [])
map_snoc f [] x = refl
map_snoc f (y ∷ xs) x = ap (λ (ys : List ℕ). f y ∷ ys) (map_snoc f xs x)

-- a listing with one row more
pub keeps_more : (names : List (List ℕ)) (old new : Listing) (earlier : List (List ℕ)) (word : List ℕ) (row : ℕ) → IsDistinct bytes_eq names → slice_get names row ≡ Some word
    → new.seen.items ≡ set old.seen.items row true → new.rows.items ≡ old.rows.items ++ (row ∷ []) → Keeps names old earlier → Keeps names new (earlier ++ (word ∷ []))
keeps_more names old new earlier word row distinct is seen rows h = record {
  seen = seen ∙ ap (λ (xs : List Bool). set xs row true) h.seen ∙ sym (map_update (is_among earlier) true names row word distinct is) ∙ map_among_more earlier word names;
  rows = rows ∙ ap (λ (xs : List ℕ). xs ++ (row ∷ [])) h.rows
      ∙ ap (λ (r : ℕ). map (number_among names) earlier ++ (r ∷ [])) (sym (number_found names row word distinct is))
      ∙ sym (map_snoc (number_among names) earlier word);
  below = subst (All (λ (r : ℕ). r < length names)) (sym rows)
      (All-append (λ (r : ℕ). r < length names) old.rows.items (row ∷ []) h.below (λ k d l. single k d l));
}
  where
    single : (k d : ℕ) → k < 1 → get_or (row ∷ []) k d < length names
    single zero d l = number_inside names row word is
    single (suc k) d l = absurd (omega arith)

seen_count : (f : List ℕ → Bool) (names : List (List ℕ)) → length (map f names) ≡ length names
seen_count f [] = refl
seen_count f (n ∷ names) = ap suc (seen_count f names)

pub seen_room : (names : List (List ℕ)) (listing : Listing) (words : List (List ℕ)) → Keeps names listing words → length listing.seen.items ≡ length names
seen_room names listing words h = ap length h.seen ∙ seen_count (is_among words) names

-- ---- one token more

head_same : (a b : Token) (xs ys : List Token) → a ∷ xs ≡ b ∷ ys → a ≡ b
head_same a b xs ys e = cc

tail_same : (a b : Token) (xs ys : List Token) → a ∷ xs ≡ b ∷ ys → xs ≡ ys
tail_same a b xs ys e = cc

no_cons : (a : Token) (xs : List Token) → a ∷ xs ≡ [] → ⊥
no_cons a xs e = cc

next_is : (ts : List Token) (i : ℕ) (token : Token) (rest : List Token) → token ∷ rest ≡ drop i ts → (slice_get ts i ≡ Some token) × (rest ≡ drop (suc i) ts)
next_is [] zero token rest e = absurd (no_cons token rest e)
next_is [] (suc i) token rest e = absurd (no_cons token rest e)
next_is (t ∷ ts) zero token rest e = (ap Some (sym (head_same token t rest ts e)), tail_same token t rest ts e)
next_is (t ∷ ts) (suc i) token rest e = next_is ts i token rest e

words_next : (ts : List Token) (i : ℕ) (token : Token) → slice_get ts i ≡ Some token → words_in (take i ts) ++ (token.bytes ∷ []) ≡ words_in (take (suc i) ts)
words_next [] i token e = absurd (let odd : ◌≡◌ {A = Option Token} None (Some token) = e in cc)
words_next (t ∷ ts) zero token e = let same : t ≡ token = cc in ap (λ (x : Token). x.bytes ∷ []) (sym same)
words_next (t ∷ ts) (suc i) token e = ap (λ (xs : List (List ℕ)). t.bytes ∷ xs) (words_next ts i token e)

here : (m : NamedProgram) (ts : List Token) (i : ℕ) (token : Token) → slice_get ts i ≡ Some token → fault_at m ts i ≡ word_fault m.row_names (words_in (take i ts)) token.bytes
unfolding fault_at
here m ts i token e = ap (option_and_then (λ (t : Token). word_fault m.row_names (words_in (take i ts)) t.bytes)) e

pub stands_first : (text : List ℕ) (m : NamedProgram) (listing : Listing) → Keeps m.row_names listing [] → StandsBefore text m listing (tokens_at text (record { at = 0; line = 1; first = true }))
unfolding tokens_at tokens
stands_first text m listing h = record { place = 0; left_is = refl; faultless = λ k l. absurd (omega arith); keeps = h }

pub stands_more : (text : List ℕ) (m : NamedProgram) (listing new : Listing) (left rest : List Token) (token : Token) (b : StandsBefore text m listing left) → left ≡ token ∷ rest
    → (word_fault m.row_names (words_in (take b.place (tokens text))) token.bytes ≡ None)
    → Keeps m.row_names new (words_in (take b.place (tokens text)) ++ (token.bytes ∷ [])) → StandsBefore text m new rest
stands_more text m listing new left rest token b e none kept =
    let next = next_is (tokens text) b.place token rest (sym e ∙ b.left_is) in
    record {
      place = suc b.place;
      left_is = next.1;
      faultless = λ k l. elim (cases_order k b.place) [
        | inl s ↦ ap (fault_at m (tokens text)) s ∙ here m (tokens text) b.place token next.0 ∙ none
        | inr (inl s) ↦ b.faultless k s
        | inr (inr s) ↦ absurd (omega arith)
      ];
      keeps = subst (Keeps m.row_names new) (words_next (tokens text) b.place token next.0) kept;
    }

pub stands_fault : (text : List ℕ) (m : NamedProgram) (listing : Listing) (left rest : List Token) (token : Token) (kind : RowsKind) (b : StandsBefore text m listing left) → length text ≤ most_bytes m.program.limits
    → left ≡ token ∷ rest → word_fault m.row_names (words_in (take b.place (tokens text))) token.bytes ≡ Some kind → HasRowsFault text m token.line kind
stands_fault text m listing left rest token kind b short e fault =
    let next = next_is (tokens text) b.place token rest (sym e ∙ b.left_is) in
    at_token short b.place token next.0 (here m (tokens text) b.place token next.0 ∙ fault) b.faultless refl

none_left : (ts : List Token) (i : ℕ) → [] ≡ drop i ts → (length ts ≤ i) × (take i ts ≡ ts)
none_left [] zero e = (omega arith, refl)
none_left [] (suc i) e = (omega arith, refl)
none_left (t ∷ ts) zero e = absurd (no_cons t ts (sym e))
none_left (t ∷ ts) (suc i) e = let more = none_left ts i e in (omega (arith, more.0), ap (λ (xs : List Token). t ∷ xs) more.1)

no_fault_past : (m : NamedProgram) (ts : List Token) (i : ℕ) → length ts ≤ i → fault_at m ts i ≡ None
unfolding fault_at
no_fault_past m ts i l = ap (option_and_then (λ (t : Token). word_fault m.row_names (words_in (take i ts)) t.bytes)) (slice_get_past ts i l)

pub stands_last : (text : List ℕ) (m : NamedProgram) (listing : Listing) (left : List Token) (b : StandsBefore text m listing left) → length text ≤ most_bytes m.program.limits → left ≡ []
    → ListsRows text m listing.rows.items
stands_last text m listing left b short e =
    let past = none_left (tokens text) b.place (sym e ∙ b.left_is) in
    record {
      short = short;
      faultless = λ i. elim (cases_lt i b.place) [ inl s ↦ b.faultless i s | inr s ↦ no_fault_past m (tokens text) i (omega (arith, past.0, s)) ];
      meant = b.keeps.rows ∙ ap (λ (ts : List Token). map (number_among m.row_names) (words_in ts)) past.1;
    }

-- ---- each text lists rows or has a first fault

record IsFirstBelow (m : NamedProgram) (ts : List Token) (n : ℕ) : Type 0 where
  place : ℕ
  kind : RowsKind
  here : fault_at m ts place ≡ Some kind
  first : (k : ℕ) → k < place → fault_at m ts k ≡ None

first_or_none : (m : NamedProgram) (ts : List Token) (n : ℕ) → IsFirstBelow m ts n ⊎ ((k : ℕ) → k < n → fault_at m ts k ≡ None)
first_or_none m ts zero = inr (λ k l. absurd (omega arith))
first_or_none m ts (suc n) = by (first_or_none m ts n)
  where
    here' : (o : Option RowsKind) → fault_at m ts n ≡ o → ((k : ℕ) → k < n → fault_at m ts k ≡ None) → IsFirstBelow m ts (suc n) ⊎ ((k : ℕ) → k < suc n → fault_at m ts k ≡ None)
    here' None e below = inr (λ k l. elim (cases_order k n) [
      | inl s ↦ ap (fault_at m ts) s ∙ e
      | inr (inl s) ↦ below k s
      | inr (inr s) ↦ absurd (omega arith)
    ])
    here' (Some kind) e below = inl (record { place = n; kind = kind; here = e; first = below })

    by : IsFirstBelow m ts n ⊎ ((k : ℕ) → k < n → fault_at m ts k ≡ None) → IsFirstBelow m ts (suc n) ⊎ ((k : ℕ) → k < suc n → fault_at m ts k ≡ None)
    by (inl f) = inl (record { place = f.place; kind = f.kind; here = f.here; first = f.first })
    by (inr below) = here' (fault_at m ts n) refl below

fault_token : (m : NamedProgram) (ts : List Token) (i : ℕ) (kind : RowsKind) → fault_at m ts i ≡ Some kind → (token : Token) × (slice_get ts i ≡ Some token)
unfolding fault_at
fault_token m ts i kind e = by (slice_get ts i) refl
  where
    by : (o : Option Token) → slice_get ts i ≡ o → (token : Token) × (slice_get ts i ≡ Some token)
    by (Some token) s = (token, s)
    by None s =
        let none : fault_at m ts i ≡ None = ap (option_and_then (λ (t : Token). word_fault m.row_names (words_in (take i ts)) t.bytes)) s in
        let odd : ◌≡◌ {A = Option RowsKind} (Some kind) None = sym e ∙ none in
        absurd (cc)

pub list_or_fault_lem : (text : List ℕ) (m : NamedProgram) → ((rows : List ℕ) × ListsRows text m rows) ⊎ ((line : ℕ) × (kind : RowsKind) × HasRowsFault text m line kind)
list_or_fault_lem text m = elim (cases_lt (most_bytes m.program.limits) (length text)) [
  | inl l ↦ inr (0, Limit, too_long l refl refl)
  | inr l ↦ by l (first_or_none m (tokens text) (length (tokens text)))
]
  where
    by : length text ≤ most_bytes m.program.limits → IsFirstBelow m (tokens text) (length (tokens text)) ⊎ ((k : ℕ) → k < length (tokens text) → fault_at m (tokens text) k ≡ None)
        → ((rows : List ℕ) × ListsRows text m rows) ⊎ ((line : ℕ) × (kind : RowsKind) × HasRowsFault text m line kind)
    by l (inl f) =
        let t = fault_token m (tokens text) f.place f.kind f.here in
        inr (t.0.line, f.kind, at_token l f.place t.0 t.1 f.here f.first refl)
    by l (inr none) = inl (
      map (number_among m.row_names) (words_in (tokens text)),
      record {
        short = l;
        faultless = λ i. elim (cases_lt i (length (tokens text))) [ inl s ↦ none i s | inr s ↦ no_fault_past m (tokens text) i s ];
        meant = refl;
      },
    )

-- ---- the faults of a name

pub name_unknown : (names earlier : List (List ℕ)) (word : List ℕ) → is_among names word ≡ false → name_fault names earlier word ≡ Some UnknownRow
name_unknown names earlier word e = ap (λ (t : Bool). cond t (cond (is_among earlier word) (Some RowTwice) None) (Some UnknownRow)) e

name_known : (names earlier : List (List ℕ)) (word : List ℕ) (row : ℕ) (b : Bool) → slice_get names row ≡ Some word → is_among earlier word ≡ b
    → name_fault names earlier word ≡ cond b (Some RowTwice) None
name_known names earlier word row b is e =
    ap (λ (t : Bool). cond t (cond (is_among earlier word) (Some RowTwice) None) (Some UnknownRow)) (among_found names row word is)
    ∙ ap (λ (t : Bool). cond t (Some RowTwice) None) e

pub name_twice : (names earlier : List (List ℕ)) (word : List ℕ) (row : ℕ) → slice_get names row ≡ Some word → is_among earlier word ≡ true → name_fault names earlier word ≡ Some RowTwice
name_twice names earlier word row is e = name_known names earlier word row true is e

pub name_new : (names earlier : List (List ℕ)) (word : List ℕ) (row : ℕ) → slice_get names row ≡ Some word → is_among earlier word ≡ false → name_fault names earlier word ≡ None
name_new names earlier word row is e = name_known names earlier word row false is e

-- what a listing has seen of a name
pub seen_is : (names : List (List ℕ)) (listing : Listing) (earlier : List (List ℕ)) (row : ℕ) (word : List ℕ) (d : Bool) → Keeps names listing earlier → slice_get names row ≡ Some word
    → get_or listing.seen.items row d ≡ is_among earlier word
seen_is names listing earlier row word d h is = ap (λ (xs : List Bool). get_or xs row d) h.seen ∙ map_at (is_among earlier) names row word d is
