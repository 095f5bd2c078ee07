-- The tokens of a decomposition's text are without fault, and list each row once.
use Rattle.std.proofs.Common.{◌≡◌, ◌≢◌, ◌⊎◌, ℕ, zero, suc, ◌+◌, ◌-◌, ◌<◌, ◌≤◌, ◌^◌, ◌==◌, Bool, true, false, not, ◌||◌, ◌&&◌, cond, if◌then◌else◌, List, [], ◌∷◌, ◌++◌, length, get_or, map, filter, drop, Option, Some, None, refl, sym, ap, subst, ◌∙◌, ⊎_elim, inl, inr, arith}
use Rattle.std.specs.Prelude.{nat_le, slice_get, codes, decimal, is_none}
use Rattle.std.specs.List.{AllByRecursion, list_any, range_with_len, zip, IsDistinct}
use Rattle.std.specs.Str.{bytes_eq}
use Rattle.std.proofs.lemmas.Bool.{both_ways, cases_eq, cases_lt, cases_order, false_from_ne_true, le-leb}
use Rattle.std.proofs.lemmas.Bool.Decides.{eqb_tells}
use Rattle.std.proofs.lemmas.Option.{slice_get-get_or}
use Rattle.std.proofs.lemmas.Slice.Eq.{bytes_eq-Decides}
use Rattle.bp_theory.specs.Decomposition.{Decomposition, is_block}
use Rattle.bp_theory.specs.Limits.{most_blocks}
use Rattle.bp_theory.specs.declared.Limits.{Limits}
use Rattle.bp_theory.proofs.LimitLaws.{few_blocks}
use Rattle.bp_model.specs.Named.{NamedProgram}
use Rattle.dec_syntax.specs.Cut.{Token, token_of, line_tokens, tokens}
use Rattle.dec_syntax.specs.Words.{keyword_of, has_bad_byte, number_of}
use Rattle.dec_syntax.specs.Parts.{Part, keyword, number, row, part_of, part_in, part_by, number_part, section_behind, opened, numbered, has_come, block_count, refuses_unlisted, rows_listed, vars_listed, is_among, is_listed, place_in}
use Rattle.dec_syntax.specs.Faults.{token_fault, part_fault, keyword_fault, number_fault, row_fault, awaits_number, is_single, names_block}
use Rattle.dec_syntax.specs.State.{HasRead}
use Rattle.dec_syntax.specs.declared.words.Keyword.{Keyword}
use Rattle.dec_syntax.specs.declared.words.Keyword.TheVariants.{Nblocks, Block, MasterConss}
use Rattle.dec_syntax.specs.declared.words.Section.{Section}
use Rattle.dec_syntax.specs.declared.words.Section.TheVariants.{Outside, Awaits, Rows}
use Rattle.dec_syntax.specs.declared.kind.DecKind.{DecKind}
use Rattle.dec_syntax.specs.declared.kind.DecKind.TheVariants as kinds
use Rattle.dec_syntax.proofs.ListLemmas.{among_found, number_found}
use Rattle.dec_syntax.proofs.ReadLemmas.{read_more}
use Rattle.dec_components.specs.Joined.{place_at}
use Rattle.dec_write.specs.Text.{Line, same_place, names_among, names_of, block_line, master_line}
use Rattle.dec_components.proofs.NumberLemmas.{no_some, one_some}
use Rattle.dec_write.proofs.SplitLemmas.{IsWord, word_good, word_tokens}
use Rattle.dec_write.proofs.WordLemmas.{number_decimal, decimal_word, keyword_words}

-- tokens behind parts are without fault, and these are the parts behind them
abbrev pub Walks : NamedProgram → List Part → List Token → List Part → Type 0
Walks m e [] f = e ≡ f
Walks m e (t ∷ ts) f = (token_fault m e t ≡ None) × Walks m (part_of e t ∷ e) ts f

walks_more : (m : NamedProgram) (e f g : List Part) (xs ys : List Token) → Walks m e xs f → Walks m f ys g → Walks m e (xs ++ ys) g
walks_more m e f g [] ys a b = subst (λ (x : List Part). Walks m x ys g) (sym a) b
walks_more m e f g (t ∷ xs) ys a b = (a.0, walks_more m (part_of e t ∷ e) f g xs ys a.1 b)

pub walk_reads : (text : List ℕ) (m : NamedProgram) (left : List Token) (e f : List Part) → HasRead text m left e → Walks m e left f → HasRead text m [] f
walk_reads text m [] e f h w = subst (HasRead text m []) w h
walk_reads text m (t ∷ ts) e f h w = walk_reads text m ts (part_of e t ∷ e) f (read_more text m (t ∷ ts) ts e t h refl w.0) w.1

name_at : NamedProgram → ℕ → List ℕ
name_at m i = get_or m.row_names i []

-- a decomposition that can be written: its rows' names are words, each its own, and its places are there
pub record IsWritable (m : NamedProgram) (d : Decomposition) : Type 0 where
  pub distinct : IsDistinct bytes_eq m.row_names
  pub each : length d.places ≡ length m.row_names
  pub known : (i k : ℕ) → place_at d i ≡ Some k → k < d.blocks
  pub words : (i : ℕ) → i < length m.row_names → IsWord (get_or m.row_names i [])
  pub few : d.blocks ≤ most_blocks m.program.limits

-- what is kept of the text so far
pub record Kept (m : NamedProgram) (d : Decomposition) (e : List Part) : Type 0 where
  pub counted : has_come e Nblocks ≡ true
  pub blocks : block_count e ≡ d.blocks
  pub lenient : refuses_unlisted e ≡ false
  pub unlisted : vars_listed m.names e ≡ []

-- places in the order in which they are written, the master last
abbrev pub rank : ℕ → Option ℕ → ℕ
rank blocks None = blocks
rank blocks (Some k) = k

-- a row is written before another: its place is earlier, or the same and it is an earlier row
abbrev pub IsBefore : (place row : ℕ) → (rank row : ℕ) → Type 0
IsBefore a i r j = (a < r) ⊎ ((a ≡ r) × (i < j))

-- a listed name is that of a row written before, listed in its place
pub record IsOf (m : NamedProgram) (d : Decomposition) (r j : ℕ) (entry : List ℕ × Option ℕ) : Type 0 where
  row : ℕ
  there : row < length m.row_names
  name : get_or m.row_names row [] ≡ entry.0
  place : place_at d row ≡ entry.1
  before : IsBefore (rank d.blocks (place_at d row)) row r j

-- the rows written before are listed, and no others
pub record Done (m : NamedProgram) (d : Decomposition) (e : List Part) (r j : ℕ) : Type 0 where
  pub of : AllByRecursion (IsOf m d r j) (rows_listed e)
  pub all : (i : ℕ) → i < length m.row_names → IsBefore (rank d.blocks (place_at d i)) i r j → is_listed (rows_listed e) (get_or m.row_names i []) ≡ true

-- ---- what is listed

one_name : (m : NamedProgram) (i j : ℕ) → IsDistinct bytes_eq m.row_names → i < length m.row_names → j < length m.row_names → get_or m.row_names i [] ≡ get_or m.row_names j [] → i ≡ j
one_name m i j distinct li lj same =
    sym (number_found m.row_names i (get_or m.row_names i []) distinct (slice_get-get_or m.row_names i [] li))
    ∙ number_found m.row_names j (get_or m.row_names i []) distinct (slice_get-get_or m.row_names j [] lj ∙ ap Some (sym same))

record FoundPlace (m : NamedProgram) (d : Decomposition) (r j : ℕ) (listing : List (List ℕ × Option ℕ)) (name : List ℕ) : Type 0 where
  row : ℕ
  there : row < length m.row_names
  named : get_or m.row_names row [] ≡ name
  place : place_in listing name ≡ place_at d row
  before : IsBefore (rank d.blocks (place_at d row)) row r j

listed_place : (m : NamedProgram) (d : Decomposition) (r j : ℕ) (listing : List (List ℕ × Option ℕ)) (name : List ℕ) → AllByRecursion (IsOf m d r j) listing → is_listed listing name ≡ true
    → FoundPlace m d r j listing name
listed_place m d r j [] name h e = absurd (both_ways false refl e)
listed_place m d r j (entry ∷ listing) name h e = by (bytes_eq entry.0 name) refl (listed_place m d r j listing name h.1)
  where
    by : (b : Bool) → bytes_eq entry.0 name ≡ b → (is_listed listing name ≡ true → FoundPlace m d r j listing name) → FoundPlace m d r j (entry ∷ listing) name
    by true same rest = record {
      row = h.0.row;
      there = h.0.there;
      named = h.0.name ∙ (bytes_eq-Decides entry.0 name).0 same;
      place = ap (λ (b : Bool). if b then entry.1 else place_in listing name) same ∙ sym h.0.place;
      before = h.0.before;
    }
    by false other rest =
        let found = rest (sym (ap (λ (b : Bool). if b then true else is_listed listing name) other) ∙ e) in
        record {
          row = found.row;
          there = found.there;
          named = found.named;
          place = ap (λ (b : Bool). if b then entry.1 else place_in listing name) other ∙ found.place;
          before = found.before;
        }

-- the place in which a listed row's name is listed
pub row_place : (m : NamedProgram) (d : Decomposition) (r j i : ℕ) (e : List Part) → IsDistinct bytes_eq m.row_names → i < length m.row_names → Done m d e r j
    → IsBefore (rank d.blocks (place_at d i)) i r j → place_in (rows_listed e) (get_or m.row_names i []) ≡ place_at d i
row_place m d r j i e distinct l done before =
    let found = listed_place m d r j (rows_listed e) (get_or m.row_names i []) done.of (done.all i l before) in
    found.place ∙ ap (place_at d) (one_name m found.row i distinct found.there l found.named)

-- a row that isn't before is not listed
not_listed : (m : NamedProgram) (d : Decomposition) (r j i : ℕ) (e : List Part) → IsDistinct bytes_eq m.row_names → i < length m.row_names → Done m d e r j
    → (IsBefore (rank d.blocks (place_at d i)) i r j → ⊥) → is_listed (rows_listed e) (get_or m.row_names i []) ≡ false
not_listed m d r j i e distinct l done never = false_from_ne_true (is_listed (rows_listed e) (get_or m.row_names i [])) (λ listed.
    let found = listed_place m d r j (rows_listed e) (get_or m.row_names i []) done.of listed in
    never (subst (λ (x : ℕ). IsBefore (rank d.blocks (place_at d x)) x r j) (one_name m found.row i distinct found.there l found.named) found.before))

-- ---- rows and places in order

later_row : (a i r j : ℕ) → IsBefore a i r j → IsBefore a i r (suc j)
later_row a i r j (inl l) = inl l
later_row a i r j (inr e) = inr (e.0, omega (arith, e.1))

map_of : (m : NamedProgram) (d : Decomposition) (r j s k : ℕ) (listing : List (List ℕ × Option ℕ))
    → ((a i : ℕ) → i < length m.row_names → IsBefore a i r j → IsBefore a i s k) → AllByRecursion (IsOf m d r j) listing → AllByRecursion (IsOf m d s k) listing
map_of m d r j s k [] later h = tt
map_of m d r j s k (x ∷ listing) later h = (
  record { row = h.0.row; there = h.0.there; name = h.0.name; place = h.0.place; before = later (rank d.blocks (place_at d h.0.row)) h.0.row h.0.there h.0.before },
  map_of m d r j s k listing later h.1,
)

-- the same rows are before another place
done_as : (m : NamedProgram) (d : Decomposition) (e : List Part) (r j s k : ℕ) → ((a i : ℕ) → i < length m.row_names → IsBefore a i r j → IsBefore a i s k)
    → ((i : ℕ) → i < length m.row_names → IsBefore (rank d.blocks (place_at d i)) i s k → IsBefore (rank d.blocks (place_at d i)) i r j) → Done m d e r j → Done m d e s k
done_as m d e r j s k later earlier done = record {
  of = map_of m d r j s k (rows_listed e) later done.of;
  all = λ i l before. done.all i l (earlier i l before);
}

one_rank : (d : Decomposition) (i : ℕ) (place : Option ℕ) → ((k : ℕ) → place_at d i ≡ Some k → k < d.blocks) → ((k : ℕ) → place ≡ Some k → k < d.blocks)
    → rank d.blocks (place_at d i) ≡ rank d.blocks place → place_at d i ≡ place
one_rank d i place known there same = by (place_at d i) place refl refl
  where
    by : (x y : Option ℕ) → place_at d i ≡ x → place ≡ y → place_at d i ≡ place
    by None None a b = a ∙ sym b
    by None (Some k) a b = absurd (
        let equal : d.blocks ≡ k = sym (ap (rank d.blocks) a) ∙ same ∙ ap (rank d.blocks) b in
        let low : k < d.blocks = there k b in
        omega (arith, equal, low)
        )
    by (Some k) None a b = absurd (
        let equal : k ≡ d.blocks = sym (ap (rank d.blocks) a) ∙ same ∙ ap (rank d.blocks) b in
        let low : k < d.blocks = known k a in
        omega (arith, equal, low)
        )
    by (Some k) (Some l) a b =
        let equal : k ≡ l = sym (ap (rank d.blocks) a) ∙ same ∙ ap (rank d.blocks) b in
        a ∙ ap Some equal ∙ sym b

-- ---- the names of a place

-- a name in its place
name_step : (m : NamedProgram) (d : Decomposition) (place : Option ℕ) (n j : ℕ) (e : List Part) → IsWritable m d → j < length m.row_names → place_at d j ≡ place
    → section_behind e ≡ Rows place → Done m d e (rank d.blocks place) j
    → (token_fault m e (token_of n false (get_or m.row_names j [])) ≡ None) × (part_of e (token_of n false (get_or m.row_names j [])) ≡ row place (get_or m.row_names j []))
unfolding token_fault part_of keyword_of
name_step m d place n j e ok l at section done =
    let name : List ℕ = get_or m.row_names j [] in
    let good : has_bad_byte (get_or m.row_names j []) ≡ false = word_good (get_or m.row_names j []) (ok.words j l) in
    let part : part_in (section_behind e) (get_or m.row_names j []) ≡ row place (get_or m.row_names j []) = ap (λ (s : Section). part_in s (get_or m.row_names j [])) section in
    let among : is_among m.row_names (get_or m.row_names j []) ≡ true = among_found m.row_names j (get_or m.row_names j []) (slice_get-get_or m.row_names j [] l) in
    let fresh : is_listed (rows_listed e) (get_or m.row_names j []) ≡ false = not_listed m d (rank d.blocks place) j j e ok.distinct l done
    (λ before. ⊎_elim (λ less. let same = ap (rank d.blocks) at in omega (arith, less, same)) (λ equal. omega (arith, equal.1)) before) in
    let faultless : row_fault m.row_names (rows_listed e) (get_or m.row_names j []) ≡ None =
    ap (λ (b : Bool). if b then (if is_listed (rows_listed e) (get_or m.row_names j []) then Some kinds.RowTwice else None) else Some kinds.UnknownRow) among
    ∙ ap (λ (b : Bool). if b then Some kinds.RowTwice else None) fresh in (
      ap (λ (b : Bool). if b then Some kinds.BadByte else part_fault m e (part_in (section_behind e) (get_or m.row_names j []))) good
          ∙ ap (part_fault m e) part
          ∙ faultless,
      part,
    )

-- one row more is listed
done_more : (m : NamedProgram) (d : Decomposition) (place : Option ℕ) (j : ℕ) (e : List Part) → IsWritable m d → j < length m.row_names → place_at d j ≡ place
    → Done m d e (rank d.blocks place) j → Done m d (row place (get_or m.row_names j []) ∷ e) (rank d.blocks place) (suc j)
unfolding rows_listed
done_more m d place j e ok l at done = record {
  of = (
    record { row = j; there = l; name = refl; place = at; before = inr (ap (rank d.blocks) at, omega arith) },
    map_of m d (rank d.blocks place) j (rank d.blocks place) (suc j) (rows_listed e) (λ a i il before. later_row a i (rank d.blocks place) j before) done.of,
  );
  all = λ i il before. by (bytes_eq (get_or m.row_names j []) (get_or m.row_names i [])) i refl il before;
}
  where
    old : (i : ℕ) → i < length m.row_names → IsBefore (rank d.blocks (place_at d i)) i (rank d.blocks place) (suc j) → i ≢ j → is_listed (rows_listed e) (get_or m.row_names i []) ≡ true
    old i il (inl less) apart = done.all i il (inl less)
    old i il (inr same) apart = done.all i il (inr (same.0, omega (arith, same.1, apart)))

    by : (b : Bool) (i : ℕ) → bytes_eq (get_or m.row_names j []) (get_or m.row_names i []) ≡ b → i < length m.row_names
        → IsBefore (rank d.blocks (place_at d i)) i (rank d.blocks place) (suc j)
        → is_listed ((get_or m.row_names j [], place) ∷ rows_listed e) (get_or m.row_names i []) ≡ true
    by true i is il before = ap (λ (b : Bool). if b then true else is_listed (rows_listed e) (get_or m.row_names i [])) is
    by false i is il before =
        ap (λ (b : Bool). if b then true else is_listed (rows_listed e) (get_or m.row_names i [])) is
        ∙ old i il before (λ same. both_ways (bytes_eq (get_or m.row_names j []) (get_or m.row_names i [])) is
        ((bytes_eq-Decides (get_or m.row_names j []) (get_or m.row_names i [])).1 (ap (λ (x : ℕ). get_or m.row_names x []) (sym same))))

kept_row : (m : NamedProgram) (d : Decomposition) (place : Option ℕ) (name : List ℕ) (e : List Part) → Kept m d e → Kept m d (row place name ∷ e)
unfolding has_come block_count refuses_unlisted vars_listed
kept_row m d place name e h = record { counted = h.counted; blocks = h.blocks; lenient = h.lenient; unlisted = h.unlisted }

section_row : (place : Option ℕ) (name : List ℕ) (e : List Part) → section_behind (row place name ∷ e) ≡ section_behind e
unfolding section_behind
section_row place name e = refl

-- tokens walked along, with what stands behind them
pub record Walked (m : NamedProgram) (d : Decomposition) (place : Option ℕ) (e : List Part) (ts : List Token) (r j : ℕ) : Type 0 where
  pub after : List Part
  pub walks : Walks m e ts after
  pub section : section_behind after ≡ Rows place
  pub kept : Kept m d after
  pub done : Done m d after r j

-- the first of what is left of rows with their places
next_row : (names : List (List ℕ)) (places : List (Option ℕ)) (j : ℕ) (x : List ℕ × Option ℕ) (xs : List (List ℕ × Option ℕ)) → length places ≡ length names → x ∷ xs ≡ drop j (zip names places)
    → (j < length names) × (get_or names j [] ≡ x.0) × (get_or places j None ≡ x.1) × (xs ≡ drop (suc j) (zip names places))
next_row [] places zero x xs same e = absurd (let odd : ◌≡◌ {A = List (List ℕ × Option ℕ)} (x ∷ xs) [] = e in cc)
next_row [] places (suc j) x xs same e = absurd (let odd : ◌≡◌ {A = List (List ℕ × Option ℕ)} (x ∷ xs) [] = e in cc)
next_row (n ∷ names) [] j x xs same e = absurd (omega arith)
next_row (n ∷ names) (p ∷ places) zero x xs same e =
    let head : x ≡ (n, p) = cc in
    let tail : xs ≡ zip names places = cc in
    (omega arith, ap (λ (y : List ℕ × Option ℕ). y.0) (sym head), ap (λ (y : List ℕ × Option ℕ). y.1) (sym head), tail)
next_row (n ∷ names) (p ∷ places) (suc j) x xs same e =
    let rest = next_row names places j x xs (omega (arith, same)) e in
    (omega (arith, rest.0), rest.1, rest.2, rest.3)

no_row : (names : List (List ℕ)) (places : List (Option ℕ)) (j : ℕ) → length places ≡ length names → [] ≡ drop j (zip names places) → length names ≤ j
no_row [] places j same e = omega arith
no_row (n ∷ names) [] j same e = absurd (omega arith)
no_row (n ∷ names) (p ∷ places) zero same e = absurd (let odd : ◌≡◌ {A = List (List ℕ × Option ℕ)} [] ((n, p) ∷ zip names places) = e in cc)
no_row (n ∷ names) (p ∷ places) (suc j) same e = let more : length names ≤ j = no_row names places j (omega (arith, same)) e in omega (arith, more)

place_is : (place other : Option ℕ) → same_place place other ≡ true → other ≡ place
place_is None None e = refl
place_is None (Some k) e = absurd (both_ways false refl e)
place_is (Some k) None e = absurd (both_ways false refl e)
place_is (Some k) (Some j) e = ⊎_elim (λ same. ap Some same.1) (λ other. absurd (both_ways (j == k) other.0 e)) (eqb_tells j k)

place_own : (place : Option ℕ) → same_place place place ≡ true
place_own None = refl
place_own (Some k) = ⊎_elim (λ same. same.0) (λ other. absurd (other.1 refl)) (eqb_tells k k)

-- the names of a place among rows are walked along, behind parts in whose section names of the place stand
abbrev WalksNames : NamedProgram → Decomposition → Option ℕ → (n j : ℕ) → List (List ℕ × Option ℕ) → Type 0
WalksNames m d place n j rows = (e : List Part) → IsWritable m d
    → ((k : ℕ) → place ≡ Some k → k < d.blocks) → rows ≡ drop j (zip m.row_names d.places) → section_behind e ≡ Rows place → Kept m d e → Done m d e (rank d.blocks place) j
    → Walked m d place e (line_tokens n false (names_among place rows)) (rank d.blocks place) (length m.row_names)

walk_names : (m : NamedProgram) (d : Decomposition) (place : Option ℕ) (n j : ℕ) (rows : List (List ℕ × Option ℕ)) → WalksNames m d place n j rows
walk_names m d place n j [] e ok there is section kept done = record {
  after = e;
  walks = refl;
  section = section;
  kept = kept;
  done = done_as m d e (rank d.blocks place) j (rank d.blocks place) (length m.row_names)
      (λ a i l before. ⊎_elim (λ less. inl less) (λ same. inr (same.0, l)) before)
      (λ i l before. ⊎_elim (λ less. inl less) (λ same. inr (same.0, omega (arith, l, no_row m.row_names d.places j ok.each is))) before) done;
}
walk_names m d place n j (x ∷ rows) e ok there is section kept done = by (same_place place x.1) refl (walk_names m d place n (suc j) rows)
  where
    next : (j < length m.row_names) × (get_or m.row_names j [] ≡ x.0) × (get_or d.places j None ≡ x.1) × (rows ≡ drop (suc j) (zip m.row_names d.places))
    next = next_row m.row_names d.places j x rows ok.each is

    -- a row of the place
    here : WalksNames m d place n (suc j) rows → place_at d j ≡ place → Walked m d place e (line_tokens n false (x.0 ∷ names_among place rows)) (rank d.blocks place) (length m.row_names)
    here rest at =
        let step = name_step m d place n j e ok next.0 at section done in
        let walked = rest (row place (get_or m.row_names j []) ∷ e) ok there next.3 (section_row place (get_or m.row_names j []) e ∙ section) (kept_row m d place (get_or m.row_names j []) e kept)
        (done_more m d place j e ok next.0 at done) in
        record {
          after = walked.after;
          walks = subst (λ (w : List ℕ). Walks m e (token_of n false w ∷ line_tokens n false (names_among place rows)) walked.after) next.1
              (step.0, subst (λ (p : Part). Walks m (p ∷ e) (line_tokens n false (names_among place rows)) walked.after) (sym step.1) walked.walks);
          section = walked.section;
          kept = walked.kept;
          done = walked.done;
        }

    -- a row of another place
    elsewhere : WalksNames m d place n (suc j) rows → (place_at d j ≢ place) → Walked m d place e (line_tokens n false (names_among place rows)) (rank d.blocks place) (length m.row_names)
    elsewhere rest apart = rest e ok there next.3 section kept (done_as m d e (rank d.blocks place) j (rank d.blocks place) (suc j)
        (λ a i l before. later_row a i (rank d.blocks place) j before)
        (λ i l before. ⊎_elim (λ less. inl less) (λ same. ⊎_elim
        (λ equal. absurd (apart (one_rank d j place (λ k. ok.known j k) there (ap (λ (y : ℕ). rank d.blocks (place_at d y)) (sym equal) ∙ same.0))))
        (λ other. inr (same.0, omega (arith, same.1, other)))
        (cases_eq i j)) before) done)

    by : (b : Bool) → same_place place x.1 ≡ b → WalksNames m d place n (suc j) rows → Walked m d place e (line_tokens n false (map (λ (y : List ℕ × Option ℕ). y.0) (if b then x ∷ filter (λ (y : List ℕ × Option ℕ). same_place place y.1) rows else filter (λ (y : List ℕ × Option ℕ). same_place place y.1) rows))) (rank d.blocks place) (length m.row_names)
    by true same rest = here rest (next.2 ∙ place_is place x.1 same)
    by false other rest = elsewhere rest (λ at. both_ways (same_place place x.1) other (ap (same_place place) (sym next.2 ∙ at) ∙ place_own place))

-- ---- lines

-- a keyword at the front of a line
keyword_step : (m : NamedProgram) (e : List Part) (n : ℕ) (word : List ℕ) (k : Keyword) → keyword_of true word ≡ Some k → has_bad_byte word ≡ false
    → keyword_fault (section_behind e) (has_come e) k ≡ None → (token_fault m e (token_of n true word) ≡ None) × (part_of e (token_of n true word) ≡ keyword k)
unfolding token_fault part_of
keyword_step m e n word k is good faultless =
    let part : part_by (keyword_of true word) (section_behind e) word ≡ keyword k = ap (λ (o : Option Keyword). part_by o (section_behind e) word) is in (
      ap (λ (b : Bool). if b then Some kinds.BadByte else part_fault m e (part_by (keyword_of true word) (section_behind e) word)) good
          ∙ ap (part_fault m e) part
          ∙ faultless,
      part,
    )

-- a number behind its keyword
number_step : (m : NamedProgram) (e : List Part) (n x : ℕ) (k : Keyword) → x < 2 ^ 64 → section_behind e ≡ Awaits k → number_fault m.program.limits (block_count e) k x ≡ None
    → (token_fault m e (token_of n false (decimal x)) ≡ None) × (part_of e (token_of n false (decimal x)) ≡ number k x)
unfolding token_fault part_of keyword_of
number_step m e n x k l section faultless =
    let good : has_bad_byte (decimal x) ≡ false = word_good (decimal x) (decimal_word x l) in
    let part : part_in (section_behind e) (decimal x) ≡ number k x =
    ap (λ (s : Section). part_in s (decimal x)) section ∙ ap (number_part k) (number_decimal x l) in (
      ap (λ (b : Bool). if b then Some kinds.BadByte else part_fault m e (part_in (section_behind e) (decimal x))) good
          ∙ ap (part_fault m e) part
          ∙ faultless,
      part,
    )

block_word : keyword_of true (codes "BLOCK") ≡ Some Block
unfolding keyword_of
block_word = refl

master_word : keyword_of true (codes "MASTERCONSS") ≡ Some MasterConss
unfolding keyword_of
master_word = refl

count_word : keyword_of true (codes "NBLOCKS") ≡ Some Nblocks
unfolding keyword_of
count_word = refl

-- a keyword that names a block, or the master, behind the count of blocks
open_block : (e : List Part) → awaits_number (section_behind e) ≡ false → has_come e Nblocks ≡ true → keyword_fault (section_behind e) (has_come e) Block ≡ None
open_block e waits counted =
    ap (λ (b : Bool). if b then Some kinds.Syntax else (if not (has_come e Nblocks) then Some kinds.NoNblocks else None)) waits
    ∙ ap (λ (b : Bool). if not b then Some kinds.NoNblocks else None) counted

open_master : (e : List Part) → awaits_number (section_behind e) ≡ false → keyword_fault (section_behind e) (has_come e) MasterConss ≡ None
open_master e waits = ap (λ (b : Bool). if b then Some kinds.Syntax else None) waits

block_known : (limits : Limits) (blocks a : ℕ) → a < blocks → number_fault limits blocks Block (a + 1) ≡ None
block_known limits blocks a l =
    ap (λ (b : Bool). if b && nat_le (a + 1) blocks then None else Some kinds.BlockNumber) (le-leb 1 (a + 1) (omega arith))
    ∙ ap (λ (b : Bool). if b then None else Some kinds.BlockNumber) (le-leb (a + 1) blocks (omega arith))

kept_keyword : (m : NamedProgram) (d : Decomposition) (e : List Part) → Kept m d e → Kept m d (keyword Block ∷ e) × Kept m d (keyword MasterConss ∷ e)
unfolding has_come block_count refuses_unlisted vars_listed
kept_keyword m d e h = (
  record { counted = h.counted; blocks = h.blocks; lenient = h.lenient; unlisted = h.unlisted },
  record { counted = h.counted; blocks = h.blocks; lenient = h.lenient; unlisted = h.unlisted },
)

kept_number : (m : NamedProgram) (d : Decomposition) (x : ℕ) (e : List Part) → Kept m d e → Kept m d (number Block x ∷ e)
unfolding has_come block_count refuses_unlisted vars_listed
kept_number m d x e h = record { counted = h.counted; blocks = h.blocks; lenient = h.lenient; unlisted = h.unlisted }

done_keyword : (m : NamedProgram) (d : Decomposition) (k : Keyword) (e : List Part) (r j : ℕ) → Done m d e r j → Done m d (keyword k ∷ e) r j
unfolding rows_listed
done_keyword m d k e r j h = record { of = h.of; all = h.all }

done_number : (m : NamedProgram) (d : Decomposition) (k : Keyword) (x : ℕ) (e : List Part) (r j : ℕ) → Done m d e r j → Done m d (number k x ∷ e) r j
unfolding rows_listed
done_number m d k x e r j h = record { of = h.of; all = h.all }

section_keyword : (k : Keyword) (e : List Part) → section_behind (keyword k ∷ e) ≡ opened k
unfolding section_behind
section_keyword k e = refl

section_number : (k : Keyword) (x : ℕ) (e : List Part) → section_behind (number k x ∷ e) ≡ numbered k x
unfolding section_behind
section_number k x e = refl

rows_await : (place : Option ℕ) (s : Section) → s ≡ Rows place → awaits_number s ≡ false
rows_await place s e = ap awaits_number e

-- the line of the master
walk_master : (m : NamedProgram) (d : Decomposition) (n : ℕ) (e : List Part) → IsWritable m d → awaits_number (section_behind e) ≡ false → Kept m d e → Done m d e d.blocks 0
    → Walked m d None e (line_tokens n true (codes "MASTERCONSS" ∷ names_of m d None)) d.blocks (length m.row_names)
walk_master m d n e ok waits kept done =
    let step = keyword_step m e n (codes "MASTERCONSS") MasterConss master_word (word_good (codes "MASTERCONSS") keyword_words.2) (open_master e waits) in
    let walked = walk_names m d None n 0 (zip m.row_names d.places) (keyword MasterConss ∷ e) ok (λ k odd. absurd (no_some k odd)) refl (section_keyword MasterConss e)
    (kept_keyword m d e kept).1 (done_keyword m d MasterConss e d.blocks 0 done) in
    record {
      after = walked.after;
      walks = (step.0, subst (λ (p : Part). Walks m (p ∷ e) (line_tokens n false (names_of m d None)) walked.after) (sym step.1) walked.walks);
      section = walked.section;
      kept = walked.kept;
      done = walked.done;
    }

-- the line of a block
walk_block : (m : NamedProgram) (d : Decomposition) (n a : ℕ) (e : List Part) → IsWritable m d → a < d.blocks → awaits_number (section_behind e) ≡ false → Kept m d e → Done m d e a 0
    → Walked m d (Some a) e (line_tokens n true (codes "BLOCK" ∷ decimal (a + 1) ∷ names_of m d (Some a))) a (length m.row_names)
walk_block m d n a e ok low waits kept done =
    let one = keyword_step m e n (codes "BLOCK") Block block_word (word_good (codes "BLOCK") keyword_words.1) (open_block e waits kept.counted) in
    let kept1 = (kept_keyword m d e kept).0 in
    let small : a + 1 < 2 ^ 64 = omega (arith, ok.few, low, few_blocks m.program.limits) in
    let two = number_step m (keyword Block ∷ e) n (a + 1) Block small (section_keyword Block e)
    (ap (λ (b : ℕ). number_fault m.program.limits b Block (a + 1)) kept1.blocks ∙ block_known m.program.limits d.blocks a low) in
    let back : a + 1 - 1 ≡ a = omega arith in
    let section = section_number Block (a + 1) (keyword Block ∷ e) ∙ ap (λ (x : ℕ). Rows (Some x)) back in
    let walked = walk_names m d (Some a) n 0 (zip m.row_names d.places) (number Block (a + 1) ∷ keyword Block ∷ e) ok (λ k same. subst (λ (x : ℕ). x < d.blocks) (one_some a k same) low) refl section
    (kept_number m d (a + 1) (keyword Block ∷ e) kept1) (done_number m d Block (a + 1) (keyword Block ∷ e) a 0 (done_keyword m d Block e a 0 done)) in
    record {
      after = walked.after;
      walks = (
        one.0,
        subst (λ (p : Part). Walks m (p ∷ e) (token_of n false (decimal (a + 1)) ∷ line_tokens n false (names_of m d (Some a))) walked.after) (sym one.1)
            (two.0, subst (λ (p : Part). Walks m (p ∷ keyword Block ∷ e) (line_tokens n false (names_of m d (Some a))) walked.after) (sym two.1) walked.walks),
      );
      section = walked.section;
      kept = walked.kept;
      done = walked.done;
    }

-- the lines of all blocks from one on, and of the master
walk_lines : (m : NamedProgram) (d : Decomposition) (len a n : ℕ) (e : List Part) → IsWritable m d → a + len ≡ d.blocks → awaits_number (section_behind e) ≡ false → Kept m d e → Done m d e a 0
    → Walked m d None e (word_tokens n (map (block_line m d) (range_with_len a len) ++ (master_line m d ∷ []))) d.blocks (length m.row_names)
walk_lines m d zero a n e ok sum waits kept done =
    let same : a ≡ d.blocks = omega (arith, sum) in
    let walked = walk_master m d n e ok waits kept (subst (λ (x : ℕ). Done m d e x 0) same done) in
    record {
      after = walked.after;
      walks = walks_more m e walked.after walked.after (line_tokens n true (codes "MASTERCONSS" ∷ names_of m d None)) [] walked.walks refl;
      section = walked.section;
      kept = walked.kept;
      done = walked.done;
    }
walk_lines m d (suc len) a n e ok sum waits kept done =
    let block = walk_block m d n a e ok (omega (arith, sum)) waits kept done in
    let later = done_as m d block.after a (length m.row_names) (a + 1) 0
    (λ b i l before. ⊎_elim (λ less. inl (omega (arith, less))) (λ same. inl (omega (arith, same.0))) before)
    (λ i l before. ⊎_elim (λ less. ⊎_elim (λ same. inr (same, l)) (λ other. inl (omega (arith, less, other))) (cases_eq (rank d.blocks (place_at d i)) a)) (λ odd. absurd (omega (arith, odd.1))) before)
    block.done in
    let rest = walk_lines m d len (a + 1) (n + 1) block.after ok (omega (arith, sum)) (rows_await (Some a) (section_behind block.after) block.section) block.kept later in
    record {
      after = rest.after;
      walks = walks_more m e block.after rest.after (line_tokens n true (codes "BLOCK" ∷ decimal (a + 1) ∷ names_of m d (Some a)))
          (word_tokens (n + 1) (map (block_line m d) (range_with_len (a + 1) len) ++ (master_line m d ∷ []))) block.walks rest.walks;
      section = rest.section;
      kept = rest.kept;
      done = rest.done;
    }

-- all lines
counted_parts : Decomposition → List Part
counted_parts d = number Nblocks d.blocks ∷ keyword Nblocks ∷ []

start_kept : (m : NamedProgram) (d : Decomposition) → Kept m d (counted_parts d)
unfolding counted_parts has_come block_count refuses_unlisted vars_listed
start_kept m d = record { counted = refl; blocks = refl; lenient = refl; unlisted = refl }

start_done : (m : NamedProgram) (d : Decomposition) → Done m d (counted_parts d) 0 0
unfolding counted_parts rows_listed
start_done m d = record { of = tt; all = λ i l before. absurd (⊎_elim (λ less. omega (arith, less)) (λ same. omega (arith, same.1)) before) }

start_waits : (d : Decomposition) → awaits_number (section_behind (counted_parts d)) ≡ false
unfolding counted_parts section_behind
start_waits d = refl

start_open : keyword_fault (section_behind []) (has_come []) Nblocks ≡ None
unfolding section_behind has_come
start_open = refl

count_known : (limits : Limits) (blocks : ℕ) → blocks ≤ most_blocks limits → number_fault limits (block_count (keyword Nblocks ∷ [])) Nblocks blocks ≡ None
count_known limits blocks l = ap (λ (b : Bool). if b then None else Some kinds.Limit) (le-leb blocks (most_blocks limits) l)

pub walk_text : (m : NamedProgram) (d : Decomposition) → IsWritable m d
    → Walked m d None [] (word_tokens 1 (record { first = codes "NBLOCKS"; words = decimal d.blocks ∷ [] } ∷ (map (block_line m d) (range_with_len 0 d.blocks) ++ (master_line m d ∷ [])))) d.blocks (length m.row_names)
unfolding counted_parts
walk_text m d ok =
    let one = keyword_step m [] 1 (codes "NBLOCKS") Nblocks count_word (word_good (codes "NBLOCKS") keyword_words.0) start_open in
    let small : d.blocks < 2 ^ 64 = omega (arith, ok.few, few_blocks m.program.limits) in
    let two = number_step m (keyword Nblocks ∷ []) 1 d.blocks Nblocks small (section_keyword Nblocks []) (count_known m.program.limits d.blocks ok.few) in
    let rest = walk_lines m d d.blocks 0 2 (counted_parts d) ok (omega arith) (start_waits d) (start_kept m d) (start_done m d) in
    record {
      after = rest.after;
      walks = (
        one.0,
        subst (λ (p : Part). Walks m (p ∷ []) (token_of 1 false (decimal d.blocks) ∷ word_tokens 2 (map (block_line m d) (range_with_len 0 d.blocks) ++ (master_line m d ∷ []))) rest.after) (sym one.1)
            (two.0, subst (λ (p : Part). Walks m (p ∷ keyword Nblocks ∷ []) (word_tokens 2 (map (block_line m d) (range_with_len 0 d.blocks) ++ (master_line m d ∷ []))) rest.after) (sym two.1) rest.walks),
      );
      section = rest.section;
      kept = rest.kept;
      done = rest.done;
    }
