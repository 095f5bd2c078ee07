-- The lines that are written are those of a decomposition, and their text is read as it.
use Rattle.std.proofs.Common.{◌≡◌, ◌≢◌, ◌⊎◌, ℕ, zero, suc, ◌+◌, ◌*◌, ◌<◌, ◌≤◌, ◌^◌, ◌==◌, Bool, true, false, not, ◌&&◌, if◌then◌else◌, List, [], ◌∷◌, ◌++◌, length, get_or, map, filter, take, drop, Option, Some, None, Result, Ok, Err, refl, sym, ap, subst, ◌∙◌, ⊎_elim, inl, inr, arith, append_assoc, add-one}
use Rattle.std.proofs.Math.ListN.{set}
use Rattle.std.proofs.lemmas.Bool.{both_ways, cases_eq}
use Rattle.std.proofs.lemmas.Bool.Decides.{eqb_tells}
use Rattle.std.proofs.lemmas.List.{append-nil, ext_get_or}
use Rattle.std.proofs.lemmas.Option.{slice_get-get_or}
use Rattle.std.specs.Prelude.{codes, decimal, is_none, slice_get, All, OnOk}
use Rattle.std.specs.List.{AllByRecursion, range_with_len, zip, flat_map}
use Rattle.bp_theory.specs.Decomposition.{Decomposition, HasPlaces, IsPlace, is_block}
use Rattle.bp_theory.specs.Limits.{most_blocks, most_bytes}
use Rattle.bp_theory.specs.declared.Limits.TheVariants.{Large}
use Rattle.bp_theory.proofs.LimitLaws.{few_blocks}
use Rattle.bp_model.specs.Named.{NamedProgram, IsKept}
use Rattle.dec_syntax.specs.Cut.{Token}
use Rattle.dec_syntax.specs.State.{HasRead}
use Rattle.dec_syntax.specs.declared.words.Keyword.TheVariants.{Nblocks}
use Rattle.dec_syntax.specs.Scan.{tokens_at}
use Rattle.dec_syntax.specs.Parts.{Part, rows_listed, place_in, section_behind, has_come, refuses_unlisted, block_count, vars_listed, decomposition_of}
use Rattle.dec_syntax.specs.Faults.{end_fault, lacks_row, awaits_number}
use Rattle.dec_read.specs.Reading.{ReadsDecomposition}
use Rattle.dec_syntax.specs.declared.words.Section.TheVariants.{Rows}
use Rattle.dec_syntax.specs.declared.words.Section.{Section}
use Rattle.dec_syntax.specs.declared.kind.DecKind.{DecKind}
use Rattle.dec_syntax.specs.declared.kind.DecKind.TheVariants as kinds
use Rattle.dec_syntax.proofs.ListLemmas.{map_at}
use Rattle.dec_syntax.proofs.ReadLemmas.{read_none}
use Rattle.dec_read.proofs.EndLemmas.{end_reads}
use Rattle.dec_components.specs.Joined.{place_at}
use Rattle.dec_write.specs.Text.{IsRowName, Line, same_place, names_among, names_of, spaced, block_head, master_head, block_line, master_line, lines_of, line_bytes, text_of, line_at, AreLines}
use Rattle.dec_write.specs.declared.text.Lines.{Lines}
use Rattle.dec_components.proofs.FoundLemmas.{same_parts}
use Rattle.dec_components.proofs.NumberLemmas.{some_there}
use Rattle.dec_write.proofs.SplitLemmas.{IsWord, IsLine, word_tokens, tokens_lines}
use Rattle.dec_write.proofs.WordLemmas.{name_word, decimal_word, keyword_words}
use Rattle.dec_write.proofs.WalkLemmas.{IsWritable, Walked, walk_reads, walk_text, row_place}

-- ---- lists of lines

pub map_last : {X : Type 0} (f : X → List ℕ) (xs : List X) (x : X) → get_or (map f (xs ++ (x ∷ []))) (length xs) [] ≡ f x
map_last f [] x = refl
map_last f (y ∷ xs) x = map_last f xs x

pub map_before : {X : Type 0} (f : X → List ℕ) (xs : List X) (x : X) (k : ℕ) → k < length xs → get_or (map f (xs ++ (x ∷ []))) k [] ≡ get_or (map f xs) k []
map_before f [] x k l = absurd (omega arith)
map_before f (y ∷ xs) x zero l = refl
map_before f (y ∷ xs) x (suc k) l = map_before f xs x k (omega (arith, l))

pub map_set_same : {X : Type 0} (f : X → List ℕ) (xs : List X) (x : X) (k : ℕ) → k < length xs → get_or (map f (set xs k x)) k [] ≡ f x
map_set_same f [] x k l = absurd (omega arith)
map_set_same f (y ∷ xs) x zero l = refl
map_set_same f (y ∷ xs) x (suc k) l = map_set_same f xs x k (omega (arith, l))

pub map_set_other : {X : Type 0} (f : X → List ℕ) (xs : List X) (x : X) (i k : ℕ) → k ≢ i → get_or (map f (set xs i x)) k [] ≡ get_or (map f xs) k []
map_set_other f [] x i k apart = refl
map_set_other f (y ∷ xs) x zero zero apart = absurd (apart refl)
map_set_other f (y ∷ xs) x zero (suc k) apart = refl
map_set_other f (y ∷ xs) x (suc i) zero apart = refl
map_set_other f (y ∷ xs) x (suc i) (suc k) apart = map_set_other f xs x i k (λ same. apart (ap suc same))

pub map_get : {X : Type 0} (f : X → List ℕ) (xs : List X) (k : ℕ) (d : X) → k < length xs → get_or (map f xs) k [] ≡ f (get_or xs k d)
map_get f [] k d l = absurd (omega arith)
map_get f (y ∷ xs) zero d l = refl
map_get f (y ∷ xs) (suc k) d l = map_get f xs k d (omega (arith, l))

-- ---- one name more

spaced_more : (xs : List (List ℕ)) (x : List ℕ) → spaced (xs ++ (x ∷ [])) ≡ spaced xs ++ (32 ∷ x)
spaced_more [] x = append-nil (32 ∷ x)
spaced_more (y ∷ xs) x = ap (λ (t : List ℕ). (32 ∷ y) ++ t) (spaced_more xs x) ∙ sym (append_assoc (32 ∷ y) (spaced xs) (32 ∷ x))

abbrev pub names_by : Bool → List ℕ → List (List ℕ) → List (List ℕ)
names_by b name names = if b then name ∷ names else names

abbrev more_by : Bool → List ℕ → List (List ℕ) → List (List ℕ)
more_by b name names = if b then names ++ (name ∷ []) else names

pub names_step : (place : Option ℕ) (x : List ℕ × Option ℕ) (rows : List (List ℕ × Option ℕ)) → names_among place (x ∷ rows) ≡ names_by (same_place place x.1) x.0 (names_among place rows)
names_step place x rows = by (same_place place x.1)
  where
    by : (b : Bool) → map (λ (e : List ℕ × Option ℕ). e.0) (if b then x ∷ filter (λ (e : List ℕ × Option ℕ). same_place place e.1) rows else filter (λ (e : List ℕ × Option ℕ). same_place place e.1) rows)
        ≡ names_by b x.0 (names_among place rows)
    by true = refl
    by false = refl

names_more : (place : Option ℕ) (rows : List (List ℕ × Option ℕ)) (x : List ℕ × Option ℕ) → names_among place (rows ++ (x ∷ [])) ≡ more_by (same_place place x.1) x.0 (names_among place rows)
names_more place [] x = names_step place x [] ∙ by (same_place place x.1)
  where
    by : (b : Bool) → names_by b x.0 [] ≡ more_by b x.0 []
    by true = refl
    by false = refl
names_more place (y ∷ rows) x =
    names_step place y (rows ++ (x ∷ [])) ∙ ap (names_by (same_place place y.1) y.0) (names_more place rows x)
    ∙ by (same_place place y.1) (same_place place x.1) ∙ ap (more_by (same_place place x.1) x.0) (sym (names_step place y rows))
  where
    by : (b t : Bool) → names_by b y.0 (more_by t x.0 (names_among place rows)) ≡ more_by t x.0 (names_by b y.0 (names_among place rows))
    by true true = refl
    by true false = refl
    by false true = refl
    by false false = refl

-- a line with one name more, and one with no more
line_more : (head : List ℕ) (place : Option ℕ) (rows : List (List ℕ × Option ℕ)) (x : List ℕ × Option ℕ) → same_place place x.1 ≡ true
    → (head ++ spaced (names_among place rows)) ++ (32 ∷ x.0) ≡ head ++ spaced (names_among place (rows ++ (x ∷ [])))
line_more head place rows x same =
    append_assoc head (spaced (names_among place rows)) (32 ∷ x.0)
    ∙ ap (λ (t : List ℕ). head ++ t) (sym (spaced_more (names_among place rows) x.0)
    ∙ ap spaced (sym (ap (λ (b : Bool). more_by b x.0 (names_among place rows)) same) ∙ sym (names_more place rows x)))

line_same : (head : List ℕ) (place : Option ℕ) (rows : List (List ℕ × Option ℕ)) (x : List ℕ × Option ℕ) → same_place place x.1 ≡ false
    → head ++ spaced (names_among place rows) ≡ head ++ spaced (names_among place (rows ++ (x ∷ [])))
line_same head place rows x other =
    ap (λ (ns : List (List ℕ)). head ++ spaced ns) (sym (ap (λ (b : Bool). more_by b x.0 (names_among place rows)) other) ∙ sym (names_more place rows x))

own_test : (k : ℕ) → (k == k) ≡ true
own_test k = ⊎_elim (λ same. same.0) (λ other. absurd (other.1 refl)) (eqb_tells k k)

other_test : (j k : ℕ) → (k ≡ j → ⊥) → (j == k) ≡ false
other_test j k apart = ⊎_elim (λ same. absurd (apart (sym same.1))) (λ other. other.0) (eqb_tells j k)

-- a row of a block more: its line has the name behind it, and the other lines are as before
pub lines_with_block : (blocks : ℕ) (rows : List (List ℕ × Option ℕ)) (old new : Lines) (name : List ℕ) (b : ℕ) → AreLines blocks rows old → b < blocks
    → length new.blocks.items ≡ length old.blocks.items → line_at new b ≡ line_at old b ++ (32 ∷ name) → ((k : ℕ) → k ≢ b → line_at new k ≡ line_at old k) → new.master.items ≡ old.master.items
    → AreLines blocks (rows ++ ((name, Some b) ∷ [])) new
lines_with_block blocks rows old new name b h l each here others master = record {
  each = each ∙ h.each;
  block = λ k low. ⊎_elim
      (λ same. subst (λ (x : ℕ). line_at new x ≡ block_head x ++ spaced (names_among (Some x) (rows ++ ((name, Some b) ∷ [])))) (sym same)
      (here ∙ ap (λ (t : List ℕ). t ++ (32 ∷ name)) (h.block b l) ∙ line_more (block_head b) (Some b) rows (name, Some b) (own_test b)))
      (λ apart. others k apart ∙ h.block k low ∙ line_same (block_head k) (Some k) rows (name, Some b) (other_test b k apart))
      (cases_eq k b);
  master = master ∙ h.master ∙ line_same master_head None rows (name, Some b) refl;
}

-- a row of the master more
pub lines_with_master : (blocks : ℕ) (rows : List (List ℕ × Option ℕ)) (old new : Lines) (name : List ℕ) → AreLines blocks rows old
    → length new.blocks.items ≡ length old.blocks.items → ((k : ℕ) → line_at new k ≡ line_at old k) → new.master.items ≡ old.master.items ++ (32 ∷ name)
    → AreLines blocks (rows ++ ((name, None) ∷ [])) new
lines_with_master blocks rows old new name h each others master = record {
  each = each ∙ h.each;
  block = λ k low. others k ∙ h.block k low ∙ line_same (block_head k) (Some k) rows (name, None) refl;
  master = master ∙ ap (λ (t : List ℕ). t ++ (32 ∷ name)) h.master ∙ line_more master_head None rows (name, None) refl;
}

-- ---- the text is read back

all_words : (P : List ℕ → Type 0) (place : Option ℕ) (rows : List (List ℕ × Option ℕ)) → AllByRecursion (λ (e : List ℕ × Option ℕ). P e.0) rows → AllByRecursion P (names_among place rows)
all_words P place [] h = tt
all_words P place (x ∷ rows) h = subst (AllByRecursion P) (sym (names_step place x rows)) (by (same_place place x.1) (all_words P place rows h.1))
  where
    by : (b : Bool) → AllByRecursion P (names_among place rows) → AllByRecursion P (names_by b x.0 (names_among place rows))
    by true rest = (h.0, rest)
    by false rest = rest

zip_words : (P : List ℕ → Type 0) (names : List (List ℕ)) (places : List (Option ℕ)) → ((i : ℕ) → i < length names → P (get_or names i [])) → AllByRecursion (λ (e : List ℕ × Option ℕ). P e.0) (zip names places)
zip_words P [] places h = tt
zip_words P (n ∷ names) [] h = tt
zip_words P (n ∷ names) (p ∷ places) h = (h 0 (omega arith), zip_words P names places (λ i l. h (suc i) (omega (arith, l))))

block_lines : (m : NamedProgram) (d : Decomposition) (len a : ℕ) → IsWritable m d → a + len ≤ most_blocks Large
    → AllByRecursion IsLine (map (block_line m d) (range_with_len a len) ++ (master_line m d ∷ []))
block_lines m d zero a ok few =
    (record { first = keyword_words.2; words = all_words IsWord None (zip m.row_names d.places) (zip_words IsWord m.row_names d.places ok.words) }, tt)
block_lines m d (suc len) a ok few =
    let small : a + 1 < 2 ^ 64 = omega (arith, few) in (
      record { first = keyword_words.1; words = (decimal_word (a + 1) small, all_words IsWord (Some a) (zip m.row_names d.places) (zip_words IsWord m.row_names d.places ok.words)) },
      block_lines m d len (a + 1) ok (omega (arith, few)),
    )

all_lines : (m : NamedProgram) (d : Decomposition) → IsWritable m d → AllByRecursion IsLine (lines_of m d)
all_lines m d ok =
    let few : d.blocks ≤ most_blocks Large = omega (arith, ok.few, few_blocks m.program.limits) in
    let small : d.blocks < 2 ^ 64 = omega (arith, few) in (
      record { first = keyword_words.0; words = (decimal_word d.blocks small, tt) },
      block_lines m d d.blocks 0 ok (omega (arith, few)),
    )

text_tokens : (m : NamedProgram) (d : Decomposition) → IsWritable m d → tokens_at (text_of m d) (record { at = 0; line = 1; first = true }) ≡ word_tokens 1 (lines_of m d)
unfolding tokens_at text_of
text_tokens m d ok = tokens_lines 1 (lines_of m d) (all_lines m d ok)

-- the place of each row as it was listed
places_read : (m : NamedProgram) (d : Decomposition) (e : List Part) → IsWritable m d → Walked m d None [] (word_tokens 1 (lines_of m d)) d.blocks (length m.row_names)
    → (walked : Walked m d None [] (word_tokens 1 (lines_of m d)) d.blocks (length m.row_names)) → d.places ≡ map (place_in (rows_listed walked.after)) m.row_names
places_read m d e ok again walked = ext_get_or None d.places (map (place_in (rows_listed walked.after)) m.row_names) (ok.each ∙ sym (count (place_in (rows_listed walked.after)) m.row_names)) (λ i l. each i (omega (arith, l, ok.each)))
  where
    count : (f : List ℕ → Option ℕ) (names : List (List ℕ)) → length (map f names) ≡ length names
    count f [] = refl
    count f (n ∷ names) = ap suc (count f names)

    before : (i : ℕ) (x : Option ℕ) → i < length m.row_names → place_at d i ≡ x → (elim x [ None ↦ d.blocks | Some k ↦ k ] < d.blocks) ⊎ ((elim x [ None ↦ d.blocks | Some k ↦ k ] ≡ d.blocks) × (i < length m.row_names))
    before i None l at = inr (refl, l)
    before i (Some k) l at = inl (ok.known i k at)

    each : (i : ℕ) → i < length m.row_names → get_or d.places i None ≡ get_or (map (place_in (rows_listed walked.after)) m.row_names) i None
    each i l =
        sym (map_at (place_in (rows_listed walked.after)) m.row_names i (get_or m.row_names i []) None (slice_get-get_or m.row_names i [] l)
        ∙ row_place m d d.blocks (length m.row_names) i walked.after ok.distinct l walked.done (before i (place_at d i) l refl))

ended : (m : NamedProgram) (e : List Part) → section_behind e ≡ Rows None → has_come e Nblocks ≡ true → refuses_unlisted e ≡ false → None ≡ end_fault m e
unfolding end_fault
ended m e section counted lenient = sym (
    ap (λ (s : Section). if awaits_number s then Some kinds.Syntax
    else (if not (has_come e Nblocks) then Some kinds.NoNblocks
    else (if refuses_unlisted e && lacks_row (rows_listed e) m.row_names then Some kinds.Unassigned else None))) section
    ∙ ap (λ (b : Bool). if not b then Some kinds.NoNblocks
    else (if refuses_unlisted e && lacks_row (rows_listed e) m.row_names then Some kinds.Unassigned else None)) counted
    ∙ ap (λ (b : Bool). if b && lacks_row (rows_listed e) m.row_names then Some kinds.Unassigned else None) lenient
    )

pub text_reads : (m : NamedProgram) (d : Decomposition) → IsWritable m d → d.listed ≡ [] → length (text_of m d) ≤ most_bytes m.program.limits → ReadsDecomposition (text_of m d) m d
text_reads m d ok unlisted short =
    let walked = walk_text m d ok in
    let text = text_of m d in
    let left = tokens_at (text_of m d) (record { at = 0; line = 1; first = true }) in
    let begun = subst (λ (ts : List Token). HasRead (text_of m d) m ts []) (text_tokens m d ok) (read_none (text_of m d) m) in
    let read = walk_reads (text_of m d) m (word_tokens 1 (lines_of m d)) [] walked.after begun walked.walks in
    end_reads (text_of m d) m [] walked.after d short read refl (ended m walked.after walked.section walked.kept.counted walked.kept.lenient)
    (same_parts d.blocks (block_count walked.after) d.places (map (place_in (rows_listed walked.after)) m.row_names) d.listed (vars_listed m.names walked.after)
    (sym walked.kept.blocks) (places_read m d [] ok walked walked) (unlisted ∙ sym walked.kept.unlisted))

pub writable : (m : NamedProgram) (d : Decomposition) → IsKept m → HasPlaces m.program d → All IsRowName m.row_names → d.blocks ≤ most_blocks m.program.limits → IsWritable m d
writable m d kept places names few = record {
  distinct = kept.rows_distinct;
  each = omega (arith, kept.row_named, places.each);
  known = λ i k at. subst (IsPlace d.blocks) at (places.known i None (some_there d.places i k at));
  words = λ i l. name_word (get_or m.row_names i []) (names i [] l);
  few = few;
}

-- what holds where a call succeeds
pub on_ok : {T E : Type 0} (r : Result T E) (P Q : Type 0) → (P → Q) → OnOk r P → OnOk r Q
on_ok (Ok x) P Q f h = f h
on_ok (Err e) P Q f h = h

-- before any name
pub lines_none : (blocks : ℕ) (lines : Lines) → length lines.blocks.items ≡ blocks → ((k : ℕ) → k < blocks → line_at lines k ≡ block_head k) → lines.master.items ≡ master_head → AreLines blocks [] lines
lines_none blocks lines each heads master = record {
  each = each;
  block = λ k l. heads k l ∙ sym (append-nil (block_head k));
  master = master ∙ sym (append-nil master_head);
}

-- ---- the text of lines

abbrev line_text : NamedProgram → Decomposition → ℕ → List ℕ
line_text m d k = block_head k ++ spaced (names_of m d (Some k))

heads_at : (m : NamedProgram) (d : Decomposition) (len a i : ℕ) → i < len → get_or (map (line_text m d) (range_with_len a len)) i [] ≡ line_text m d (a + i)
heads_at m d zero a i l = absurd (omega arith)
heads_at m d (suc len) a zero l = ap (line_text m d) (let same : a ≡ a + 0 = omega arith in same)
heads_at m d (suc len) a (suc i) l = heads_at m d len (a + 1) i (omega (arith, l)) ∙ ap (line_text m d) (let same : a + 1 + i ≡ a + suc i = omega arith in same)

heads_count : (m : NamedProgram) (d : Decomposition) (len a : ℕ) → length (map (line_text m d) (range_with_len a len)) ≡ len
heads_count m d zero a = refl
heads_count m d (suc len) a = ap suc (heads_count m d len (a + 1))

bytes_of : (m : NamedProgram) (d : Decomposition) (len a : ℕ) → flat_map (λ (t : List ℕ). t ++ (10 ∷ [])) (map (line_text m d) (range_with_len a len)) ++ line_bytes (master_line m d)
    ≡ flat_map line_bytes (map (block_line m d) (range_with_len a len) ++ (master_line m d ∷ []))
bytes_of m d zero a = sym (append-nil (line_bytes (master_line m d)))
bytes_of m d (suc len) a =
    append_assoc (line_bytes (block_line m d a)) (flat_map (λ (t : List ℕ). t ++ (10 ∷ [])) (map (line_text m d) (range_with_len (a + 1) len))) (line_bytes (master_line m d))
    ∙ ap (λ (t : List ℕ). line_bytes (block_line m d a) ++ t) (bytes_of m d len (a + 1))

pub mapped_count : {X : Type 0} (f : X → List ℕ) (xs : List X) → length (map f xs) ≡ length xs
mapped_count f [] = refl
mapped_count f (x ∷ xs) = ap suc (mapped_count f xs)

-- the lines with their ends are the text
pub lines_text : (m : NamedProgram) (d : Decomposition) (lines : Lines) (bytes : List (List ℕ)) → bytes ≡ map (λ line. line.items) lines.blocks.items
    → AreLines d.blocks (zip m.row_names d.places) lines
    → (((codes "NBLOCKS " ++ decimal d.blocks) ++ (10 ∷ [])) ++ flat_map (λ (t : List ℕ). t ++ (10 ∷ [])) bytes) ++ (lines.master.items ++ (10 ∷ [])) ≡ text_of m d
unfolding text_of
lines_text m d lines bytes is h =
    let count : length (map (λ line. line.items) lines.blocks.items) ≡ length lines.blocks.items = mapped_count _ lines.blocks.items in
    let same : bytes ≡ map (line_text m d) (range_with_len 0 d.blocks) =
    ext_get_or [] bytes (map (line_text m d) (range_with_len 0 d.blocks)) (ap length is ∙ count ∙ h.each ∙ sym (heads_count m d d.blocks 0))
    (λ i l. let low : i < d.blocks = omega (arith, l, ap length is, count, h.each) in
    let none : 0 + i ≡ i = omega arith in
    ap (λ (xs : List (List ℕ)). get_or xs i []) is ∙ h.block i low ∙ sym (heads_at m d d.blocks 0 i low ∙ ap (line_text m d) none)) in
    ap (λ (t : List ℕ). (((codes "NBLOCKS " ++ decimal d.blocks) ++ (10 ∷ [])) ++ flat_map (λ (t : List ℕ). t ++ (10 ∷ [])) bytes) ++ (t ++ (10 ∷ []))) h.master
    ∙ ap (λ (xs : List (List ℕ)). (((codes "NBLOCKS " ++ decimal d.blocks) ++ (10 ∷ [])) ++ flat_map (λ (t : List ℕ). t ++ (10 ∷ [])) xs) ++ line_bytes (master_line m d)) same
    ∙ append_assoc ((codes "NBLOCKS " ++ decimal d.blocks) ++ (10 ∷ [])) (flat_map (λ (t : List ℕ). t ++ (10 ∷ [])) (map (line_text m d) (range_with_len 0 d.blocks))) (line_bytes (master_line m d))
    ∙ ap (λ (t : List ℕ). ((codes "NBLOCKS " ++ decimal d.blocks) ++ (10 ∷ [])) ++ t) (bytes_of m d d.blocks 0)
    ∙ ap (λ (t : List ℕ). t ++ flat_map line_bytes (map (block_line m d) (range_with_len 0 d.blocks) ++ (master_line m d ∷ []))) front
  where
    front : (codes "NBLOCKS " ++ decimal d.blocks) ++ (10 ∷ []) ≡ line_bytes (record { first = codes "NBLOCKS"; words = decimal d.blocks ∷ [] })
    front = ap (λ (t : List ℕ). (codes "NBLOCKS " ++ t) ++ (10 ∷ [])) (sym (append-nil (decimal d.blocks)))

-- ---- rows one by one

take_zip : (names : List (List ℕ)) (places : List (Option ℕ)) (row : ℕ) (name : List ℕ) (place : Option ℕ) → slice_get names row ≡ Some name → slice_get places row ≡ Some place
    → take (suc row) (zip names places) ≡ take row (zip names places) ++ ((name, place) ∷ [])
take_zip [] places row name place a b = absurd (let odd : ◌≡◌ {A = Option (List ℕ)} None (Some name) = a in cc)
take_zip (n ∷ names) [] row name place a b = absurd (let odd : ◌≡◌ {A = Option (Option ℕ)} None (Some place) = b in cc)
take_zip (n ∷ names) (p ∷ places) zero name place a b =
    let one : n ≡ name = cc in
    let two : p ≡ place = cc in
    ap (λ (x : List ℕ). (x, p) ∷ []) one ∙ ap (λ (y : Option ℕ). (name, y) ∷ []) two
take_zip (n ∷ names) (p ∷ places) (suc row) name place a b = ap (λ (xs : List (List ℕ × Option ℕ)). (n, p) ∷ xs) (take_zip names places row name place a b)

pub lines_next : (blocks row : ℕ) (names : List (List ℕ)) (places : List (Option ℕ)) (name : List ℕ) (place : Option ℕ) (lines : Lines) → slice_get names row ≡ Some name → slice_get places row ≡ Some place
    → AreLines blocks (take row (zip names places) ++ ((name, place) ∷ [])) lines → AreLines blocks (take (row + 1) (zip names places)) lines
lines_next blocks row names places name place lines a b h =
    subst (λ (rows : List (List ℕ × Option ℕ)). AreLines blocks rows lines) (sym (take_zip names places row name place a b) ∙ ap (λ (n : ℕ). take n (zip names places)) (sym (add-one row))) h

pub zip_all : (names : List (List ℕ)) (places : List (Option ℕ)) (row : ℕ) → length names ≤ row → take row (zip names places) ≡ zip names places
zip_all [] places zero l = refl
zip_all [] places (suc row) l = refl
zip_all (n ∷ names) places zero l = absurd (omega arith)
zip_all (n ∷ names) [] (suc row) l = refl
zip_all (n ∷ names) (p ∷ places) (suc row) l = ap (λ (xs : List (List ℕ × Option ℕ)). (n, p) ∷ xs) (zip_all names places row (omega (arith, l)))
