-- The tokens of what is left of a text, byte by byte and word by word.
use Rattle.std.proofs.Common.{◌≡◌, ℕ, ◌+◌, ◌-◌, ◌<◌, ◌≤◌, suc, inl, inr, subst, Bool, true, false, cond, not, ◌&&◌, ◌||◌, List, [], ◌∷◌, ◌++◌, length, get_or, take, drop, refl, sym, ◌∙◌, ap, arith, length-drop}
use Rattle.std.proofs.lemmas.Bool.{and_parts, and_from, or_parts, not-true, cases_order, both_ways}
use Rattle.std.proofs.lemmas.List.{get_or-drop, drop_all, length-take-le, append-nil}
use Rattle.std.proofs.lemmas.List.Folds.{list_all_more, drop_split}
use Rattle.std.proofs.Math.Seq.{drop-cons}
use Rattle.std.specs.Prelude.{◌==◌, slice_range, filter}
use Rattle.std.specs.List.{list_all}
use Rattle.dec_syntax.specs.Cut.{token_of, line_tokens, tokens_from, split, with_front, is_line_feed, is_white, without_comment, is_filled, words_of}
use Rattle.dec_syntax.specs.Scan.{is_word_byte, begins, later_lines, tokens_left, tokens_at}
use Rattle.dec_syntax.specs.declared.cut.Blank.{Blank}
use Rattle.dec_syntax.specs.declared.cut.Cursor.{Cursor}

same_cond : {A : Type 0} (b : Bool) (x : A) → cond b x x ≡ x
same_cond true x = refl
same_cond false x = refl

-- behind a line feed the next line begins
pub left-line_feed : (blank : Blank) (b : ℕ) (rest : List ℕ) → b ≡ 10 → tokens_left blank (b ∷ rest) ≡ tokens_left (record { line = blank.line + 1; first = true; comment = false }) rest
unfolding tokens_left
left-line_feed blank b rest e = rw e (same_cond blank.comment _)

later_front : (b : ℕ) (lines : List (List ℕ)) → later_lines (with_front b lines) ≡ later_lines lines
later_front b [] = refl
later_front b (line ∷ lines) = refl

-- a comment goes on
pub left-comment : (blank : Blank) (b : ℕ) (rest : List ℕ) → blank.comment ≡ true → (b == 10) ≡ false → tokens_left blank (b ∷ rest) ≡ tokens_left blank rest
unfolding tokens_left
left-comment blank b rest c e = rw (c, e) (ap (tokens_from (blank.line + 1) true) (later_front b (split is_line_feed rest)))

from_backslash : (line : ℕ) (first : Bool) (lines : List (List ℕ)) → tokens_from line first (with_front 92 lines) ≡ tokens_from (line + 1) true (later_lines lines)
from_backslash line first [] = refl
from_backslash line first (bytes ∷ lines) = refl

-- a comment begins
pub left-backslash : (blank : Blank) (b : ℕ) (rest : List ℕ) → blank.comment ≡ false → b ≡ 92 → tokens_left blank (b ∷ rest) ≡ tokens_left (record { line = blank.line; first = blank.first; comment = true }) rest
unfolding tokens_left
left-backslash blank b rest c e = rw (c, e) (from_backslash blank.line blank.first (split is_line_feed rest))

words_white : (b : ℕ) (bytes : List ℕ) → (b == 92) ≡ false → is_white b ≡ true → words_of (b ∷ bytes) ≡ words_of bytes
words_white b bytes e w = ap (λ (s : List ℕ). filter is_filled (split is_white s)) (ap (λ (t : Bool). cond t [] (b ∷ without_comment bytes)) e) ∙ ap (λ (t : Bool). filter is_filled (cond t ([] ∷ split is_white (without_comment bytes)) (with_front b (split is_white (without_comment bytes))))) w

from_white : (line : ℕ) (first : Bool) (b : ℕ) (lines : List (List ℕ)) → (b == 92) ≡ false → is_white b ≡ true → tokens_from line first (with_front b lines) ≡ tokens_from line first lines
from_white line first b [] e w = ap (λ (ws : List (List ℕ)). line_tokens line first ws ++ []) (words_white b [] e w)
from_white line first b (bytes ∷ lines) e w = ap (λ (ws : List (List ℕ)). line_tokens line first ws ++ tokens_from (line + 1) true lines) (words_white b bytes e w)

-- white space in a line is passed
pub left-white : (blank : Blank) (b : ℕ) (rest : List ℕ) → blank.comment ≡ false → (b == 10) ≡ false → (b == 92) ≡ false → is_white b ≡ true → tokens_left blank (b ∷ rest) ≡ tokens_left blank rest
unfolding tokens_left
left-white blank b rest c e n w = rw (c, e) (from_white blank.line blank.first b (split is_line_feed rest) n w)

-- one more byte of a slice that passes
pub slice_more : (p : ℕ → Bool) (text : List ℕ) (from at : ℕ) → from ≤ at → at < length text → list_all p (slice_range text from at) ≡ true → p (get_or text at 0) ≡ true → list_all p (slice_range text from (at + 1)) ≡ true
slice_more p text from at l m h k =
    let count : at + 1 - from ≡ at - from + 1 = omega arith in
    let place : from + (at - from) ≡ at = omega arith in
    let size : length (drop from text) ≡ length text - from = length-drop from text in
    let here : get_or (drop from text) (at - from) 0 ≡ get_or text at 0 = get_or-drop from text (at - from) 0 ∙ ap (λ i. get_or text i 0) place in
    let more : list_all p (take (at - from + 1) (drop from text)) ≡ (list_all p (take (at - from) (drop from text)) && p (get_or (drop from text) (at - from) 0)) = list_all_more p (drop from text) (at - from) 0 (omega arith) in
    ap (λ n. list_all p (take n (drop from text))) count ∙ more ∙ and_from _ _ h (ap p here ∙ k)

-- what stands at a place, and at the end
pub begins_at : (p : ℕ → Bool) (text : List ℕ) (at : ℕ) → at < length text → begins p (drop at text) ≡ p (get_or text at 0)
begins_at p text at l = ap (begins p) (drop-cons text at 0 l)

pub begins_end : (p : ℕ → Bool) (text : List ℕ) (at : ℕ) → length text ≤ at → begins p (drop at text) ≡ false
begins_end p text at l = ap (begins p) (drop_all at text l)

-- one byte passed over, at its place in a text
pub left-at : (blank next : Blank) (text : List ℕ) (at : ℕ) → at < length text → ((rest : List ℕ) → tokens_left blank (get_or text at 0 ∷ rest) ≡ tokens_left next rest)
    → tokens_left blank (drop at text) ≡ tokens_left next (drop (at + 1) text)
left-at blank next text at l step =
    let one : suc at ≡ at + 1 = omega arith in
    ap (tokens_left blank) (drop-cons text at 0 l) ∙ step (drop (suc at) text) ∙ ap (λ n. tokens_left next (drop n text)) one

-- between words no comment is open
pub left-clear : (text : List ℕ) (blank : Blank) (at : ℕ) → blank.comment ≡ false → tokens_left blank (drop at text) ≡ tokens_at text (record { at = at; line = blank.line; first = blank.first })
unfolding tokens_left tokens_at
left-clear text blank at c = rw c refl

-- at the text's end no token is left
pub left-end : (blank : Blank) → tokens_left blank [] ≡ []
unfolding tokens_left
left-end blank = same_cond blank.comment []

pub at-end : (text : List ℕ) (cursor : Cursor) → length text ≤ cursor.at → tokens_at text cursor ≡ []
unfolding tokens_at
at-end text cursor l = ap (λ (s : List ℕ). tokens_from cursor.line cursor.first (split is_line_feed s)) (drop_all cursor.at text l)

-- a text has a first part
split_parts : (p : ℕ → Bool) (bytes : List ℕ) → (first : List ℕ) × (others : List (List ℕ)) × (split p bytes ≡ first ∷ others)
split_parts p [] = ([], [], refl)
split_parts p (b ∷ bytes) = by (p b) (split_parts p bytes)
  where
    by : (t : Bool) → (first : List ℕ) × (others : List (List ℕ)) × (split p bytes ≡ first ∷ others) → (first : List ℕ) × (others : List (List ℕ)) × (cond t ([] ∷ split p bytes) (with_front b (split p bytes)) ≡ first ∷ others)
    by true h = ([], split p bytes, refl)
    by false h = (b ∷ h.0, h.1, ap (with_front b) h.2)

-- bytes that don't pass stand at the front of the first part
split_run : (p : ℕ → Bool) (run rest first : List ℕ) (others : List (List ℕ)) → list_all (λ b. not (p b)) run ≡ true → split p rest ≡ first ∷ others → split p (run ++ rest) ≡ (run ++ first) ∷ others
split_run p [] rest first others h e = e
split_run p (b ∷ run) rest first others h e =
    let parts : (not (p b) ≡ true) × (list_all (λ c. not (p c)) run ≡ true) = and_parts _ _ h in
    ap (λ (t : Bool). cond t ([] ∷ split p (run ++ rest)) (with_front b (split p (run ++ rest)))) (not-true (p b) parts.0)
    ∙ ap (with_front b) (split_run p run rest first others parts.1 e)

-- bytes of a word are no part of a comment
uncommented : (run rest : List ℕ) → list_all (λ b. not (b == 92)) run ≡ true → without_comment (run ++ rest) ≡ run ++ without_comment rest
uncommented [] rest h = refl
uncommented (b ∷ run) rest h =
    let parts : (not (b == 92) ≡ true) × (list_all (λ c. not (c == 92)) run ≡ true) = and_parts _ _ h in
    ap (λ (t : Bool). cond t [] (b ∷ without_comment (run ++ rest))) (not-true (b == 92) parts.0)
    ∙ ap (λ (s : List ℕ). b ∷ s) (uncommented run rest parts.1)

all_by : (p q : ℕ → Bool) → ((b : ℕ) → p b ≡ true → q b ≡ true) → (bytes : List ℕ) → list_all p bytes ≡ true → list_all q bytes ≡ true
all_by p q f [] h = refl
all_by p q f (b ∷ bytes) h =
    let parts : (p b ≡ true) × (list_all p bytes ≡ true) = and_parts _ _ h in
    and_from (q b) (list_all q bytes) (f b parts.0) (all_by p q f bytes parts.1)

word_not_white : (b : ℕ) → is_word_byte b ≡ true → not (is_white b) ≡ true
word_not_white b h = ap not (or_parts (is_white b) (b == 92) (not-true (is_white b || (b == 92)) h)).0

word_not_backslash : (b : ℕ) → is_word_byte b ≡ true → not (b == 92) ≡ true
word_not_backslash b h = ap not (or_parts (is_white b) (b == 92) (not-true (is_white b || (b == 92)) h)).1

word_not_line_feed : (b : ℕ) → is_word_byte b ≡ true → not (is_line_feed b) ≡ true
word_not_line_feed b h =
    let white : is_white b ≡ false = (or_parts (is_white b) (b == 92) (not-true (is_white b || (b == 92)) h)).0 in
    let a : ((b == 9) || ((b == 13) || (b == 10))) ≡ false = (or_parts (b == 32) ((b == 9) || ((b == 13) || (b == 10))) white).1 in
    let d : ((b == 13) || (b == 10)) ≡ false = (or_parts (b == 9) ((b == 13) || (b == 10)) a).1 in
    ap not (or_parts (b == 13) (b == 10) d).1

-- where no word goes on, the first part of the first line's white space is empty
abbrev Opens : List ℕ → Type 0
Opens line = (words : List (List ℕ)) × (split is_white (without_comment line) ≡ [] ∷ words)

opens_with : (b : ℕ) (line : List ℕ) → is_word_byte b ≡ false → Opens (b ∷ line)
opens_with b line h = by (b == 92) refl
  where
    white : (b == 92) ≡ false → is_white b ≡ true
    white e = by_white (is_white b) refl
      where
        by_white : (t : Bool) → is_white b ≡ t → t ≡ true
        by_white true w = refl
        by_white false w = absurd (both_ways (is_word_byte b) h (ap (λ (u : Bool). not (u || (b == 92))) w ∙ ap not e))

    by : (t : Bool) → (b == 92) ≡ t → (words : List (List ℕ)) × (split is_white (cond t [] (b ∷ without_comment line)) ≡ [] ∷ words)
    by true e = ([], refl)
    by false e = (split is_white (without_comment line), ap (λ (t : Bool). cond t ([] ∷ split is_white (without_comment line)) (with_front b (split is_white (without_comment line)))) (white e))

opens : (rest first : List ℕ) (others : List (List ℕ)) → split is_line_feed rest ≡ first ∷ others → begins is_word_byte rest ≡ false → Opens first
opens [] first others e h =
    let same : [] ≡ first = cc in subst Opens same ([], refl)
opens (b ∷ rest) first others e h = by (is_line_feed b) (split_parts is_line_feed rest) e
  where
    by : (t : Bool) → (head : List ℕ) × (tail : List (List ℕ)) × (split is_line_feed rest ≡ head ∷ tail) → cond t ([] ∷ split is_line_feed rest) (with_front b (split is_line_feed rest)) ≡ first ∷ others → Opens first
    by true parts d =
        let same : [] ≡ first = cc in subst Opens same ([], refl)
    by false parts d =
        let grown : with_front b (split is_line_feed rest) ≡ (b ∷ parts.0) ∷ parts.1 = ap (with_front b) parts.2 in
        let joined : (b ∷ parts.0) ∷ parts.1 ≡ first ∷ others = sym grown ∙ d in
        let same : b ∷ parts.0 ≡ first = cc in
        subst Opens same (opens_with b parts.0 h)

-- the words of a line that begins with a word
words_run : (run line : List ℕ) → list_all is_word_byte run ≡ true → is_filled run ≡ true → Opens line → words_of (run ++ line) ≡ run ∷ words_of line
words_run [] line h f o = absurd (both_ways (is_filled []) refl f)
words_run (b ∷ run) line h f o =
    let all : List ℕ = b ∷ run in
    let plain : without_comment (all ++ line) ≡ all ++ without_comment line = uncommented all line (all_by is_word_byte (λ c. not (c == 92)) word_not_backslash all h) in
    let cut : split is_white (all ++ without_comment line) ≡ (all ++ []) ∷ o.0 = split_run is_white all (without_comment line) [] o.0 (all_by is_word_byte (λ c. not (is_white c)) word_not_white all h) o.1 in
    let rest : words_of line ≡ filter is_filled o.0 = ap (filter is_filled) o.1 in
    ap (λ (s : List ℕ). filter is_filled (split is_white s)) plain ∙ ap (filter is_filled) cut
    ∙ ap (λ (s : List ℕ). s ∷ filter is_filled o.0) (append-nil all) ∙ ap (λ (ws : List (List ℕ)). all ∷ ws) (sym rest)

-- a word at the front is the first token, and behind it no token is the first of its line
word_tokens : (line : ℕ) (first : Bool) (run rest : List ℕ) → list_all is_word_byte run ≡ true → is_filled run ≡ true → begins is_word_byte rest ≡ false
    → tokens_from line first (split is_line_feed (run ++ rest)) ≡ token_of line first run ∷ tokens_from line false (split is_line_feed rest)
word_tokens line first run rest h f n =
    let parts = split_parts is_line_feed rest in
    let whole : split is_line_feed (run ++ rest) ≡ (run ++ parts.0) ∷ parts.1 = split_run is_line_feed run rest parts.0 parts.1 (all_by is_word_byte (λ c. not (is_line_feed c)) word_not_line_feed run h) parts.2 in
    let words : words_of (run ++ parts.0) ≡ run ∷ words_of parts.0 = words_run run parts.0 h f (opens rest parts.0 parts.1 parts.2 n) in
    ap (tokens_from line first) whole ∙ ap (λ (ws : List (List ℕ)). line_tokens line first ws ++ tokens_from (line + 1) true parts.1) words
    ∙ ap (λ (ls : List (List ℕ)). token_of line first run ∷ tokens_from line false ls) (sym parts.2)

filled : (bytes : List ℕ) → 0 < length bytes → is_filled bytes ≡ true
filled [] l = absurd (omega arith)
filled (b ∷ bytes) l = refl

-- the word at a cursor is the next token
pub next_token : (text : List ℕ) (start : Cursor) (to : ℕ) → start.at < length text → is_word_byte (get_or text start.at 0) ≡ true → start.at ≤ to → to ≤ length text
    → list_all is_word_byte (slice_range text start.at to) ≡ true → begins is_word_byte (drop to text) ≡ false
    → (start.at < to) × (tokens_at text start ≡ token_of start.line start.first (slice_range text start.at to) ∷ tokens_at text (record { at = to; line = start.line; first = false }))
unfolding tokens_at
next_token text start to l w o i h s =
    let onward : start.at < to = by_order in
    let size : length (drop start.at text) ≡ length text - start.at = length-drop start.at text in
    let long : length (slice_range text start.at to) ≡ to - start.at = length-take-le (to - start.at) (drop start.at text) (omega arith) in (
      onward,
      ap (λ (bytes : List ℕ). tokens_from start.line start.first (split is_line_feed bytes)) (drop_split text start.at to o)
          ∙ word_tokens start.line start.first (slice_range text start.at to) (drop to text) h (filled _ (omega arith)) s,
    )
  where
    by_order : start.at < to
    by_order = elim (cases_order start.at to) [
      | inl e ↦ absurd (both_ways (is_word_byte (get_or text start.at 0)) (sym (begins_at is_word_byte text start.at l) ∙ ap (λ k. begins is_word_byte (drop k text)) e ∙ s) w)
      | inr (inl m) ↦ m
      | inr (inr m) ↦ absurd (omega arith)
    ]
