-- Where a section word ends, and that no other token is longer.
use Rattle.std.proofs.Common.{◌≡◌, ℕ, ◌+◌, ◌-◌, ◌<◌, ◌≤◌, ◌⊎◌, Bool, true, false, not, ◌&&◌, ◌||◌, List, [], ◌∷◌, length, get_or, take, drop, refl, sym, ◌∙◌, ap, inl, inr, arith, add-one, Option, None, Some}
use Rattle.std.proofs.lemmas.Bool.{and_parts, and_from, or_parts, both_ways, false_from_ne_true, cases_lt, cases_Bool, not-true, eqb-true, leb-true, or_cases}
use Rattle.std.proofs.lemmas.List.{get_or-drop, get_or-take, get_or_past, drop_all}
use Rattle.std.proofs.lemmas.List.Folds.{list_all_at}
use Rattle.std.proofs.Math.Seq.{drop-cons}
use Rattle.std.specs.Prelude.{◌==◌, if◌then◌else◌, is_some, IsSome, IsNone, IfSome, IfNone, slice_range, nat_le}
use Rattle.std.specs.List.{list_all}
use Rattle.std.specs.Str.{str_to_ascii_lowercase}
use Rattle.std.specs.Char.{is_ascii_digit, to_ascii_lowercase}
use Rattle.lp_token.specs.declared.Section.{Section}
use Rattle.lp_token.specs.declared.TokKind.{TokKind}
use Rattle.lp_token.specs.declared.TokKind.TheVariants.{Number, Name, Mark, Word}
use Rattle.lp_token.specs.Lexeme.{is_number, is_name, is_mark, is_point, is_name_byte, behind, begins}
use Rattle.lp_token.specs.Word.{is_space, single_spaced, section_words, section_of, is_one_of}
use Rattle.lp_token.specs.Cut.{in_comment, begins_line, name_goes_on, colon_follows, is_word_at, kind_at}
use Rattle.lp_token.specs.Scan.{is_digit_or_point, plain_kind, is_tab_or_space, ends_word}
use Rattle.lp_token.proofs.Places.{begins_at, begins_end}
use Rattle.lp_token.proofs.Numbers.{slice-length}
use Rattle.lp_token.proofs.FirstBytes.{number_begins, mark_begins, kinds, slice_cons}
use Rattle.lp_token.proofs.Words.{section_passes, lower_name, lower_below, word_ends}

-- a step over a byte that passes
pub behind_pass : (p : ℕ → Bool) (text : List ℕ) (at : ℕ) → at < length text → p (get_or text at 0) ≡ true → behind p (drop (at + 1) text) ≡ behind p (drop at text)
behind_pass p text at l h =
    let cons : drop at text ≡ get_or text at 0 ∷ drop (at + 1) text = rw add-one (drop-cons text at 0 l) in
    sym (ap (behind p) cons ∙ ap (λ t. if t then behind p (drop (at + 1) text) else get_or text at 0 ∷ drop (at + 1) text) h)

-- the colon behind spaces and tabs, where they end
pub colon_at : (text : List ℕ) (from at : ℕ) → at < length text → behind is_tab_or_space (drop at text) ≡ behind is_tab_or_space (drop from text) → is_tab_or_space (get_or text at 0) ≡ false → (get_or text at 0 == 58) ≡ colon_follows text from
unfolding colon_follows
colon_at text from at l e h =
    let cons : drop at text ≡ get_or text at 0 ∷ drop (at + 1) text = rw add-one (drop-cons text at 0 l) in
    let stop : behind is_tab_or_space (drop at text) ≡ get_or text at 0 ∷ drop (at + 1) text = ap (behind is_tab_or_space) cons ∙ ap (λ t. if t then behind is_tab_or_space (drop (at + 1) text) else get_or text at 0 ∷ drop (at + 1) text) h in
    ap (λ r. get_or r 0 0 == 58) (sym stop ∙ e)

pub colon_none : (text : List ℕ) (from at : ℕ) → length text ≤ at → behind is_tab_or_space (drop at text) ≡ behind is_tab_or_space (drop from text) → false ≡ colon_follows text from
unfolding colon_follows
colon_none text from at l e = ap (λ r. get_or r 0 0 == 58) (sym (ap (behind is_tab_or_space) (drop_all at text l)) ∙ e)

nul_name : is_name_byte 0 ≡ false
unfolding is_name_byte
nul_name = refl

-- whether a name goes on, by what stands at a place
goes_on_begins : (text : List ℕ) (to : ℕ) → name_goes_on text to ≡ begins is_name_byte (drop to text)
unfolding name_goes_on
goes_on_begins text to = elim (cases_lt to (length text)) [
  | inl l ↦ sym (begins_at is_name_byte text to l)
  | inr l ↦ ap is_name_byte (get_or_past text to 0 l) ∙ nul_name ∙ sym (begins_end is_name_byte text to l)
]

-- a slice behind which no name goes on is a section word by itself and what follows it
pub word_test : (text : List ℕ) (from to : ℕ) (colon : Bool) → begins is_name_byte (drop to text) ≡ false → colon ≡ colon_follows text to → (is_some (section_of (slice_range text from to)) && not colon) ≡ ends_word text from to
word_test text from to colon h e = ap (λ t. is_some (section_of (slice_range text from to)) && not t) (e ∙ ap (λ t. t || colon_follows text to) (sym (goes_on_begins text to ∙ h)))

space_name : is_name_byte 32 ≡ false
unfolding is_name_byte
space_name = refl

words_first : list_all (λ (g : Section × List (List ℕ)). list_all (begins (λ b. not (is_digit_or_point b) && is_name_byte b)) g.1) section_words ≡ true
unfolding is_name_byte
words_first = refl

-- the first byte of a section word
word_first : (b : ℕ) (s : List ℕ) → is_some (section_of (b ∷ s)) ≡ true → (is_digit_or_point b ≡ false) × (is_name_byte b ≡ true)
unfolding section_of single_spaced
word_first b s h = go (is_space b) (section_passes (begins (λ b. not (is_digit_or_point b) && is_name_byte b)) section_words _ words_first h)
  where
    low : (b : ℕ) → is_digit_or_point b ≡ true → b < 65
    low b d = elim (or_cases (is_ascii_digit b) (is_point b) d) [
      | inl e ↦ (let top : b ≤ 57 = leb-true b 57 (and_parts (nat_le 48 b) (nat_le b 57) e).1 in omega arith)
      | inr e ↦ (let same : b ≡ 46 = eqb-true b 46 e in omega arith)
    ]

    go : (q : Bool) → begins (λ b. not (is_digit_or_point b) && is_name_byte b) (str_to_ascii_lowercase (if q then 32 ∷ behind is_space s else b ∷ single_spaced s)) ≡ true → (is_digit_or_point b ≡ false) × (is_name_byte b ≡ true)
    go true h = absurd (both_ways (is_name_byte 32) space_name (and_parts (not (is_digit_or_point 32)) (is_name_byte 32) h).1)
    go false h =
        let parts : (not (is_digit_or_point (to_ascii_lowercase b)) ≡ true) × (is_name_byte (to_ascii_lowercase b) ≡ true) = and_parts _ _ h in
        (false_from_ne_true (is_digit_or_point b) (λ d. both_ways (is_digit_or_point b) (ap is_digit_or_point (sym (lower_below b (low b d))) ∙ not-true _ parts.0) d), sym (lower_name b) ∙ parts.1)

nil_section : is_some (section_of []) ≡ false
unfolding section_of single_spaced is_one_of
nil_section = refl

-- a section word isn't empty
pub section_after : (text : List ℕ) (from end : ℕ) → is_some (section_of (slice_range text from end)) ≡ true → from < end
section_after text from end h = elim (cases_lt from end) [
  | inl l ↦ l
  | inr l ↦ (let none : end - from ≡ 0 = omega arith in absurd (both_ways (is_some (section_of (slice_range text from end))) (ap (λ k. is_some (section_of (take k (drop from text)))) none ∙ nil_section) h))
]

-- behind a section word that no name goes on behind, no other token at its place ends
plain_before_word : (text : List ℕ) (from end : ℕ) → ends_word text from end ≡ true → end ≤ length text → (to : ℕ) → to ≤ length text → IsSome (plain_kind (slice_range text from to)) → to ≤ end
unfolding name_goes_on is_name
plain_before_word text from end h m to k s = elim (cases_lt end to) [ inr l ↦ l | inl l ↦ absurd (go l) ]
  where
    parts : (is_some (section_of (slice_range text from end)) ≡ true) × (not (name_goes_on text end || colon_follows text end) ≡ true)
    parts = and_parts _ _ h

    stop : is_name_byte (get_or text end 0) ≡ false
    stop = (or_parts (name_goes_on text end) (colon_follows text end) (not-true _ parts.1)).0

    some : from < end
    some = section_after text from end parts.0

    first : (is_digit_or_point (get_or text from 0) ≡ false) × (is_name_byte (get_or text from 0) ≡ true)
    first = word_first (get_or text from 0) (slice_range text (from + 1) end) (ap (λ b. is_some (section_of b)) (sym (slice_cons text from end some m)) ∙ parts.0)

    go : end < to → ⊥
    go l =
        let more : from < end = some in
        let cons : slice_range text from to ≡ get_or text from 0 ∷ slice_range text (from + 1) to = slice_cons text from to (omega arith) k in
        elim (kinds (slice_range text from to) s) [
          | inl a ↦ both_ways (is_digit_or_point (get_or text from 0)) first.0 (number_begins _ _ (sym (ap is_number cons) ∙ a))
          | inr (inl a) ↦
              (let pass : list_all is_name_byte (slice_range text from to) ≡ true = ap (list_all is_name_byte) cons ∙ (and_parts (not (is_digit_or_point (get_or text from 0))) (list_all is_name_byte (get_or text from 0 ∷ slice_range text (from + 1) to)) (sym (ap is_name cons) ∙ a)).1 in
              let size : length (slice_range text from to) ≡ to - from = slice-length text from to (omega arith) k in
              let place : from + (end - from) ≡ end = omega arith in
              let here : get_or (slice_range text from to) (end - from) 0 ≡ get_or text end 0 = get_or-take (to - from) (drop from text) (end - from) 0 (omega arith) ∙ get_or-drop from text (end - from) 0 ∙ ap (λ i. get_or text i 0) place in
              both_ways (list_all is_name_byte (slice_range text from to)) (list_all_at is_name_byte (slice_range text from to) (end - from) 0 (omega arith) (ap is_name_byte here ∙ stop)) pass)
          | inr (inr a) ↦ both_ways (is_name_byte (get_or text from 0)) (mark_begins _ _ (sym (ap is_mark cons) ∙ a)).1 first.1
        ]

-- what a slice is at a line's beginning, and elsewhere
pub kind_word : (text : List ℕ) (from to : ℕ) → in_comment text from ≡ false → begins_line text from ≡ true → ends_word text from to ≡ true → kind_at text from to ≡ Some Word
unfolding kind_at is_word_at
kind_word text from to c b h =
    let bytes : List ℕ = slice_range text from to in
    let parts : (is_some (section_of bytes) ≡ true) × (not (name_goes_on text to || colon_follows text to) ≡ true) = and_parts _ _ h in
    let word : (is_some (section_of bytes) && (begins_line text from && not (name_goes_on text to || colon_follows text to))) ≡ true = and_from _ _ parts.0 (and_from _ _ b parts.1) in
    ap (λ t. if t then None else (if is_some (section_of bytes) && (begins_line text from && not (name_goes_on text to || colon_follows text to)) then Some Word else (if is_number bytes then Some Number else (if is_name bytes then Some Name else (if is_mark bytes then Some Mark else None))))) c
    ∙ ap (λ t. if t then Some Word else (if is_number bytes then Some Number else (if is_name bytes then Some Name else (if is_mark bytes then Some Mark else None)))) word

pub kind_plain : (text : List ℕ) (from to : ℕ) → in_comment text from ≡ false → (begins_line text from ≡ false) ⊎ (ends_word text from to ≡ false) → kind_at text from to ≡ plain_kind (slice_range text from to)
unfolding kind_at is_word_at plain_kind
kind_plain text from to c h =
    let bytes : List ℕ = slice_range text from to in
    ap (λ t. if t then None else (if is_some (section_of bytes) && (begins_line text from && not (name_goes_on text to || colon_follows text to)) then Some Word else (if is_number bytes then Some Number else (if is_name bytes then Some Name else (if is_mark bytes then Some Mark else None))))) c
    ∙ ap (λ t. if t then Some Word else (if is_number bytes then Some Number else (if is_name bytes then Some Name else (if is_mark bytes then Some Mark else None)))) (no_word h)
  where
    and_no : (a b c : Bool) → b ≡ false → (a && (b && c)) ≡ false
    and_no true b c e = ap (λ t. t && c) e
    and_no false b c e = refl

    and_not : (a b c : Bool) → (a && c) ≡ false → (a && (b && c)) ≡ false
    and_not true true c e = e
    and_not true false c e = refl
    and_not false b c e = refl

    no_word : (begins_line text from ≡ false) ⊎ (ends_word text from to ≡ false) → (is_some (section_of (slice_range text from to)) && (begins_line text from && not (name_goes_on text to || colon_follows text to))) ≡ false
    no_word (inl e) = and_no (is_some (section_of (slice_range text from to))) (begins_line text from) (not (name_goes_on text to || colon_follows text to)) e
    no_word (inr e) = and_not (is_some (section_of (slice_range text from to))) (begins_line text from) (not (name_goes_on text to || colon_follows text to)) e

-- the longest section word is the longest token
pub word_longest : (text : List ℕ) (from end : ℕ) → in_comment text from ≡ false → ends_word text from end ≡ true → end ≤ length text → ((to : ℕ) → to ≤ length text → ends_word text from to ≡ true → to ≤ end) → (to : ℕ) → to ≤ length text → IsSome (kind_at text from to) → to ≤ end
word_longest text from end c h m f to k s = elim (cases_Bool (ends_word text from to)) [
  | inl e ↦ f to k e
  | inr e ↦ plain_before_word text from end h m to k (ap is_some (sym (kind_plain text from to c (inr e))) ∙ s)
]

-- what is known of the runs at a place: name bytes, spaces, name bytes
pub record AreRuns (text : List ℕ) (from first gap second : ℕ) : Type 0 where
  pub one : from ≤ first
  pub one_inside : first ≤ length text
  pub one_run : list_all is_name_byte (slice_range text from first) ≡ true
  pub one_stop : begins is_name_byte (drop first text) ≡ false
  pub two : first ≤ gap
  pub two_inside : gap ≤ length text
  pub two_run : list_all is_space (slice_range text first gap) ≡ true
  pub two_stop : begins is_space (drop gap text) ≡ false
  pub three : gap ≤ second
  pub three_inside : second ≤ length text
  pub three_run : list_all is_name_byte (slice_range text gap second) ≡ true
  pub three_stop : begins is_name_byte (drop second text) ≡ false

-- a section word ends with the first run, or with the second
pub word_places : (text : List ℕ) (from first gap second : ℕ) → AreRuns text from first gap second → (to : ℕ) → to ≤ length text → ends_word text from to ≡ true → (to ≡ first) ⊎ ((first < gap) × (to ≡ second))
word_places text from first gap second r to m h =
    let parts : (is_some (section_of (slice_range text from to)) ≡ true) × (not (name_goes_on text to || colon_follows text to) ≡ true) = and_parts _ _ h in
    let some : from < to = section_after text from to parts.0 in
    word_ends text from first gap second to r.one r.one_inside r.one_run r.one_stop r.two r.two_inside r.two_run r.two_stop r.three r.three_inside r.three_run r.three_stop (omega arith) m parts.0
    (sym (goes_on_begins text to) ∙ (or_parts (name_goes_on text to) (colon_follows text to) (not-true _ parts.1)).0)

-- no section word stands at a place
abbrev pub NoWord : List ℕ → ℕ → Type 0
NoWord text from = (begins_line text from ≡ false) ⊎ ((to : ℕ) → to ≤ length text → ends_word text from to ≡ false)

plain_at : (text : List ℕ) (from to : ℕ) → in_comment text from ≡ false → NoWord text from → to ≤ length text → kind_at text from to ≡ plain_kind (slice_range text from to)
plain_at text from to c (inl e) m = kind_plain text from to c (inl e)
plain_at text from to c (inr e) m = kind_plain text from to c (inr (e to m))

-- then the longest plain token is the longest token
pub plain_found : (text : List ℕ) (from : ℕ) (o : Option (TokKind × ℕ)) → in_comment text from ≡ false → NoWord text from → IfSome o (λ t. (t.1 ≤ length text) × (plain_kind (slice_range text from t.1) ≡ Some t.0)) → IfSome o (λ t. (t.1 ≤ length text) × (kind_at text from t.1 ≡ Some t.0))
plain_found text from None c n h = h
plain_found text from (Some t) c n h = (h.0, plain_at text from t.1 c n h.0 ∙ h.1)

pub plain_longest : (text : List ℕ) (from : ℕ) (o : Option (TokKind × ℕ)) → in_comment text from ≡ false → NoWord text from → IfSome o (λ t. (to : ℕ) → to ≤ length text → IsSome (plain_kind (slice_range text from to)) → to ≤ t.1) → IfSome o (λ t. (to : ℕ) → to ≤ length text → IsSome (kind_at text from to) → to ≤ t.1)
plain_longest text from None c n h = h
plain_longest text from (Some t) c n h = λ to m s. h to m (ap is_some (sym (plain_at text from to c n m)) ∙ s)

pub plain_nothing : (text : List ℕ) (from : ℕ) (o : Option (TokKind × ℕ)) → in_comment text from ≡ false → NoWord text from → IfNone o ((to : ℕ) → to ≤ length text → IsNone (plain_kind (slice_range text from to))) → IfNone o ((to : ℕ) → to ≤ length text → IsNone (kind_at text from to))
plain_nothing text from None c n h = λ to m. ap is_some (plain_at text from to c n m) ∙ h to m
plain_nothing text from (Some t) c n h = h
