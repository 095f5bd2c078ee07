-- Lines, what stands before a place in its line, and what a token leaves of them.
use Rattle.std.proofs.Common.{◌≡◌, ℕ, zero, suc, ◌+◌, ◌-◌, ◌<◌, ◌≤◌, Bool, true, false, not, ◌&&◌, ◌||◌, List, [], ◌∷◌, ◌++◌, length, get_or, take, drop, refl, sym, ◌∙◌, ap, subst, inl, inr, arith, add-one, None, Some, Option}
use Rattle.std.proofs.lemmas.Bool.{and_parts, and_from, or_left, or_from, or_parts, both_ways, eqb-true, false_from_ne_true, not-true}
use Rattle.std.proofs.lemmas.List.{length-take-le, get_or-drop, length-drop}
use Rattle.std.proofs.lemmas.List.Sums.{count_by-le-length, count_by_more_yes, count_by_more_no}
use Rattle.std.proofs.lemmas.List.Folds.{list_all-append, list_all_more}
use Rattle.std.specs.Prelude.{◌==◌, if◌then◌else◌, is_some, slice_range, count_by}
use Rattle.std.specs.List.{list_all, list_any, after_last}
use Rattle.std.specs.Char.{is_ascii_digit}
use Rattle.lp_token.specs.declared.Tok.{Tok}
use Rattle.lp_token.specs.declared.TokKind.TheVariants.{Number, Name, Mark, Word}
use Rattle.lp_token.specs.Lexeme.{is_point, is_exponent_mark, is_sign, is_digits, is_mantissa, without_sign, is_exponent, front, behind, mantissa, exponent, is_number, is_name_byte, is_name, is_mark, marks}
use Rattle.lp_token.specs.Word.{is_space, section_of}
use Rattle.lp_token.specs.Cut.{is_line_feed, is_white, line_before, in_comment, goes_on, line_at, begins_line, is_blank, kind_at, is_word_at, name_goes_on, colon_follows, IsToken, IsBetween}
use Rattle.lp_token.specs.Scan.{is_digit_or_point, sign_of}
use Rattle.lp_token.proofs.Places.{after_last-push, after_last-stop, in_comment-step, comment_none, token_not_blank, kind_nonempty}
use Rattle.lp_token.proofs.Numbers.{front-behind, signed-split}
use Rattle.lp_token.proofs.FirstBytes.{in_table}
use Rattle.lp_token.proofs.Words.{word_runs, IsRuns, front_passes}

-- whether nothing but white space stands in the line behind a byte
pub begins_line-step : (text : List ℕ) (place : ℕ) → place < length text → begins_line text (place + 1) ≡ (is_line_feed (get_or text place 0) || (begins_line text place && is_white (get_or text place 0)))
unfolding begins_line line_before
begins_line-step text place h = go (is_line_feed (get_or text place 0)) refl
  where
    and_true : (b : Bool) → (b && true) ≡ b
    and_true true = refl
    and_true false = refl

    before : Bool
    before = list_all is_white (after_last is_line_feed (take place text))

    go : (b : Bool) → is_line_feed (get_or text place 0) ≡ b → list_all is_white (after_last is_line_feed (take (place + 1) text)) ≡ (is_line_feed (get_or text place 0) || (list_all is_white (after_last is_line_feed (take place text)) && is_white (get_or text place 0)))
    go true e = ap (list_all is_white) (after_last-stop is_line_feed text place h e) ∙ sym (or_left _ _ e)
    go false e = ap (list_all is_white) (after_last-push is_line_feed text place h e) ∙ list_all-append is_white (after_last is_line_feed (take place text)) (get_or text place 0 ∷ [])
        ∙ ap (λ t. list_all is_white (after_last is_line_feed (take place text)) && t) (and_true (is_white (get_or text place 0)))
        ∙ sym (ap (λ t. t || (list_all is_white (after_last is_line_feed (take place text)) && is_white (get_or text place 0))) e)

-- the line behind a byte
pub line_at-step : (text : List ℕ) (place : ℕ) → place < length text → line_at text (place + 1) ≡ (if is_line_feed (get_or text place 0) then line_at text place + 1 else line_at text place)
unfolding line_at
line_at-step text place h = go (is_line_feed (get_or text place 0)) refl
  where
    go : (b : Bool) → is_line_feed (get_or text place 0) ≡ b → 1 + count_by is_line_feed (take (place + 1) text) ≡ (if b then 1 + count_by is_line_feed (take place text) + 1 else 1 + count_by is_line_feed (take place text))
    go true e = (let more : count_by is_line_feed (take (place + 1) text) ≡ count_by is_line_feed (take place text) + 1 = count_by_more_yes is_line_feed text place 0 h e in omega arith)
    go false e = (let more : count_by is_line_feed (take (place + 1) text) ≡ count_by is_line_feed (take place text) = count_by_more_no is_line_feed text place 0 h e in omega arith)

-- a line's number is no greater than its place
pub line_at-bound : (text : List ℕ) (place : ℕ) → place ≤ length text → line_at text place ≤ 1 + place
unfolding line_at
line_at-bound text place l =
    let few : count_by is_line_feed (take place text) ≤ length (take place text) = count_by-le-length is_line_feed (take place text) in
    let size : length (take place text) ≡ place = length-take-le place text l in
    omega arith

pub line_at-start : (text : List ℕ) → 1 ≡ line_at text 0
unfolding line_at
line_at-start text = refl

pub begins_line-start : (text : List ℕ) → true ≡ begins_line text 0
unfolding begins_line line_before
begins_line-start text = refl

pub in_comment-start : (text : List ℕ) → in_comment text 0 ≡ false
unfolding in_comment line_before
in_comment-start text = refl

-- neither a line feed nor a backslash
abbrev pub is_inner : ℕ → Bool
is_inner b = not (is_line_feed b || (b == 92))

-- bytes of a kind that has neither
inner_by : (p : ℕ → Bool) → p 10 ≡ false → p 92 ≡ false → (b : ℕ) → p b ≡ true → is_inner b ≡ true
inner_by p h k b e = ap not (or_from _ _ (false_from_ne_true (is_line_feed b) (λ q. both_ways (p b) (ap p (eqb-true b 10 q) ∙ h) e)) (false_from_ne_true (b == 92) (λ q. both_ways (p b) (ap p (eqb-true b 92 q) ∙ k) e)))

inner_all : (p : ℕ → Bool) → p 10 ≡ false → p 92 ≡ false → (s : List ℕ) → list_all p s ≡ true → list_all is_inner s ≡ true
inner_all p h k [] e = refl
inner_all p h k (b ∷ s) e = and_from (is_inner b) (list_all is_inner s) (inner_by p h k b (and_parts (p b) (list_all p s) e).0) (inner_all p h k s (and_parts (p b) (list_all p s) e).1)

inner_join : (a b s : List ℕ) → a ++ b ≡ s → list_all is_inner a ≡ true → list_all is_inner b ≡ true → list_all is_inner s ≡ true
inner_join a b s e h k = ap (list_all is_inner) (sym e) ∙ list_all-append is_inner a b ∙ and_from (list_all is_inner a) (list_all is_inner b) h k

inner_sign : (t : List ℕ) → list_all is_inner (sign_of t) ≡ true
inner_sign [] = refl
inner_sign (b ∷ t) = go (is_sign b) refl
  where
    go : (q : Bool) → is_sign b ≡ q → list_all is_inner (if q then b ∷ [] else []) ≡ true
    go true e = and_from (is_inner b) true (inner_by is_sign refl refl b e) refl
    go false e = refl

inner_exponent : (s : List ℕ) → is_exponent s ≡ true → list_all is_inner s ≡ true
unfolding is_exponent is_digits
inner_exponent [] h = refl
inner_exponent (b ∷ s) h =
    let parts : (is_exponent_mark b ≡ true) × ((list_all is_ascii_digit (without_sign s) && list_any is_ascii_digit (without_sign s)) ≡ true) = and_parts (is_exponent_mark b) (list_all is_ascii_digit (without_sign s) && list_any is_ascii_digit (without_sign s)) h in
    and_from (is_inner b) (list_all is_inner s) (inner_by is_exponent_mark refl refl b parts.0)
    (inner_join (sign_of s) (without_sign s) s (signed-split s) (inner_sign s) (inner_all is_ascii_digit refl refl (without_sign s) (and_parts (list_all is_ascii_digit (without_sign s)) (list_any is_ascii_digit (without_sign s)) parts.1).0))

inner_number : (s : List ℕ) → is_number s ≡ true → list_all is_inner s ≡ true
unfolding is_number is_mantissa
inner_number s h =
    let two : (is_mantissa (mantissa s) ≡ true) × (is_exponent (exponent s) ≡ true) = and_parts (is_mantissa (mantissa s)) (is_exponent (exponent s)) h in
    inner_join (mantissa s) (exponent s) s (front-behind (λ b. not (is_exponent_mark b)) s)
    (inner_all is_digit_or_point refl refl (mantissa s) (and_parts (list_all is_digit_or_point (mantissa s)) _ two.0).0)
    (inner_exponent (exponent s) two.1)

name_10 : is_name_byte 10 ≡ false
unfolding is_name_byte
name_10 = refl

name_92 : is_name_byte 92 ≡ false
unfolding is_name_byte
name_92 = refl

inner_name : (s : List ℕ) → is_name s ≡ true → list_all is_inner s ≡ true
unfolding is_name
inner_name [] h = refl
inner_name (b ∷ s) h = inner_all is_name_byte name_10 name_92 (b ∷ s) (and_parts (not (is_ascii_digit b || is_point b)) (list_all is_name_byte (b ∷ s)) h).1

inner_mark : (s : List ℕ) → is_mark s ≡ true → list_all is_inner s ≡ true
unfolding is_mark
inner_mark s h = in_table (list_all is_inner) marks s refl h

inner_word : (s : List ℕ) → is_some (section_of s) ≡ true → list_all is_inner s ≡ true
inner_word s h = inner_join (front is_name_byte s) (behind is_name_byte s) s (front-behind is_name_byte s) (inner_all is_name_byte name_10 name_92 (front is_name_byte s) (front_passes is_name_byte s)) (go (word_runs s h))
  where
    go : IsRuns s → list_all is_inner (behind is_name_byte s) ≡ true
    go (inl e) = ap (list_all is_inner) e
    go (inr r) = inner_join r.spaces r.run (behind is_name_byte s) (sym r.behind_is) (inner_all is_space refl refl r.spaces r.are_spaces) (inner_all is_name_byte name_10 name_92 r.run r.are_names)

-- a token has neither a line feed nor a backslash
pub inner_token : (text : List ℕ) (from to : ℕ) → is_some (kind_at text from to) ≡ true → list_all is_inner (slice_range text from to) ≡ true
unfolding kind_at is_word_at
inner_token text from to h = go (in_comment text from) (is_some (section_of (slice_range text from to))) (begins_line text from && not (name_goes_on text to || colon_follows text to)) (is_number (slice_range text from to)) (is_name (slice_range text from to)) (is_mark (slice_range text from to)) refl refl refl refl h
  where
    go : (a b c d e f : Bool) → is_some (section_of (slice_range text from to)) ≡ b → is_number (slice_range text from to) ≡ d → is_name (slice_range text from to) ≡ e → is_mark (slice_range text from to) ≡ f
        → is_some (if a then None else (if b && c then Some Word else (if d then Some Number else (if e then Some Name else (if f then Some Mark else None))))) ≡ true → list_all is_inner (slice_range text from to) ≡ true
    go true b c d e f p q r s h = absurd cc
    go false true c d e f p q r s h = inner_word (slice_range text from to) p
    go false false c true e f p q r s h = inner_number (slice_range text from to) q
    go false false c false true f p q r s h = inner_name (slice_range text from to) r
    go false false c false false true p q r s h = inner_mark (slice_range text from to) s
    go false false c false false false p q r s h = absurd cc

-- behind such bytes, the first of them no white space, the line is the same, and no comment stands there
pub record IsBehind (text : List ℕ) (from at : ℕ) : Type 0 where
  pub line : line_at text at ≡ line_at text from
  pub clear : in_comment text at ≡ false
  pub begun : begins_line text at ≡ false

inner_step : (text : List ℕ) (from at : ℕ) → at < length text → is_inner (get_or text at 0) ≡ true → line_at text at ≡ line_at text from → in_comment text at ≡ false → (begins_line text at && is_white (get_or text at 0)) ≡ false → IsBehind text from (at + 1)
inner_step text from at l i n c b =
    let parts : (is_line_feed (get_or text at 0) ≡ false) × ((get_or text at 0 == 92) ≡ false) = or_parts (is_line_feed (get_or text at 0)) (get_or text at 0 == 92) (not-true _ i) in
    record {
      line = line_at-step text at l ∙ ap (λ t. if t then line_at text at + 1 else line_at text at) parts.0 ∙ n;
      clear = in_comment-step text at l ∙ ap (λ t. goes_on t (get_or text at 0)) c ∙ ap (λ t. not t && (get_or text at 0 == 92)) parts.0 ∙ parts.1;
      begun = begins_line-step text at l ∙ or_from _ _ parts.0 b;
    }

behind_bytes : (text : List ℕ) (from n : ℕ) → from + (n + 1) ≤ length text → list_all is_inner (take (n + 1) (drop from text)) ≡ true → is_white (get_or text from 0) ≡ false → in_comment text from ≡ false → IsBehind text from (from + (n + 1))
behind_bytes text from n l h w c =
    let size : length (drop from text) ≡ length text - from = length-drop from text in
    let parts : (list_all is_inner (take n (drop from text)) ≡ true) × (is_inner (get_or (drop from text) n 0) ≡ true) = and_parts _ _ (sym (list_all_more is_inner (drop from text) n 0 (omega arith)) ∙ h) in
    let here : is_inner (get_or text (from + n) 0) ≡ true = ap is_inner (sym (get_or-drop from text n 0)) ∙ parts.1 in
    let place : from + n + 1 ≡ from + (n + 1) = omega arith in
    subst (λ k. IsBehind text from k) place (go n l parts.0 here)
  where
    and_false : (b : Bool) → (b && false) ≡ false
    and_false true = refl
    and_false false = refl

    go : (n : ℕ) → from + (n + 1) ≤ length text → list_all is_inner (take n (drop from text)) ≡ true → is_inner (get_or text (from + n) 0) ≡ true → IsBehind text from (from + n + 1)
    go zero l h i =
        let none : from + 0 ≡ from = omega arith in
        inner_step text from (from + 0) (omega arith) i (ap (line_at text) none) (ap (in_comment text) none ∙ c) (ap (λ b. begins_line text (from + 0) && b) (ap (λ k. is_white (get_or text k 0)) none ∙ w) ∙ and_false (begins_line text (from + 0)))
    go (suc n) l h i =
        let size : length (drop from text) ≡ length text - from = length-drop from text in
        let parts : (list_all is_inner (take n (drop from text)) ≡ true) × (is_inner (get_or (drop from text) n 0) ≡ true) = and_parts _ _ (sym (list_all_more is_inner (drop from text) n 0 (omega arith)) ∙ ap (λ k. list_all is_inner (take k (drop from text))) (add-one n) ∙ h) in
        let here : is_inner (get_or text (from + n) 0) ≡ true = ap is_inner (sym (get_or-drop from text n 0)) ∙ parts.1 in
        let before : IsBehind text from (from + n + 1) = go n (omega arith) parts.0 here in
        let place : from + n + 1 ≡ from + suc n = omega arith in
        inner_step text from (from + suc n) (omega arith) i (ap (line_at text) (sym place) ∙ before.line) (ap (in_comment text) (sym place) ∙ before.clear) (ap (λ b. b && is_white (get_or text (from + suc n) 0)) (ap (begins_line text) (sym place) ∙ before.begun))

-- what a token leaves behind it
pub behind_token : (text : List ℕ) (t : Tok) → IsToken text t → in_comment text t.from ≡ false → IsBehind text t.from t.to
unfolding is_blank
behind_token text t h c =
    let some : is_some (kind_at text t.from t.to) ≡ true = ap is_some h.kind in
    let after : t.from < t.to = kind_nonempty text t.from t.to some in
    let within : t.to ≤ length text = h.inside in
    let seen : (is_white (get_or text t.from 0) || in_comment text (t.from + 1)) ≡ false = (token_not_blank text t.from t.to some).1 in
    let count : t.to - t.from ≡ t.to - t.from - 1 + 1 = omega arith in
    let place : t.from + (t.to - t.from - 1 + 1) ≡ t.to = omega arith in
    subst (λ k. IsBehind text t.from k) place
    (behind_bytes text t.from (t.to - t.from - 1) (omega arith) (ap (λ k. list_all is_inner (take k (drop t.from text))) (sym count) ∙ inner_token text t.from t.to some) (or_parts (is_white (get_or text t.from 0)) (in_comment text (t.from + 1)) seen).0 c)

no_kind : {A : Type 0} (o : Option A) (a : A) → o ≡ None → o ≡ Some a → ⊥
no_kind o a e h = cc

-- the place behind a token stands between tokens
pub between_behind : (text : List ℕ) (t : Tok) → IsToken text t → IsBetween text (record { at = t.to; line = t.line; fresh = false })
between_behind text t h =
    let clear : in_comment text t.from ≡ false = false_from_ne_true (in_comment text t.from) (λ e. no_kind (kind_at text t.from t.to) t.kind (comment_none text t.from t.to e) h.kind) in
    let b : IsBehind text t.from t.to = behind_token text t h clear in
    record { position = record { inside = h.inside; line_is = h.line ∙ sym b.line; fresh_is = sym b.begun }; clear = b.clear }

-- and so does the place where a text begins
pub between_start : (text : List ℕ) → IsBetween text (record { at = 0; line = 1; fresh = true })
between_start text = record { position = record { inside = omega arith; line_is = line_at-start text; fresh_is = begins_line-start text }; clear = in_comment-start text }
