-- The words and tokens of a text whose lines single spaces cut into words.
use Rattle.std.proofs.Common.{◌≡◌, ◌≢◌, ◌⊎◌, ℕ, zero, suc, ◌+◌, ◌<◌, ◌≤◌, ◌==◌, Bool, true, false, not, ◌||◌, ◌&&◌, if◌then◌else◌, List, [], ◌∷◌, ◌++◌, length, get_or, filter, map, refl, sym, ap, subst, ◌∙◌, ⊎_elim, arith, append_assoc}
use Rattle.std.specs.Prelude.{nat_lt, IsTrue, codes}
use Rattle.std.specs.List.{AllByRecursion, list_any, list_all, flat_map}
use Rattle.std.proofs.lemmas.Bool.{or_parts, and_parts, false_from_ne_true, ltb-true, both_ways}
use Rattle.std.proofs.lemmas.Bool.Decides.{eqb_tells}
use Rattle.std.proofs.lemmas.List.{append-nil}
use Rattle.dec_syntax.specs.Cut.{Token, token_of, is_white, is_line_feed, with_front, split, without_comment, is_filled, words_of, line_tokens, tokens_from}
use Rattle.dec_syntax.specs.Words.{has_bad_byte, is_bad}
use Rattle.dec_write.specs.Text.{Line, line_bytes, spaced}

-- a printed character of ASCII that is no backslash
pub record IsPlain (b : ℕ) : Type 0 where
  pub above : 32 < b
  pub below : b < 127
  pub no_mark : b ≢ 92

-- a word of such characters
pub record IsWord (w : List ℕ) : Type 0 where
  pub filled : is_filled w ≡ true
  pub plain : AllByRecursion IsPlain w

-- a line of words
pub record IsLine (line : Line) : Type 0 where
  pub first : IsWord line.first
  pub words : AllByRecursion IsWord line.words

-- ---- plain characters

test_apart : (b k : ℕ) → b ≢ k → (b == k) ≡ false
test_apart b k apart = ⊎_elim (λ same. absurd (apart same.1)) (λ other. other.0) (eqb_tells b k)

or_none : (a b : Bool) → a ≡ false → b ≡ false → (a || b) ≡ false
or_none a b p q = ap (λ (t : Bool). t || b) p ∙ q

plain_not : (b k : ℕ) → IsPlain b → k < 33 → (b == k) ≡ false
plain_not b k h l = test_apart b k (λ e. omega (arith, e, h.above, l))

plain_white : (b : ℕ) → IsPlain b → is_white b ≡ false
plain_white b h =
    or_none (b == 32) ((b == 9) || ((b == 13) || (b == 10))) (plain_not b 32 h (omega arith))
    (or_none (b == 9) ((b == 13) || (b == 10)) (plain_not b 9 h (omega arith))
    (or_none (b == 13) (b == 10) (plain_not b 13 h (omega arith)) (plain_not b 10 h (omega arith))))

plain_mark : (b : ℕ) → IsPlain b → (b == 92) ≡ false
plain_mark b h = test_apart b 92 h.no_mark

plain_feed : (b : ℕ) → IsPlain b → is_line_feed b ≡ false
plain_feed b h = plain_not b 10 h (omega arith)

plain_good : (b : ℕ) → IsPlain b → is_bad b ≡ false
plain_good b h = or_none (nat_lt b 33) (nat_lt 126 b)
    (false_from_ne_true (nat_lt b 33) (λ e. omega (arith, ltb-true b 33 e, h.above)))
    (false_from_ne_true (nat_lt 126 b) (λ e. omega (arith, ltb-true 126 b e, h.below)))

none_of : (p : ℕ → Bool) → ((b : ℕ) → IsPlain b → p b ≡ false) → (w : List ℕ) → AllByRecursion IsPlain w → list_any p w ≡ false
none_of p each [] h = refl
none_of p each (b ∷ w) h = or_none (p b) (list_any p w) (each b h.0) (none_of p each w h.1)

pub word_good : (w : List ℕ) → IsWord w → has_bad_byte w ≡ false
word_good w h = none_of is_bad plain_good w h.plain

any_append : (p : ℕ → Bool) (xs ys : List ℕ) → list_any p xs ≡ false → list_any p ys ≡ false → list_any p (xs ++ ys) ≡ false
any_append p [] ys a b = b
any_append p (x ∷ xs) ys a b =
    let parts = or_parts (p x) (list_any p xs) a in
    or_none (p x) (list_any p (xs ++ ys)) parts.0 (any_append p xs ys parts.1 b)

spaced_none : (p : ℕ → Bool) → ((b : ℕ) → IsPlain b → p b ≡ false) → p 32 ≡ false → (ws : List (List ℕ)) → AllByRecursion IsWord ws → list_any p (spaced ws) ≡ false
spaced_none p each space [] h = refl
spaced_none p each space (w ∷ ws) h =
    any_append p (32 ∷ w) (spaced ws) (or_none (p 32) (list_any p w) space (none_of p each w h.0.plain)) (spaced_none p each space ws h.1)

-- ---- splits

split_none : (p : ℕ → Bool) (xs : List ℕ) → list_any p xs ≡ false → split p xs ≡ xs ∷ []
split_none p [] h = refl
split_none p (b ∷ xs) h =
    let parts = or_parts (p b) (list_any p xs) h in
    ap (λ (t : Bool). if t then [] ∷ split p xs else with_front b (split p xs)) parts.0 ∙ ap (with_front b) (split_none p xs parts.1)

split_at : (p : ℕ → Bool) (xs : List ℕ) (b : ℕ) (rest : List ℕ) → list_any p xs ≡ false → p b ≡ true → split p (xs ++ (b ∷ rest)) ≡ xs ∷ split p rest
split_at p [] b rest h e = ap (λ (t : Bool). if t then [] ∷ split p rest else with_front b (split p rest)) e
split_at p (x ∷ xs) b rest h e =
    let parts = or_parts (p x) (list_any p xs) h in
    ap (λ (t : Bool). if t then [] ∷ split p (xs ++ (b ∷ rest)) else with_front x (split p (xs ++ (b ∷ rest)))) parts.0
    ∙ ap (with_front x) (split_at p xs b rest parts.1 e)

split_words : (w : List ℕ) (ws : List (List ℕ)) → IsWord w → AllByRecursion IsWord ws → split is_white (w ++ spaced ws) ≡ w ∷ ws
split_words w [] h hs = ap (split is_white) (append-nil w) ∙ split_none is_white w (none_of is_white plain_white w h.plain)
split_words w (v ∷ ws) h hs =
    split_at is_white w 32 (v ++ spaced ws) (none_of is_white plain_white w h.plain) refl
    ∙ ap (λ (xs : List (List ℕ)). w ∷ xs) (split_words v ws hs.0 hs.1)

no_comment : (xs : List ℕ) → list_any (λ b. b == 92) xs ≡ false → without_comment xs ≡ xs
no_comment [] h = refl
no_comment (b ∷ xs) h =
    let parts = or_parts (b == 92) (list_any (λ c. c == 92) xs) h in
    ap (λ (t : Bool). if t then [] else b ∷ without_comment xs) parts.0 ∙ ap (λ (ys : List ℕ). b ∷ ys) (no_comment xs parts.1)

filter_filled : (ws : List (List ℕ)) → AllByRecursion IsWord ws → filter is_filled ws ≡ ws
filter_filled [] h = refl
filter_filled (w ∷ ws) h =
    ap (λ (t : Bool). if t then w ∷ filter is_filled ws else filter is_filled ws) h.0.filled ∙ ap (λ (xs : List (List ℕ)). w ∷ xs) (filter_filled ws h.1)

words_line : (w : List ℕ) (ws : List (List ℕ)) → IsWord w → AllByRecursion IsWord ws → words_of (w ++ spaced ws) ≡ w ∷ ws
words_line w ws h hs =
    let clear = any_append (λ b. b == 92) w (spaced ws) (none_of (λ b. b == 92) plain_mark w h.plain) (spaced_none (λ b. b == 92) plain_mark refl ws hs) in
    ap (λ (xs : List ℕ). filter is_filled (split is_white xs)) (no_comment (w ++ spaced ws) clear)
    ∙ ap (filter is_filled) (split_words w ws h hs)
    ∙ filter_filled (w ∷ ws) (h, hs)

-- ---- the tokens of lines

abbrev pub word_tokens : ℕ → List Line → List Token
word_tokens n [] = []
word_tokens n (line ∷ lines) = line_tokens n true (line.first ∷ line.words) ++ word_tokens (n + 1) lines

pub tokens_lines : (n : ℕ) (lines : List Line) → AllByRecursion IsLine lines → tokens_from n true (split is_line_feed (flat_map line_bytes lines)) ≡ word_tokens n lines
tokens_lines n [] h = refl
tokens_lines n (line ∷ lines) h =
    let content : List ℕ = line.first ++ spaced line.words in
    let clear = any_append is_line_feed line.first (spaced line.words) (none_of is_line_feed plain_feed line.first h.0.first.plain) (spaced_none is_line_feed plain_feed refl line.words h.0.words) in
    ap (λ (xs : List ℕ). tokens_from n true (split is_line_feed xs)) (append_assoc (line.first ++ spaced line.words) (10 ∷ []) (flat_map line_bytes lines))
    ∙ ap (tokens_from n true) (split_at is_line_feed (line.first ++ spaced line.words) 10 (flat_map line_bytes lines) clear refl)
    ∙ ap (λ (ws : List (List ℕ)). line_tokens n true ws ++ tokens_from (n + 1) true (split is_line_feed (flat_map line_bytes lines))) (words_line line.first line.words h.0.first h.0.words)
    ∙ ap (λ (ts : List Token). line_tokens n true (line.first ∷ line.words) ++ ts) (tokens_lines (n + 1) lines h.1)
