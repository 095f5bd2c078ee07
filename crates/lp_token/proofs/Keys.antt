-- A word in lower case and with one space between its names, byte by byte.
use Rattle.std.proofs.Common.{◌≡◌, ℕ, ◌+◌, ◌<◌, ◌≤◌, Bool, true, false, List, [], ◌∷◌, ◌++◌, length, get_or, drop, refl, sym, ◌∙◌, ap, arith, add-one, length-append, append_assoc, Option, None, Some}
use Rattle.std.proofs.lemmas.Bool.{leb-true, false_from_ne_true}
use Rattle.std.proofs.lemmas.List.{append-nil, drop_all}
use Rattle.std.proofs.Math.Seq.{drop-cons}
use Rattle.std.specs.Prelude.{if◌then◌else◌, nat_le, is_some, IsSome, option_to_list}
use Rattle.std.specs.Str.{str_to_ascii_lowercase}
use Rattle.std.specs.Char.{to_ascii_lowercase}
use Rattle.lp_token.specs.declared.Section.{Section}
use Rattle.lp_token.specs.declared.word.Gap.{Gap}
use Rattle.lp_token.specs.declared.word.Gap.TheVariants.{Ahead, Here, Behind}
use Rattle.lp_token.specs.Lexeme.{behind}
use Rattle.lp_token.specs.Word.{is_space, single_spaced, section_words, section_with, section_of}
use Rattle.lp_token.specs.Scan.{gap_behind, key_byte}
use Rattle.lp_token.proofs.Words.{section_passes}

-- what is left of the key at a place
unfoldable pub key_rest : Gap → List ℕ → List ℕ
key_rest Ahead t = str_to_ascii_lowercase (single_spaced t)
key_rest Here t = str_to_ascii_lowercase (behind is_space t)
key_rest Behind t = str_to_ascii_lowercase t

key_step : (gap : Gap) (b : ℕ) (t : List ℕ) → key_rest gap (b ∷ t) ≡ option_to_list (key_byte gap b) ++ key_rest (gap_behind gap b) t
unfolding key_rest single_spaced
key_step Ahead b t = go (is_space b)
  where
    go : (q : Bool) → str_to_ascii_lowercase (if q then 32 ∷ behind is_space t else b ∷ single_spaced t) ≡ option_to_list (if q then Some 32 else Some (to_ascii_lowercase b)) ++ key_rest (if q then Here else Ahead) t
    go true = refl
    go false = refl
key_step Here b t = go (is_space b)
  where
    go : (q : Bool) → str_to_ascii_lowercase (if q then behind is_space t else b ∷ t) ≡ option_to_list (if q then None else Some (to_ascii_lowercase b)) ++ key_rest (if q then Here else Behind) t
    go true = refl
    go false = refl
key_step Behind b t = refl

-- what is gathered and what is left are the key
unfoldable pub IsKeyUpTo : List ℕ → ℕ → Gap → List ℕ → Type 0
unfolding key_rest
IsKeyUpTo bytes at gap key = key ++ key_rest gap (drop at bytes) ≡ str_to_ascii_lowercase (single_spaced bytes)

pub key_start : (bytes key : List ℕ) → key ≡ [] → IsKeyUpTo bytes 0 Ahead key
unfolding IsKeyUpTo key_rest
key_start bytes key e = ap (λ k. k ++ str_to_ascii_lowercase (single_spaced bytes)) e

shown : (bytes key : List ℕ) (at : ℕ) (gap : Gap) → at < length bytes → IsKeyUpTo bytes at gap key → (key ++ option_to_list (key_byte gap (get_or bytes at 0))) ++ key_rest (gap_behind gap (get_or bytes at 0)) (drop (at + 1) bytes) ≡ str_to_ascii_lowercase (single_spaced bytes)
unfolding IsKeyUpTo
shown bytes key at gap l h =
    let cons : drop at bytes ≡ get_or bytes at 0 ∷ drop (at + 1) bytes = rw add-one (drop-cons bytes at 0 l) in
    append_assoc key (option_to_list (key_byte gap (get_or bytes at 0))) _ ∙ ap (λ r. key ++ r) (sym (key_step gap (get_or bytes at 0) (drop (at + 1) bytes)) ∙ ap (key_rest gap) (sym cons)) ∙ h

-- one more byte
pub key_more : (bytes key more : List ℕ) (at : ℕ) (gap : Gap) (byte : Option ℕ) → at < length bytes → IsKeyUpTo bytes at gap key → byte ≡ key_byte gap (get_or bytes at 0) → more ≡ key ++ option_to_list byte → IsKeyUpTo bytes (at + 1) (gap_behind gap (get_or bytes at 0)) more
unfolding IsKeyUpTo
key_more bytes key more at gap byte l h e m = ap (λ k. k ++ key_rest (gap_behind gap (get_or bytes at 0)) (drop (at + 1) bytes)) (m ∙ ap (λ b. key ++ option_to_list b) e) ∙ shown bytes key at gap l h

-- no section word is longer than 16 bytes
long_none : (key : List ℕ) → 16 < length key → section_with section_words key ≡ None
long_none key l = none_of (section_with section_words key) (false_from_ne_true (is_some (section_with section_words key)) (λ s.
    let short : length key ≤ 16 = leb-true (length key) 16 (section_passes (λ w. nat_le (length w) 16) section_words key refl s) in
    let none : ⊥ = omega arith in none))
  where
    none_of : (o : Option Section) → is_some o ≡ false → o ≡ None
    none_of None h = refl
    none_of (Some x) h = absurd cc

-- where no room is left for a byte, the word is no section word
pub key_full : (bytes key : List ℕ) (at : ℕ) (gap : Gap) (byte : Option ℕ) → at < length bytes → IsKeyUpTo bytes at gap key → byte ≡ key_byte gap (get_or bytes at 0) → length key ≡ 16 → IsSome byte → None ≡ section_of bytes
unfolding section_of
key_full bytes key at gap byte l h e n s =
    let whole : (key ++ option_to_list (key_byte gap (get_or bytes at 0))) ++ key_rest (gap_behind gap (get_or bytes at 0)) (drop (at + 1) bytes) ≡ str_to_ascii_lowercase (single_spaced bytes) = shown bytes key at gap l h in
    let one : 0 < length (option_to_list (key_byte gap (get_or bytes at 0))) = some (key_byte gap (get_or bytes at 0)) (ap is_some (sym e) ∙ s) in
    let size : length (str_to_ascii_lowercase (single_spaced bytes)) ≡ length (key ++ option_to_list (key_byte gap (get_or bytes at 0))) + length (key_rest (gap_behind gap (get_or bytes at 0)) (drop (at + 1) bytes)) = ap length (sym whole) ∙ length-append _ _ in
    let front : length (key ++ option_to_list (key_byte gap (get_or bytes at 0))) ≡ length key + length (option_to_list (key_byte gap (get_or bytes at 0))) = length-append key _ in
    sym (long_none (str_to_ascii_lowercase (single_spaced bytes)) (omega arith))
  where
    some : (o : Option ℕ) → is_some o ≡ true → 0 < length (option_to_list o)
    some None h = absurd cc
    some (Some x) h = omega arith

-- the whole key
pub key_whole : (bytes key : List ℕ) (at : ℕ) (gap : Gap) → length bytes ≤ at → IsKeyUpTo bytes at gap key → section_with section_words key ≡ section_of bytes
unfolding IsKeyUpTo section_of key_rest single_spaced
key_whole bytes key at gap l h = ap (section_with section_words) (sym (append-nil key) ∙ ap (λ r. key ++ r) (sym (nothing gap)) ∙ ap (λ t. key ++ key_rest gap t) (sym (drop_all at bytes l)) ∙ h)
  where
    nothing : (gap : Gap) → key_rest gap [] ≡ []
    nothing Ahead = refl
    nothing Here = refl
    nothing Behind = refl
