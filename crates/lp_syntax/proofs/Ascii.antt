-- Names are ASCII, and so text.
use Rattle.std.proofs.Common.{◌≡◌, ℕ, zero, suc, ◌<◌, ◌≤◌, true, not, ◌||◌, List, [], ◌∷◌, refl, inl, inr, arith}
use Rattle.std.proofs.lemmas.Bool.{or_cases, and_parts, ltb-true, leb-true, eqb-true}
use Rattle.std.proofs.lemmas.Str.{IsUtf8-from_ascii}
use Rattle.std.specs.Prelude.{◌==◌, nat_lt, nat_le, codes}
use Rattle.std.specs.Int.{is_in_range}
use Rattle.std.specs.Char.{is_ascii_alphanumeric, is_ascii_digit}
use Rattle.std.specs.List.{list_any, list_all}
use Rattle.std.specs.Str.{IsUtf8, IsAscii}
use Rattle.lp_token.specs.Lexeme.{is_name, is_name_byte, is_point}

in_range : (low high b : ℕ) → high < 128 → is_in_range low high b ≡ true → b < 128
in_range low high b h e = let p : b ≤ high = leb-true _ _ (and_parts (nat_le low b) (nat_le b high) e).1 in omega arith

among : (b : ℕ) (cs : List ℕ) → list_all (λ c. nat_lt c 128) cs ≡ true → list_any (λ c. b == c) cs ≡ true → b < 128
among b [] a e = absurd cc
among b (c ∷ cs) a e = elim (or_cases (b == c) (list_any (λ c. b == c) cs) e) [
  | inl h ↦ let small : c < 128 = ltb-true _ _ (and_parts (nat_lt c 128) (list_all (λ c. nat_lt c 128) cs) a).0 in let same : b ≡ c = eqb-true b c h in omega arith
  | inr h ↦ among b cs (and_parts (nat_lt c 128) (list_all (λ c. nat_lt c 128) cs) a).1 h
]

name_byte : (b : ℕ) → is_name_byte b ≡ true → b < 128
unfolding is_name_byte
name_byte b e = elim (or_cases (is_ascii_alphanumeric b) (list_any (λ c. b == c) (codes "!\"#$%&(),.;?@_`'{}~/|")) e) [
  | inr h ↦ among b (codes "!\"#$%&(),.;?@_`'{}~/|") refl h
  | inl h ↦ elim (or_cases (is_in_range 48 57 b || is_in_range 65 90 b) (is_in_range 97 122 b) h) [
    | inr k ↦ in_range 97 122 b (omega arith) k
    | inl k ↦ elim (or_cases (is_in_range 48 57 b) (is_in_range 65 90 b) k) [
      | inl m ↦ in_range 48 57 b (omega arith) m
      | inr m ↦ in_range 65 90 b (omega arith) m
    ]
  ]
]

name_bytes : (bs : List ℕ) → list_all is_name_byte bs ≡ true → IsAscii bs
name_bytes [] e i = omega arith
name_bytes (b ∷ bs) e zero = name_byte b (and_parts (is_name_byte b) (list_all is_name_byte bs) e).0
name_bytes (b ∷ bs) e (suc i) = name_bytes bs (and_parts (is_name_byte b) (list_all is_name_byte bs) e).1 i

pub name_is_text : (bs : List ℕ) → is_name bs ≡ true → IsUtf8 bs
unfolding is_name
name_is_text [] e = absurd cc
name_is_text (b ∷ bs) e = IsUtf8-from_ascii (b ∷ bs) (name_bytes (b ∷ bs) (and_parts (not (is_ascii_digit b || is_point b)) (list_all is_name_byte (b ∷ bs)) e).1)
