-- The words of a decomposition's text: numbers, names of rows, and keywords.
use Rattle.std.proofs.Common.{◌≡◌, ◌≢◌, ◌⊎◌, ℕ, zero, suc, ◌+◌, ◌-◌, ◌*◌, ◌<◌, ◌≤◌, ◌^◌, ◌==◌, Bool, true, false, not, ◌||◌, ◌&&◌, if◌then◌else◌, List, [], ◌∷◌, length, get_or, Option, Some, None, refl, sym, ap, subst, ◌∙◌, ⊎_elim, inl, inr, arith}
use Rattle.std.specs.Prelude.{nat_lt, nat_le, IsTrue, codes, decimal, fold}
use Rattle.std.specs.List.{AllByRecursion, list_any, list_all}
use Rattle.std.specs.Char.{is_ascii_digit, is_ascii_alphanumeric}
use Rattle.std.proofs.lemmas.Bool.{and_parts, or_cases, leb-true, le-leb, both_ways}
use Rattle.std.proofs.lemmas.Bool.Decides.{eqb_tells}
use Rattle.std.proofs.lemmas.Fmt.{decimal_nonempty, digits_decimal, digits_value-decimal}
use Rattle.std.proofs.lemmas.Str.Parse.{IsDigitsTest, FoldsDigits, IsNumeralModel, numerals_by_fold}
use Rattle.lp_token.specs.Lexeme.{is_name, is_name_byte, is_point}
use Rattle.dec_syntax.specs.Cut.{is_filled}
use Rattle.dec_syntax.specs.Words.{value_of, is_digits, number_of}
use Rattle.dec_write.specs.Text.{IsRowName}
use Rattle.dec_write.proofs.SplitLemmas.{IsPlain, IsWord}

-- ---- numbers

abbrev AreDigits : List ℕ → Type 0
AreDigits ds = list_all is_ascii_digit ds ≡ true

both_true : (a b : Bool) → a ≡ true → b ≡ true → (a && b) ≡ true
both_true a b p q = ap (λ (t : Bool). t && b) p ∙ q

digits_test : IsDigitsTest AreDigits
digits_test = record {
  empty = refl;
  parts = λ c cs e.
      let k = and_parts (is_ascii_digit c) (list_all is_ascii_digit cs) e in
      let m = and_parts (nat_le 48 c) (nat_le c 57) k.0 in
      ((leb-true 48 c m.0, leb-true c 57 m.1), k.1);
  more = λ c cs k e. both_true (is_ascii_digit c) (list_all is_ascii_digit cs) (both_true (nat_le 48 c) (nat_le c 57) (le-leb 48 c k.0) (le-leb c 57 k.1)) e;
}

folded : ℕ → List ℕ → ℕ
folded n ds = fold (λ value digit. 10 * value + (digit - 48)) n ds

digits_fold : FoldsDigits folded
unfolding folded
digits_fold = record {
  empty = λ n. refl;
  more = λ n c cs k. ap (λ (x : ℕ). fold (λ value digit. 10 * value + (digit - 48)) x cs) (let same : 10 * n + (c - 48) ≡ n * 10 + (c - 48) = omega arith in same);
}

numerals : IsNumeralModel AreDigits (folded 0)
numerals = numerals_by_fold AreDigits digits_test folded digits_fold

pub decimal_digits : (n : ℕ) → n < 2 ^ 64 → list_all is_ascii_digit (decimal n) ≡ true
decimal_digits n l = digits_decimal numerals n l

filled_long : (w : List ℕ) → 0 < length w → is_filled w ≡ true
filled_long [] l = absurd (omega arith)
filled_long (b ∷ w) l = refl

pub number_decimal : (n : ℕ) → n < 2 ^ 64 → number_of (decimal n) ≡ Some n
unfolding folded
number_decimal n l =
    ap (λ (t : Bool). if t then Some (value_of (decimal n)) else None)
    (both_true (is_filled (decimal n)) (list_all is_ascii_digit (decimal n)) (filled_long (decimal n) (decimal_nonempty n l)) (decimal_digits n l))
    ∙ ap Some (digits_value-decimal numerals n l)

digits_plain : (ds : List ℕ) → list_all is_ascii_digit ds ≡ true → AllByRecursion IsPlain ds
digits_plain [] e = tt
digits_plain (c ∷ cs) e =
    let k = and_parts (is_ascii_digit c) (list_all is_ascii_digit cs) e in
    let m = and_parts (nat_le 48 c) (nat_le c 57) k.0 in
    let low : 48 ≤ c = leb-true 48 c m.0 in
    let high : c ≤ 57 = leb-true c 57 m.1 in
    (record { above = omega arith; below = omega arith; no_mark = λ same. omega (arith, same, high) }, digits_plain cs k.1)

pub decimal_word : (n : ℕ) → n < 2 ^ 64 → IsWord (decimal n)
decimal_word n l = record { filled = filled_long (decimal n) (decimal_nonempty n l); plain = digits_plain (decimal n) (decimal_digits n l) }

-- ---- names

plain_range : (a z c : ℕ) → 32 < a → z < 127 → (z < 92) ⊎ (92 < a) → (nat_le a c && nat_le c z) ≡ true → IsPlain c
plain_range a z c low high apart e =
    let m = and_parts (nat_le a c) (nat_le c z) e in
    let above : a ≤ c = leb-true a c m.0 in
    let below : c ≤ z = leb-true c z m.1 in
    record {
      above = omega arith;
      below = omega arith;
      no_mark = λ same. ⊎_elim (λ l. omega (arith, same, l, below)) (λ g. omega (arith, same, g, above)) apart;
    }

-- what holds of each of these characters holds of one of them
among_all : (cs : List ℕ) (b : ℕ) → AllByRecursion IsPlain cs → list_any (λ c. b == c) cs ≡ true → IsPlain b
among_all [] b h e = absurd (both_ways false refl e)
among_all (c ∷ cs) b h e = ⊎_elim
    (λ first. ⊎_elim (λ same. subst IsPlain (sym same.1) h.0) (λ other. absurd (both_ways (b == c) other.0 first)) (eqb_tells b c))
    (λ rest. among_all cs b h.1 rest)
    (or_cases (b == c) (list_any (λ d. b == d) cs) e)

is_plain : ℕ → Bool
is_plain b = (nat_le 33 b && nat_le b 126) && not (b == 92)

plain_by : (b : ℕ) → is_plain b ≡ true → IsPlain b
unfolding is_plain
plain_by b e =
    let k = and_parts (nat_le 33 b && nat_le b 126) (not (b == 92)) e in
    let m = and_parts (nat_le 33 b) (nat_le b 126) k.0 in
    let above : 33 ≤ b = leb-true 33 b m.0 in
    let below : b ≤ 126 = leb-true b 126 m.1 in
    record {
      above = omega arith;
      below = omega arith;
      no_mark = λ same. ⊎_elim (λ t. both_ways (not (b == 92)) (ap not t.0) k.1) (λ o. o.1 same) (eqb_tells b 92);
    }

all_plain : (bs : List ℕ) → list_all is_plain bs ≡ true → AllByRecursion IsPlain bs
all_plain [] e = tt
all_plain (b ∷ bs) e = let k = and_parts (is_plain b) (list_all is_plain bs) e in (plain_by b k.0, all_plain bs k.1)

marks_plain : AllByRecursion IsPlain (codes "!\"#$%&(),.;?@_`'{}~/|")
unfolding is_plain
marks_plain = all_plain (codes "!\"#$%&(),.;?@_`'{}~/|") refl

name_byte_plain : (b : ℕ) → is_name_byte b ≡ true → IsPlain b
unfolding is_name_byte
name_byte_plain b e = ⊎_elim
    (λ h. ⊎_elim
    (λ i. ⊎_elim
    (λ j. plain_range 48 57 b (omega arith) (omega arith) (inl (omega arith)) j)
    (λ j. plain_range 65 90 b (omega arith) (omega arith) (inl (omega arith)) j)
    (or_cases (nat_le 48 b && nat_le b 57) (nat_le 65 b && nat_le b 90) i))
    (λ i. plain_range 97 122 b (omega arith) (omega arith) (inr (omega arith)) i)
    (or_cases ((nat_le 48 b && nat_le b 57) || (nat_le 65 b && nat_le b 90)) (nat_le 97 b && nat_le b 122) h))
    (λ h. among_all (codes "!\"#$%&(),.;?@_`'{}~/|") b marks_plain h)
    (or_cases (is_ascii_alphanumeric b) (list_any (λ c. b == c) (codes "!\"#$%&(),.;?@_`'{}~/|")) e)

names_plain : (bs : List ℕ) → list_all is_name_byte bs ≡ true → AllByRecursion IsPlain bs
names_plain [] e = tt
names_plain (b ∷ bs) e = let k = and_parts (is_name_byte b) (list_all is_name_byte bs) e in (name_byte_plain b k.0, names_plain bs k.1)

is_name_word : (w : List ℕ) → is_name w ≡ true → IsWord w
unfolding is_name
is_name_word [] e = absurd (both_ways false refl e)
is_name_word (b ∷ bs) e = record {
  filled = refl;
  plain = names_plain (b ∷ bs) (and_parts (not (is_ascii_digit b || is_point b)) (list_all is_name_byte (b ∷ bs)) e).1;
}

pub name_word : (w : List ℕ) → IsRowName w → IsWord w
name_word w h = is_name_word w h.spelled

-- ---- keywords

pub keyword_words : IsWord (codes "NBLOCKS") × IsWord (codes "BLOCK") × IsWord (codes "MASTERCONSS")
unfolding is_plain
keyword_words = (
  record { filled = refl; plain = all_plain (codes "NBLOCKS") refl },
  record { filled = refl; plain = all_plain (codes "BLOCK") refl },
  record { filled = refl; plain = all_plain (codes "MASTERCONSS") refl },
)
