-- What a written number is worth, by its digits and how far they are shifted.
use Rattle.std.proofs.Common.{◌≡◌, ℕ, zero, suc, ◌+◌, ◌-◌, ◌*◌, ◌/◌, ◌%◌, ◌^◌, ◌<◌, ◌≤◌, Bool, true, false, cond, not, ◌&&◌, List, [], ◌∷◌, ◌++◌, length, get_or, take, drop, refl, sym, ◌∙◌, ap, subst, inl, inr, arith, add-one, length-append, length-drop}
use Rattle.std.proofs.lemmas.Bool.{and_parts, and_from, leb-true, lt-ltb, le-ltb, le-leb, lt-leb, cases_lt, ne_eqb}
use Rattle.std.proofs.lemmas.Nat.{pow-add, mod-mul-add, div-mul-add}
use Rattle.std.proofs.lemmas.Int.Digits.{digits_value_push, digits_value-lt}
use Rattle.std.proofs.lemmas.List.{append-nil, take-append-drop, take_all}
use Rattle.std.proofs.lemmas.List.Elements.{filter_more, filter-append}
use Rattle.std.proofs.lemmas.List.Folds.{list_all_more}
use Rattle.std.proofs.lemmas.List.Sums.{length-filter, position_or_len_is, count_by-le-length, count_by_more_yes, count_by_more_no}
use Rattle.std.proofs.Math.Nat.{mul-le-mul_left}
use Rattle.std.specs.Prelude.{◌==◌, if◌then◌else◌, nat_le, min, filter, count_by, IsFalse}
use Rattle.std.specs.List.{list_all, list_any, after_first, position_or_len}
use Rattle.std.specs.Char.{is_ascii_digit, digit_value}
use Rattle.std.specs.Str.Parse.{digits_value, digits_value_after, AllDigits}
use Rattle.lp_token.specs.Lexeme.{is_point, is_exponent_mark, front, behind, mantissa, exponent, begins}
use Rattle.lp_token.proofs.Numbers.{front_whole}
use Rattle.lp_syntax.specs.Number.{digits_number, is_whole, whole_value}
use Rattle.lp_syntax.specs.Symbols.{greatest, infinite_from, number_symbol}
use Rattle.lp_syntax.specs.Tree.{Symbol, number, infinity, unfit}
use Rattle.lp_token.specs.declared.LpKind.TheVariants.{NotWhole, TooLarge}
use Rattle.lp_syntax.specs.declared.number.Worth.{Worth}
use Rattle.lp_syntax.specs.declared.number.Worth.TheVariants as worths
use Rattle.lp_syntax.specs.Worth.{IsWorth, IsWorthOf, IsParted, worth_symbol, capped, digit_behind}

-- a digit's value
digit_is : (b : ℕ) → is_ascii_digit b ≡ true → digit_value b ≡ b - 48
digit_is b h =
    let parts : (nat_le 48 b ≡ true) × (nat_le b 57 ≡ true) = and_parts (nat_le 48 b) (nat_le b 57) h in
    let low : 48 ≤ b = leb-true 48 b parts.0 in
    let high : b ≤ 57 = leb-true b 57 parts.1 in
    let less : b < 58 = omega arith in
    rw (le-ltb b 48 low, lt-ltb b 58 less) refl

digit_below : (b : ℕ) → is_ascii_digit b ≡ true → digit_value b < 10
digit_below b h =
    let parts : (nat_le 48 b ≡ true) × (nat_le b 57 ≡ true) = and_parts (nat_le 48 b) (nat_le b 57) h in
    let low : 48 ≤ b = leb-true 48 b parts.0 in
    let high : b ≤ 57 = leb-true b 57 parts.1 in
    let same : digit_value b ≡ b - 48 = digit_is b h in
    omega arith

pub digit_small : (b : ℕ) → is_ascii_digit b ≡ true → b - 48 ≤ 9
digit_small b h =
    let below : digit_value b < 10 = digit_below b h in
    let same : digit_value b ≡ b - 48 = digit_is b h in
    omega arith

-- one more byte
pub digits_more : (bytes : List ℕ) (i : ℕ) → i < length bytes → digits_number (take (i + 1) bytes) ≡ (if is_ascii_digit (get_or bytes i 0) then digits_number (take i bytes) * 10 + (get_or bytes i 0 - 48) else digits_number (take i bytes))
unfolding digits_number
digits_more bytes i l = ap (digits_value 10) (filter_more is_ascii_digit bytes i 0 l) ∙ go (is_ascii_digit (get_or bytes i 0)) refl
  where
    b : ℕ
    b = get_or bytes i 0

    ds : List ℕ
    ds = filter is_ascii_digit (take i bytes)

    go : (t : Bool) → is_ascii_digit (get_or bytes i 0) ≡ t → digits_value 10 (filter is_ascii_digit (take i bytes) ++ cond t (get_or bytes i 0 ∷ []) []) ≡ (if t then digits_value 10 (filter is_ascii_digit (take i bytes)) * 10 + (get_or bytes i 0 - 48) else digits_value 10 (filter is_ascii_digit (take i bytes)))
    go true e = digits_value_push 10 (filter is_ascii_digit (take i bytes)) (get_or bytes i 0) ∙ ap (λ d. digits_value 10 (filter is_ascii_digit (take i bytes)) * 10 + d) (digit_is (get_or bytes i 0) e)
    go false e = ap (digits_value 10) (append-nil (filter is_ascii_digit (take i bytes)))

-- a cap may be set before the next digit as well as behind it
capped_push : (x d : ℕ) → capped (capped x * 10 + d) ≡ capped (x * 10 + d)
capped_push x d = omega arith

pub capped_more : (bytes : List ℕ) (i value : ℕ) → i < length bytes → value ≡ capped (digits_number (take i bytes)) → digit_behind value (get_or bytes i 0) ≡ capped (digits_number (take (i + 1) bytes))
capped_more bytes i value l e = ap (λ v. digit_behind v (get_or bytes i 0)) e ∙ go (is_ascii_digit (get_or bytes i 0)) ∙ ap capped (sym (digits_more bytes i l))
  where
    go : (t : Bool) → (if t then capped (capped (digits_number (take i bytes)) * 10 + (get_or bytes i 0 - 48)) else capped (digits_number (take i bytes))) ≡ capped (if t then digits_number (take i bytes) * 10 + (get_or bytes i 0 - 48) else digits_number (take i bytes))
    go true = capped_push (digits_number (take i bytes)) (get_or bytes i 0 - 48)
    go false = refl

pub capped_none : (bytes : List ℕ) → 0 ≡ capped (digits_number (take 0 bytes))
unfolding digits_number
capped_none bytes = refl

pub capped_whole : (bytes : List ℕ) (i value : ℕ) → length bytes ≤ i → value ≡ capped (digits_number (take i bytes)) → value ≡ capped (digits_number bytes)
capped_whole bytes i value l e = e ∙ ap (λ b. capped (digits_number b)) (take_all i bytes l)

-- zeros
pub zeros_more : (value i : ℕ) → capped (capped (value * 10 ^ i) * 10) ≡ capped (value * 10 ^ (i + 1))
zeros_more value i =
    let step : 10 ^ (i + 1) ≡ 10 ^ i * 10 = pow-add 10 i 1 in
    let one : value * 10 ^ (i + 1) ≡ value * (10 ^ i * 10) = ap (λ p. value * p) step in
    let two : value * (10 ^ i * 10) ≡ value * 10 ^ i * 10 = omega arith in
    let whole : value * 10 ^ (i + 1) ≡ value * 10 ^ i * 10 = one ∙ two in
    omega arith

power_some : (k : ℕ) → 1 ≤ 10 ^ k
power_some zero = omega arith
power_some (suc k) =
    let less : 1 ≤ 10 ^ k = power_some k in
    let step : 10 ^ (k + 1) ≡ 10 ^ k * 10 = pow-add 10 k 1 in
    let some : 1 ≤ 10 ^ (k + 1) = omega arith in
    subst (λ n. 1 ≤ 10 ^ n) (add-one k) some

power_split : (n k : ℕ) → n ≤ k → 10 ^ k ≡ 10 ^ (k - n) * 10 ^ n
power_split n k l =
    let place : k ≡ k - n + n = omega arith in
    ap (λ m. 10 ^ m) place ∙ pow-add 10 (k - n) n

power_le : (n k : ℕ) → n ≤ k → 10 ^ n ≤ 10 ^ k
power_le n k l =
    let split : 10 ^ k ≡ 10 ^ (k - n) * 10 ^ n = power_split n k l in
    let more : 10 ^ n * 1 ≤ 10 ^ n * 10 ^ (k - n) = mul-le-mul_left (10 ^ n) (power_some (k - n)) in
    omega arith

times_zero : (n : ℕ) → 0 * n ≡ 0
times_zero n = omega arith

-- enough zeros make all but 0 infinite
pub zeros_far : (value z : ℕ) → 21 ≤ z → capped (value * 10 ^ 21) ≡ capped (value * 10 ^ z)
zeros_far zero z l = ap capped (sym (times_zero (10 ^ z)))
zeros_far (suc v) z l =
    let big : 1000000000000000000000 ≤ 10 ^ z = power_le 21 z l in
    let some : 10 ^ z * 1 ≤ 10 ^ z * suc v = mul-le-mul_left (10 ^ z) (omega arith) in
    let same : suc v * 10 ^ z ≡ 10 ^ z * suc v = omega arith in
    let left : 1000000000000000000000 ≤ suc v * 1000000000000000000000 = omega arith in
    let right : 1000000000000000000000 ≤ suc v * 10 ^ z = omega arith in
    one (suc v * 10 ^ 21) (suc v * 10 ^ z) left right
  where
    one : (a b : ℕ) → 1000000000000000000000 ≤ a → 1000000000000000000000 ≤ b → capped a ≡ capped b
    one a b l m = omega arith

pub zeros_whole : (value zeros i : ℕ) → i ≡ min zeros 21 → capped (value * 10 ^ i) ≡ capped (value * 10 ^ zeros)
zeros_whole value zeros i e = elim (cases_lt zeros 21) [
  | inl l ↦ (let same : i ≡ zeros = omega arith in ap (λ k. capped (value * 10 ^ k)) same)
  | inr l ↦ (let same : i ≡ 21 = omega arith in ap (λ k. capped (value * 10 ^ k)) same ∙ zeros_far value zeros l)
]

-- the mantissa and the exponent stand before and behind a mark that is the first
pub plain_more : (bytes : List ℕ) (at : ℕ) → at < length bytes → list_all (λ b. not (is_exponent_mark b)) (take at bytes) ≡ true → is_exponent_mark (get_or bytes at 0) ≡ false → list_all (λ b. not (is_exponent_mark b)) (take (at + 1) bytes) ≡ true
plain_more bytes at l h n = list_all_more (λ b. not (is_exponent_mark b)) bytes at 0 l ∙ and_from (list_all (λ b. not (is_exponent_mark b)) (take at bytes)) (not (is_exponent_mark (get_or bytes at 0))) h (ap not n)

pub split_mark : (bytes : List ℕ) (at : ℕ) → list_all (λ b. not (is_exponent_mark b)) (take at bytes) ≡ true → begins (λ b. not (is_exponent_mark b)) (drop at bytes) ≡ false → (take at bytes ≡ mantissa bytes) × (drop at bytes ≡ exponent bytes)
split_mark bytes at h n =
    let f : (front (λ b. not (is_exponent_mark b)) (take at bytes ++ drop at bytes) ≡ take at bytes) × (behind (λ b. not (is_exponent_mark b)) (take at bytes ++ drop at bytes) ≡ drop at bytes) = front_whole (λ b. not (is_exponent_mark b)) (take at bytes) (drop at bytes) h n in
    let whole : take at bytes ++ drop at bytes ≡ bytes = take-append-drop at bytes in
    (sym f.0 ∙ ap (front (λ b. not (is_exponent_mark b))) whole, sym f.1 ∙ ap (behind (λ b. not (is_exponent_mark b))) whole)

-- the places behind the point
pub places_at : (m : List ℕ) (at : ℕ) → at ≤ length m → ((k : ℕ) → k < at → is_point (get_or m k 0) ≡ false) → (at < length m → is_point (get_or m at 0) ≡ true) → length m - at - 1 ≡ length (after_first is_point m)
places_at m at l f h =
    let first : position_or_len is_point m ≡ at = position_or_len_is is_point m at 0 l f h in
    let size : length (drop (position_or_len is_point m + 1) m) ≡ length m - (position_or_len is_point m + 1) = length-drop (position_or_len is_point m + 1) m in
    omega arith

-- how many digits stand before a place
pub count_more : (bytes : List ℕ) (at seen : ℕ) → at < length bytes → seen ≡ count_by is_ascii_digit (take at bytes) → (seen + (if is_ascii_digit (get_or bytes at 0) then 1 else 0)) ≡ count_by is_ascii_digit (take (at + 1) bytes)
count_more bytes at seen l e = go (is_ascii_digit (get_or bytes at 0)) refl
  where
    go : (t : Bool) → is_ascii_digit (get_or bytes at 0) ≡ t → seen + (if t then 1 else 0) ≡ count_by is_ascii_digit (take (at + 1) bytes)
    go true h = (let more : count_by is_ascii_digit (take (at + 1) bytes) ≡ count_by is_ascii_digit (take at bytes) + 1 = count_by_more_yes is_ascii_digit bytes at 0 l h in omega arith)
    go false h = (let more : count_by is_ascii_digit (take (at + 1) bytes) ≡ count_by is_ascii_digit (take at bytes) = count_by_more_no is_ascii_digit bytes at 0 l h in omega arith)

-- digits, and the number that they write
are_digits : (bytes : List ℕ) → AllDigits 10 (filter is_ascii_digit bytes)
are_digits [] = tt
are_digits (b ∷ bytes) = go (is_ascii_digit b) refl (are_digits bytes)
  where
    go : (t : Bool) → is_ascii_digit b ≡ t → AllDigits 10 (filter is_ascii_digit bytes) → AllDigits 10 (cond t (b ∷ filter is_ascii_digit bytes) (filter is_ascii_digit bytes))
    go true e h = (digit_below b e, h)
    go false e h = h

number_below : (bytes : List ℕ) → digits_number bytes < 10 ^ count_by is_ascii_digit bytes
unfolding digits_number
number_below bytes = subst (λ k. digits_value 10 (filter is_ascii_digit bytes) < 10 ^ k) (length-filter is_ascii_digit bytes) (digits_value-lt 10 (filter is_ascii_digit bytes) (are_digits bytes))

value_after : (n : ℕ) (ds : List ℕ) → digits_value_after 10 n ds ≡ n * 10 ^ length ds + digits_value 10 ds
value_after n [] = omega arith
value_after n (c ∷ ds) =
    let one : digits_value_after 10 (n * 10 + digit_value c) ds ≡ (n * 10 + digit_value c) * 10 ^ length ds + digits_value 10 ds = value_after (n * 10 + digit_value c) ds in
    let two : digits_value_after 10 (0 * 10 + digit_value c) ds ≡ (0 * 10 + digit_value c) * 10 ^ length ds + digits_value 10 ds = value_after (0 * 10 + digit_value c) ds in
    let step : 10 ^ (length ds + 1) ≡ 10 ^ length ds * 10 = pow-add 10 (length ds) 1 in
    let size : 10 ^ suc (length ds) ≡ 10 ^ length ds * 10 = ap (λ k. 10 ^ k) (sym (add-one (length ds))) ∙ step in
    let more : n * 10 ^ suc (length ds) ≡ n * (10 ^ length ds * 10) = ap (λ p. n * p) size in
    omega arith

value_append : (xs ys : List ℕ) (n : ℕ) → digits_value_after 10 n (xs ++ ys) ≡ digits_value_after 10 (digits_value_after 10 n xs) ys
value_append [] ys n = refl
value_append (c ∷ xs) ys n = value_append xs ys (n * 10 + digit_value c)

-- a number by two parts of its digits
number_parts : (bytes : List ℕ) (at : ℕ) → digits_number bytes ≡ digits_number (take at bytes) * 10 ^ count_by is_ascii_digit (drop at bytes) + digits_number (drop at bytes)
unfolding digits_number
number_parts bytes at =
    let parts : filter is_ascii_digit bytes ≡ filter is_ascii_digit (take at bytes) ++ filter is_ascii_digit (drop at bytes) = ap (filter is_ascii_digit) (sym (take-append-drop at bytes)) ∙ filter-append is_ascii_digit (take at bytes) (drop at bytes) in
    let size : length (filter is_ascii_digit (drop at bytes)) ≡ count_by is_ascii_digit (drop at bytes) = length-filter is_ascii_digit (drop at bytes) in
    ap (digits_value 10) parts ∙ value_append (filter is_ascii_digit (take at bytes)) (filter is_ascii_digit (drop at bytes)) 0 ∙ value_after (digits_value 10 (filter is_ascii_digit (take at bytes))) (filter is_ascii_digit (drop at bytes))
    ∙ ap (λ k. digits_value 10 (filter is_ascii_digit (take at bytes)) * 10 ^ k + digits_value 10 (filter is_ascii_digit (drop at bytes))) size

count_parts : (bytes : List ℕ) (at : ℕ) → count_by is_ascii_digit bytes ≡ count_by is_ascii_digit (take at bytes) + count_by is_ascii_digit (drop at bytes)
count_parts bytes at =
    let parts : filter is_ascii_digit bytes ≡ filter is_ascii_digit (take at bytes) ++ filter is_ascii_digit (drop at bytes) = ap (filter is_ascii_digit) (sym (take-append-drop at bytes)) ∙ filter-append is_ascii_digit (take at bytes) (drop at bytes) in
    sym (length-filter is_ascii_digit bytes) ∙ ap length parts ∙ length-append (filter is_ascii_digit (take at bytes)) (filter is_ascii_digit (drop at bytes))
    ∙ ap (λ k. k + length (filter is_ascii_digit (drop at bytes))) (length-filter is_ascii_digit (take at bytes)) ∙ ap (λ k. count_by is_ascii_digit (take at bytes) + k) (length-filter is_ascii_digit (drop at bytes))

-- a quotient and its remainder
pub record Divides (n d q r : ℕ) : Type 0 where
  pub rest : n % d ≡ r
  pub quotient : n / d ≡ q

divides : (n d q r : ℕ) → n ≡ q * d + r → r < d → Divides n d q r
divides n d q r e l = record { rest = ap (λ k. k % d) e ∙ mod-mul-add q d r l; quotient = ap (λ k. k / d) e ∙ div-mul-add q d r l }

small_divides : (n d : ℕ) → n < d → Divides n d 0 n
small_divides n d l = divides n d 0 n (omega arith) l

-- the digits that are kept are the quotient, the others the rest
pub shifted : (m : List ℕ) (end places kept : ℕ) → count_by is_ascii_digit (take end m) ≡ kept → kept ≡ count_by is_ascii_digit m - places → Divides (digits_number m) (10 ^ places) (digits_number (take end m)) (digits_number (drop end m))
shifted m end places kept h k =
    let parts : digits_number m ≡ digits_number (take end m) * 10 ^ count_by is_ascii_digit (drop end m) + digits_number (drop end m) = number_parts m end in
    let counts : count_by is_ascii_digit m ≡ count_by is_ascii_digit (take end m) + count_by is_ascii_digit (drop end m) = count_parts m end in
    let below : digits_number (drop end m) < 10 ^ count_by is_ascii_digit (drop end m) = number_below (drop end m) in
    elim (cases_lt places (count_by is_ascii_digit m)) [
      | inl l ↦
          (let same : count_by is_ascii_digit (drop end m) ≡ places = omega arith in
          divides (digits_number m) (10 ^ places) (digits_number (take end m)) (digits_number (drop end m)) (parts ∙ ap (λ n. digits_number (take end m) * 10 ^ n + digits_number (drop end m)) same) (subst (λ n. digits_number (drop end m) < 10 ^ n) same below))
      | inr l ↦
          (let none : count_by is_ascii_digit (take end m) ≡ 0 = omega arith in
          let front : digits_number (take end m) < 10 ^ 0 = subst (λ n. digits_number (take end m) < 10 ^ n) none (number_below (take end m)) in
          let nil : digits_number (take end m) ≡ 0 = omega arith in
          let wide : 10 ^ count_by is_ascii_digit (drop end m) ≤ 10 ^ places = power_le (count_by is_ascii_digit (drop end m)) places (omega arith) in
          let short : digits_number m ≡ 0 * 10 ^ count_by is_ascii_digit (drop end m) + digits_number (drop end m) = parts ∙ ap (λ n. n * 10 ^ count_by is_ascii_digit (drop end m) + digits_number (drop end m)) nil in
          divides (digits_number m) (10 ^ places) (digits_number (take end m)) (digits_number (drop end m))
          (short ∙ ap (λ n. n + digits_number (drop end m)) (times_zero (10 ^ count_by is_ascii_digit (drop end m)) ∙ sym (times_zero (10 ^ places))) ∙ ap (λ n. n * 10 ^ places + digits_number (drop end m)) (sym nil)) (omega arith))
    ]

-- the worth of a value that is whole, by the value up to what is infinite
worth_capped : (value : ℕ) (w : Worth) → IsWorth true (capped value) w → IsWorth true value w
worth_capped value worths.NotWhole h = h
worth_capped value (worths.Whole n) h = (refl, omega (arith, h.1, h.2), omega (arith, h.2))
worth_capped value worths.Large h = (refl, omega (arith, h.1, h.2), omega (arith, h.2))
worth_capped value worths.Infinite h = (refl, omega (arith, h.1))

worth_by : {a b : Bool} {x y : ℕ} (w : Worth) → a ≡ b → x ≡ y → IsWorth a x w → IsWorth b y w
worth_by {a} {b} {x} {y} w e f h = subst (λ k. IsWorth b k w) f (subst (λ t. IsWorth t x w) e h)

-- what is kept and what is not
pub worth_whole : (n d q r : ℕ) (w : Worth) → Divides n d q r → capped r ≤ 0 → IsWorth true (capped q) w → IsWorth (n % d == 0) (n / d) w
worth_whole n d q r w v l h =
    let none : r ≡ 0 = omega arith in
    worth_by w (sym (ap (λ k. k == 0) (v.rest ∙ none))) (sym v.quotient) (worth_capped q w h)

pub worth_part : (n d q r : ℕ) → Divides n d q r → 0 < capped r → IsFalse (n % d == 0)
worth_part n d q r v l = ap (λ k. k == 0) v.rest ∙ ne_eqb r 0 (λ e. let none : ⊥ = omega arith in none)

-- a factor of both changes neither the quotient nor whether there is a rest
scaled : (m d t : ℕ) → 0 < d → 1 ≤ t → Divides (m * t) (d * t) (m / d) (m % d * t)
scaled m d t l k =
    let whole : m ≡ m / d * d + m % d = omega arith in
    let less : m % d + 1 ≤ d = omega arith in
    let more : t * (m % d + 1) ≤ t * d = mul-le-mul_left t less in
    divides (m * t) (d * t) (m / d) (m % d * t) (ap (λ n. n * t) whole ∙ spread (m / d) d (m % d) t) (omega arith)
  where
    spread : (q d r t : ℕ) → (q * d + r) * t ≡ q * (d * t) + r * t
    spread q d r t = omega arith

zero_test : (r t : ℕ) → 1 ≤ t → (r * t == 0) ≡ (r == 0)
zero_test zero t l = ap (λ k. k == 0) (times_zero t)
zero_test (suc r) t l = ne_eqb (suc r * t) 0 (λ e. let more : suc r * t ≡ r * t + t = omega arith in let none : ⊥ = omega arith in none) ∙ sym (ne_eqb (suc r) 0 (λ e. let none : ⊥ = omega arith in none))

-- the parts of a number's worth
pub worth_shrunk : (m : List ℕ) (places shift : ℕ) (w : Worth) → length m ≤ 2 ^ 28
    → IsWorth (digits_number m % 10 ^ (places + capped shift) == 0) (digits_number m / 10 ^ (places + capped shift)) w
    → IsWorth (digits_number m * 10 ^ 0 % 10 ^ (places + shift) == 0) (digits_number m * 10 ^ 0 / 10 ^ (places + shift)) w
worth_shrunk m places shift w l h =
    let one : digits_number m ≡ digits_number m * 10 ^ 0 = omega arith in
    subst (λ n. IsWorth (n % 10 ^ (places + shift) == 0) (n / 10 ^ (places + shift)) w) one
    (elim (cases_lt shift infinite_from) [
      | inl k ↦ (let same : capped shift ≡ shift = omega arith in subst (λ s. IsWorth (digits_number m % 10 ^ (places + s) == 0) (digits_number m / 10 ^ (places + s)) w) same h)
      | inr k ↦
          (let few : count_by is_ascii_digit m ≤ length m = count_by-le-length is_ascii_digit m in
          let below : digits_number m < 10 ^ count_by is_ascii_digit m = number_below m in
          let near : 10 ^ count_by is_ascii_digit m ≤ 10 ^ (places + capped shift) = power_le (count_by is_ascii_digit m) (places + capped shift) (omega arith) in
          let far : 10 ^ count_by is_ascii_digit m ≤ 10 ^ (places + shift) = power_le (count_by is_ascii_digit m) (places + shift) (omega arith) in
          let a : Divides (digits_number m) (10 ^ (places + capped shift)) 0 (digits_number m) = small_divides (digits_number m) (10 ^ (places + capped shift)) (omega arith) in
          let b : Divides (digits_number m) (10 ^ (places + shift)) 0 (digits_number m) = small_divides (digits_number m) (10 ^ (places + shift)) (omega arith) in
          worth_by w (ap (λ k. k == 0) (a.rest ∙ sym b.rest)) (a.quotient ∙ sym b.quotient) h)
    ])

pub worth_fraction : (m : ℕ) (places shift : ℕ) (w : Worth) → places ≤ 2 ^ 28 → capped shift < places
    → IsWorth (m % 10 ^ (places - capped shift) == 0) (m / 10 ^ (places - capped shift)) w
    → IsWorth (m * 10 ^ shift % 10 ^ (places + 0) == 0) (m * 10 ^ shift / 10 ^ (places + 0)) w
worth_fraction m places shift w l k h =
    let same : capped shift ≡ shift = omega arith in
    let less : shift ≤ places = omega arith in
    let plain : IsWorth (m % 10 ^ (places - shift) == 0) (m / 10 ^ (places - shift)) w = subst (λ s. IsWorth (m % 10 ^ (places - s) == 0) (m / 10 ^ (places - s)) w) same h in
    let none : places + 0 ≡ places = omega arith in
    let split : 10 ^ (places + 0) ≡ 10 ^ (places - shift) * 10 ^ shift = ap (λ k. 10 ^ k) none ∙ power_split shift places less in
    let some : 1 ≤ 10 ^ (places - shift) = power_some (places - shift) in
    let v : Divides (m * 10 ^ shift) (10 ^ (places - shift) * 10 ^ shift) (m / 10 ^ (places - shift)) (m % 10 ^ (places - shift) * 10 ^ shift) = scaled m (10 ^ (places - shift)) (10 ^ shift) (omega arith) (power_some shift) in
    worth_by w (sym (ap (λ d. m * 10 ^ shift % d == 0) split ∙ ap (λ k. k == 0) v.rest ∙ zero_test (m % 10 ^ (places - shift)) (10 ^ shift) (power_some shift))) (sym (ap (λ d. m * 10 ^ shift / d) split ∙ v.quotient)) plain

capped_times : (m t : ℕ) → 1 ≤ t → capped (capped m * t) ≡ capped (m * t)
capped_times m t l = elim (cases_lt m infinite_from) [
  | inl k ↦ (let same : capped m ≡ m = omega arith in ap (λ n. capped (n * t)) same)
  | inr k ↦
      (let same : capped m ≡ infinite_from = omega arith in
      let one : infinite_from * 1 ≤ infinite_from * t = mul-le-mul_left infinite_from l in
      let two : m * 1 ≤ m * t = mul-le-mul_left m l in
      ap (λ n. capped (n * t)) same ∙ far (infinite_from * t) (m * t) (omega arith) (omega arith))
]
  where
    far : (a b : ℕ) → infinite_from ≤ a → infinite_from ≤ b → capped a ≡ capped b
    far a b l m = omega arith

pub worth_grown : (m : ℕ) (places shift : ℕ) (w : Worth) → places ≤ 2 ^ 28 → places ≤ capped shift
    → IsWorth true (capped (capped m * 10 ^ (capped shift - places))) w
    → IsWorth (m * 10 ^ shift % 10 ^ (places + 0) == 0) (m * 10 ^ shift / 10 ^ (places + 0)) w
worth_grown m places shift w l k h =
    let low : places ≤ shift = omega arith in
    let value : ℕ = m * 10 ^ (shift - places) in
    let near : capped (capped m * 10 ^ (capped shift - places)) ≡ capped (m * 10 ^ (capped shift - places)) = capped_times m (10 ^ (capped shift - places)) (power_some (capped shift - places)) in
    let alike : capped (m * 10 ^ (capped shift - places)) ≡ capped (m * 10 ^ (shift - places)) = elim (cases_lt shift infinite_from) [
      | inl e ↦ (let same : capped shift ≡ shift = omega arith in ap (λ s. capped (m * 10 ^ (s - places))) same)
      | inr e ↦ sym (zeros_far m (capped shift - places) (omega arith)) ∙ zeros_far m (shift - places) (omega arith)
    ] in
    let none : places + 0 ≡ places = omega arith in
    let size : 10 ^ (places + 0) ≡ 10 ^ places = ap (λ n. 10 ^ n) none in
    let some : 1 ≤ 10 ^ places = power_some places in
    let v : Divides (m * 10 ^ shift) (10 ^ places) (m * 10 ^ (shift - places)) 0 = divides (m * 10 ^ shift) (10 ^ places) (m * 10 ^ (shift - places)) 0 (ap (λ p. m * p) (power_split places shift low) ∙ regroup m (10 ^ (shift - places)) (10 ^ places)) (omega arith) in
    worth_by w (sym (ap (λ d. m * 10 ^ shift % d == 0) size ∙ ap (λ n. n == 0) v.rest)) (sym (ap (λ d. m * 10 ^ shift / d) size ∙ v.quotient)) (worth_capped (m * 10 ^ (shift - places)) w (subst (λ n. IsWorth true n w) (near ∙ alike) h))
  where
    regroup : (a b c : ℕ) → a * (b * c) ≡ a * b * c + 0
    regroup a b c = omega arith

-- the worth of a mantissa and an exponent, by whether the exponent has a minus
pub parted : (m e : List ℕ) (shrinks : Bool) (w : Worth) → list_any (λ b. b == 45) e ≡ shrinks
    → IsWorth (digits_number m * 10 ^ (if shrinks then 0 else digits_number e) % 10 ^ (length (after_first is_point m) + (if shrinks then digits_number e else 0)) == 0)
    (digits_number m * 10 ^ (if shrinks then 0 else digits_number e) / 10 ^ (length (after_first is_point m) + (if shrinks then digits_number e else 0))) w
    → IsParted m e w
parted m e shrinks w h k = subst (λ t. IsWorth (digits_number m * 10 ^ (if t then 0 else digits_number e) % 10 ^ (length (after_first is_point m) + (if t then digits_number e else 0)) == 0)
    (digits_number m * 10 ^ (if t then 0 else digits_number e) / 10 ^ (length (after_first is_point m) + (if t then digits_number e else 0))) w) (sym h) k

pub places_few : (m : List ℕ) → length (after_first is_point m) ≤ length m
places_few m = (let size : length (drop (position_or_len is_point m + 1) m) ≡ length m - (position_or_len is_point m + 1) = length-drop (position_or_len is_point m + 1) m in omega arith)

pub parted_shrunk : (m e : List ℕ) (p s : ℕ) (w : Worth) → length m ≤ 2 ^ 28 → list_any (λ b. b == 45) e ≡ true → p ≡ length (after_first is_point m) → s ≡ capped (digits_number e)
    → IsWorth (digits_number m % 10 ^ (p + s) == 0) (digits_number m / 10 ^ (p + s)) w → IsParted m e w
parted_shrunk m e p s w l h a b k =
    let same : p + s ≡ length (after_first is_point m) + capped (digits_number e) = ap (λ n. n + s) a ∙ ap (λ n. length (after_first is_point m) + n) b in
    parted m e true w h (worth_shrunk m (length (after_first is_point m)) (digits_number e) w l (subst (λ n. IsWorth (digits_number m % 10 ^ n == 0) (digits_number m / 10 ^ n) w) same k))

pub parted_fraction : (m e : List ℕ) (p s : ℕ) (w : Worth) → length m ≤ 2 ^ 28 → list_any (λ b. b == 45) e ≡ false → p ≡ length (after_first is_point m) → s ≡ capped (digits_number e) → s < p
    → IsWorth (digits_number m % 10 ^ (p - s) == 0) (digits_number m / 10 ^ (p - s)) w → IsParted m e w
parted_fraction m e p s w l h a b less k =
    let same : p - s ≡ length (after_first is_point m) - capped (digits_number e) = ap (λ n. n - s) a ∙ ap (λ n. length (after_first is_point m) - n) b in
    let few : length (after_first is_point m) ≤ length m = places_few m in
    parted m e false w h (worth_fraction (digits_number m) (length (after_first is_point m)) (digits_number e) w (omega arith) (omega arith) (subst (λ n. IsWorth (digits_number m % 10 ^ n == 0) (digits_number m / 10 ^ n) w) same k))

pub parted_grown : (m e : List ℕ) (p s n v : ℕ) (w : Worth) → length m ≤ 2 ^ 28 → list_any (λ b. b == 45) e ≡ false → p ≡ length (after_first is_point m) → s ≡ capped (digits_number e) → p ≤ s
    → n ≡ capped (digits_number m) → v ≡ capped (n * 10 ^ (s - p)) → IsWorth true v w → IsParted m e w
parted_grown m e p s n v w l h a b less c d k =
    let same : s - p ≡ capped (digits_number e) - length (after_first is_point m) = ap (λ q. q - p) b ∙ ap (λ q. capped (digits_number e) - q) a in
    let value : v ≡ capped (capped (digits_number m) * 10 ^ (capped (digits_number e) - length (after_first is_point m))) = d ∙ ap (λ q. capped (q * 10 ^ (s - p))) c ∙ ap (λ q. capped (capped (digits_number m) * 10 ^ q)) same in
    let few : length (after_first is_point m) ≤ length m = places_few m in
    parted m e false w h (worth_grown (digits_number m) (length (after_first is_point m)) (digits_number e) w (omega arith) (omega arith) (subst (λ q. IsWorth true q w) value k))

-- a step of with_zeros
pub zeros_step : (value i grown next : ℕ) → grown ≡ capped (value * 10 ^ i) → next ≡ min (grown * 10) infinite_from → next ≡ capped (value * 10 ^ (i + 1))
zeros_step value i grown next e n = n ∙ flip (grown * 10) ∙ ap (λ g. capped (g * 10)) e ∙ zeros_more value i
  where
    flip : (a : ℕ) → min a infinite_from ≡ capped a
    flip a = omega arith

-- the symbol of a number, by its worth
pub worth_is_symbol : (in_bounds : Bool) (bytes : List ℕ) (w : Worth) → IsWorthOf bytes w → number_symbol in_bounds bytes ≡ worth_symbol in_bounds w
unfolding number_symbol
worth_is_symbol in_bounds bytes w h = go w h
  where
    by : Bool → Bool → Bool → ℕ → Symbol
    by whole small far value = if whole then (if small then number value else (if in_bounds && far then infinity else unfit TooLarge)) else unfit NotWhole

    and_true : (b : Bool) → (b && true) ≡ b
    and_true true = refl
    and_true false = refl

    and_false : (b : Bool) → (b && false) ≡ false
    and_false true = refl
    and_false false = refl

    go : (w : Worth) → IsWorthOf bytes w → by (is_whole bytes) (nat_le (whole_value bytes) greatest) (nat_le infinite_from (whole_value bytes)) (whole_value bytes) ≡ worth_symbol in_bounds w
    go worths.NotWhole h = ap (λ t. by t (nat_le (whole_value bytes) greatest) (nat_le infinite_from (whole_value bytes)) (whole_value bytes)) h
    go (worths.Whole n) h =
        ap (λ t. by t (nat_le (whole_value bytes) greatest) (nat_le infinite_from (whole_value bytes)) (whole_value bytes)) h.0
        ∙ ap (λ t. by true t (nat_le infinite_from (whole_value bytes)) (whole_value bytes)) (le-leb (whole_value bytes) greatest h.2) ∙ ap number (sym h.1)
    go worths.Large h =
        ap (λ t. by t (nat_le (whole_value bytes) greatest) (nat_le infinite_from (whole_value bytes)) (whole_value bytes)) h.0
        ∙ ap (λ t. by true t (nat_le infinite_from (whole_value bytes)) (whole_value bytes)) (lt-leb (whole_value bytes) greatest h.1)
        ∙ ap (λ t. by true false t (whole_value bytes)) (lt-leb infinite_from (whole_value bytes) h.2) ∙ ap (λ t. if t then infinity else unfit TooLarge) (and_false in_bounds)
    go worths.Infinite h =
        ap (λ t. by t (nat_le (whole_value bytes) greatest) (nat_le infinite_from (whole_value bytes)) (whole_value bytes)) h.0
        ∙ ap (λ t. by true t (nat_le infinite_from (whole_value bytes)) (whole_value bytes)) (lt-leb (whole_value bytes) greatest (let far : infinite_from ≤ whole_value bytes = h.1 in omega arith))
        ∙ ap (λ t. by true false t (whole_value bytes)) (le-leb infinite_from (whole_value bytes) h.1) ∙ ap (λ t. if t then infinity else unfit TooLarge) (and_true in_bounds)
