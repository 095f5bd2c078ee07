-- A number's digits tell the number, where no digit follows.
use Rattle.std.proofs.Common.{◌≡◌, ℕ, zero, suc, ◌+◌, ◌-◌, ◌*◌, ◌/◌, ◌%◌, ◌<◌, ◌≤◌, Bool, true, false, ◌&&◌, List, [], ◌∷◌, ◌++◌, ℤ, pos, negsuc, refl, sym, ap, ◌∙◌, subst, arith, nat_lt, nat_le, add-one, if◌then◌else◌}
use Rattle.std.proofs.lemmas.Bool.Decides.{nat_tests}
use Rattle.cert_format.specs.Text.{digits_before, numeral, signed_numeral}
use Rattle.cert_format.specs.Fault.{EndsNumber}

-- whether a byte is a digit
abbrev pub is_digit : ℕ → Bool
is_digit b = nat_le 48 b && nat_le b 57

-- the value of the digits at the front, and what follows them
abbrev pub leading : ℕ → List ℕ → ℕ × List ℕ
leading acc [] = (acc, [])
leading acc (b ∷ bs) = if is_digit b then leading (10 * acc + (b - 48)) bs else (acc, b ∷ bs)

-- a byte that doesn't go on with a number is no digit
no_digit : (b : ℕ) → (48 ≤ b → b ≤ 57 → ⊥) → is_digit b ≡ false
no_digit b apart = grind (arith, nat_tests)

-- a digit's byte
a_digit : (d : ℕ) → d < 10 → is_digit (48 + d) ≡ true
a_digit d small = grind (arith, nat_tests)

pub leading-stops : (acc : ℕ) (rest : List ℕ) → EndsNumber rest → leading acc rest ≡ (acc, rest)
leading-stops acc [] ends = refl
leading-stops acc (b ∷ bs) ends = rw (no_digit b ends) refl

-- a digit at the front goes into the value
leading-digit : (acc d : ℕ) (rest : List ℕ) → d < 10 → leading acc ((48 + d) ∷ rest) ≡ leading (10 * acc + d) rest
leading-digit acc d rest small =
    let e : 10 * acc + (48 + d - 48) ≡ 10 * acc + d = omega arith in
    rw (a_digit d small) (ap (λ n. leading n rest) e)

-- a choice by a test, as `digits_before` makes it
abbrev chosen : Bool → List ℕ → List ℕ → List ℕ
chosen test whole more = elim test as (λ _. List ℕ) [ true ↦ whole | false ↦ more ]

-- one digit more, or the digits of the tenth part
leading-chosen : (test : Bool) (n : ℕ) (text more : List ℕ) → nat_lt n 10 ≡ test → (10 ≤ n → leading 0 more ≡ leading (n / 10) ((48 + n % 10) ∷ text)) → leading 0 (chosen test ((48 + n % 10) ∷ text) more) ≡ leading n text
leading-chosen true n text more is_small again =
    let small : n < 10 = grind (arith, nat_tests) in
    let part : n % 10 < 10 = omega arith in
    let same : 10 * 0 + n % 10 ≡ n = omega arith in
    leading-digit 0 (n % 10) text part ∙ ap (λ m. leading m text) same
leading-chosen false n text more is_small again =
    let part : n % 10 < 10 = omega arith in
    let same : 10 * (n / 10) + n % 10 ≡ n = omega arith in
    let large : 10 ≤ n = grind (arith, nat_tests) in
    again large ∙ leading-digit (n / 10) (n % 10) text part ∙ ap (λ m. leading m text) same

-- the value of the digits in front of a text
leading-digits_before : (count n : ℕ) (text : List ℕ) → n < count → leading 0 (digits_before count n text) ≡ leading n text
unfolding digits_before
leading-digits_before zero n text less = absurd (omega arith)
leading-digits_before (suc count) n text less =
    leading-chosen (nat_lt n 10) n text (digits_before count (n / 10) ((48 + n % 10) ∷ text)) refl (λ large. leading-digits_before count (n / 10) ((48 + n % 10) ∷ text) (omega arith))

-- a text is put behind the digits
pub digits_before-append : (count n : ℕ) (text more : List ℕ) → digits_before count n text ++ more ≡ digits_before count n (text ++ more)
unfolding digits_before
digits_before-append zero n text more = refl
digits_before-append (suc count) n text more =
    elim (nat_lt n 10) as (λ test. chosen test ((48 + n % 10) ∷ text) (digits_before count (n / 10) ((48 + n % 10) ∷ text)) ++ more ≡ chosen test ((48 + n % 10) ∷ (text ++ more)) (digits_before count (n / 10) ((48 + n % 10) ∷ (text ++ more)))) [
      | true ↦ refl
      | false ↦ digits_before-append count (n / 10) ((48 + n % 10) ∷ text) more
    ]

-- a text that begins with a digit
abbrev pub BeginsWithDigit : List ℕ → Type 0
BeginsWithDigit [] = ⊥
BeginsWithDigit (b ∷ bs) = (48 ≤ b) × (b ≤ 57)

digits_before-begins : (count n : ℕ) (text : List ℕ) → BeginsWithDigit text → BeginsWithDigit (digits_before count n text)
unfolding digits_before
digits_before-begins zero n text begins = begins
digits_before-begins (suc count) n text begins =
    let part : n % 10 < 10 = omega arith in
    let here : (48 ≤ 48 + n % 10) × (48 + n % 10 ≤ 57) = (omega arith, omega arith) in
    elim (nat_lt n 10) as (λ test. BeginsWithDigit (chosen test ((48 + n % 10) ∷ text) (digits_before count (n / 10) ((48 + n % 10) ∷ text)))) [
      | true ↦ here
      | false ↦ digits_before-begins count (n / 10) ((48 + n % 10) ∷ text) here
    ]

digits_of-begin : (count n : ℕ) (text : List ℕ) → BeginsWithDigit (digits_before (suc count) n text)
unfolding digits_before
digits_of-begin count n text =
    let part : n % 10 < 10 = omega arith in
    let here : (48 ≤ 48 + n % 10) × (48 + n % 10 ≤ 57) = (omega arith, omega arith) in
    elim (nat_lt n 10) as (λ test. BeginsWithDigit (chosen test ((48 + n % 10) ∷ text) (digits_before count (n / 10) ((48 + n % 10) ∷ text)))) [
      | true ↦ here
      | false ↦ digits_before-begins count (n / 10) ((48 + n % 10) ∷ text) here
    ]

-- a numeral begins with a digit
pub numeral-begins : (n : ℕ) (rest : List ℕ) → BeginsWithDigit (numeral n ++ rest)
unfolding numeral
numeral-begins n rest = rw (digits_before-append (n + 1) n [] rest, add-one n) (digits_of-begin n n rest)

-- the value of a numeral
pub leading-numeral : (n : ℕ) (rest : List ℕ) → EndsNumber rest → leading 0 (numeral n ++ rest) ≡ (n, rest)
unfolding numeral
leading-numeral n rest ends =
    let less : n < n + 1 = omega arith in
    rw (digits_before-append (n + 1) n [] rest) (leading-digits_before (n + 1) n rest less ∙ leading-stops n rest ends)

-- two numerals with no digit behind them, in front of one text, are of one number
pub numeral-one : (m n : ℕ) (r s : List ℕ) → EndsNumber r → EndsNumber s → numeral m ++ r ≡ numeral n ++ s → m ≡ n
numeral-one m n r s ends_r ends_s same =
    ap (λ (p : ℕ × List ℕ). p.0) (sym (leading-numeral m r ends_r) ∙ ap (λ xs. leading 0 xs) same ∙ leading-numeral n s ends_s)

-- a text that begins with a digit doesn't begin with a byte that is none
pub digit_apart : (xs ys : List ℕ) (b : ℕ) → BeginsWithDigit xs → (48 ≤ b → b ≤ 57 → ⊥) → xs ≡ b ∷ ys → ⊥
digit_apart [] ys b begins other same = begins
digit_apart (x ∷ xs) ys b begins other same =
    let head : x ≡ b = cc in
    other (subst (λ (n : ℕ). 48 ≤ n) head begins.0) (subst (λ (n : ℕ). n ≤ 57) head begins.1)

-- the same with signs
pub signed_numeral-one : (y z : ℤ) (r s : List ℕ) → EndsNumber r → EndsNumber s → signed_numeral y ++ r ≡ signed_numeral z ++ s → y ≡ z
signed_numeral-one (pos m) (pos n) r s ends_r ends_s same = ap pos (numeral-one m n r s ends_r ends_s same)
signed_numeral-one (pos m) (negsuc n) r s ends_r ends_s same = absurd (digit_apart (numeral m ++ r) (numeral (n + 1) ++ s) 45 (numeral-begins m r) (λ low high. omega arith) same)
signed_numeral-one (negsuc m) (pos n) r s ends_r ends_s same = absurd (digit_apart (numeral n ++ s) (numeral (m + 1) ++ r) 45 (numeral-begins n s) (λ low high. omega arith) (sym same))
signed_numeral-one (negsuc m) (negsuc n) r s ends_r ends_s same =
    let tails : numeral (m + 1) ++ r ≡ numeral (n + 1) ++ s = cc in
    let sums = numeral-one (m + 1) (n + 1) r s ends_r ends_s tails in
    let e : m ≡ n = omega arith in
    ap negsuc e
