-- What is printed of a number of 64 bits is its numeral.
use Rattle.std.proofs.Common.{◌≡◌, ℕ, suc, ◌+◌, ◌/◌, ◌%◌, ◌^◌, ◌<◌, ◌≤◌, Bool, true, false, List, [], ◌∷◌, ℤ, pos, negsuc, refl, sym, ap, ◌∙◌, arith, nat_lt, append-nil, add-one}
use Rattle.std.specs.Fmt.{decimal, signed_decimal}
use Rattle.std.specs.Prelude.{FitsSigned}
use Rattle.std.specs.Int.{w64}
use Rattle.std.proofs.lemmas.Bool.{ltb-true, ltb-false}
use Rattle.std.proofs.lemmas.Fmt.{decimal_from_prepends, length-decimal-le_succ}
use Rattle.std.proofs.lemmas.Int.{ints}
use Rattle.cert_format.specs.Text.{digits_before, numeral, signed_numeral}

-- a choice by a test, as `digits_before` makes it
abbrev choice : Bool → List ℕ → List ℕ → List ℕ
choice test whole more = elim test as (λ _. List ℕ) [ true ↦ whole | false ↦ more ]

one_digit : (k n : ℕ) (acc : List ℕ) → n < 10 → digits_before (suc k) n acc ≡ (48 + n) ∷ acc
unfolding digits_before
one_digit k n acc small = opened (nat_lt n 10) refl where
  opened : (test : Bool) → nat_lt n 10 ≡ test → choice test ((48 + n % 10) ∷ acc) (digits_before k (n / 10) ((48 + n % 10) ∷ acc)) ≡ (48 + n) ∷ acc
  opened true is = let same : n % 10 ≡ n = omega arith in ap (λ (m : ℕ). (48 + m) ∷ acc) same
  opened false is = let large : 10 ≤ n = ltb-false n 10 is in absurd (omega arith)

more_digits : (k n : ℕ) (acc : List ℕ) → 10 ≤ n → digits_before (suc k) n acc ≡ digits_before k (n / 10) ((48 + n % 10) ∷ acc)
unfolding digits_before
more_digits k n acc large = opened (nat_lt n 10) refl where
  opened : (test : Bool) → nat_lt n 10 ≡ test → choice test ((48 + n % 10) ∷ acc) (digits_before k (n / 10) ((48 + n % 10) ∷ acc)) ≡ digits_before k (n / 10) ((48 + n % 10) ∷ acc)
  opened true is = let small : n < 10 = ltb-true n 10 is in absurd (omega arith)
  opened false is = refl

-- a number's numeral is what is printed of it
pub decimal-numeral : (n : ℕ) → n < 2 ^ 64 → decimal n ≡ numeral n
unfolding numeral
decimal-numeral n fits =
    sym (decimal_from_prepends digits_before (record { one = one_digit; more = more_digits }) (n + 1) n [] fits (length-decimal-le_succ n fits) ∙ append-nil (decimal n))

-- the same with signs
pub signed_decimal-numeral : (z : ℤ) → FitsSigned w64 z → signed_decimal z ≡ signed_numeral z
signed_decimal-numeral (pos n) fits = let small : n < 2 ^ 64 = omega (arith, ints) in decimal-numeral n small
signed_decimal-numeral (negsuc n) fits =
    let small : suc n < 2 ^ 64 = omega (arith, ints) in ap (λ (xs : List ℕ). 45 ∷ xs) (decimal-numeral (suc n) small ∙ ap numeral (sym (add-one n)))
