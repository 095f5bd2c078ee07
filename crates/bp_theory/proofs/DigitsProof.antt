-- Binary digits against powers of two, and the bits of smaller spans and zones.
use Rattle.std.proofs.Common.{◌*◌, ◌≡◌, ℕ, zero, suc, ◌+◌, ◌/◌, ◌<◌, ◌≤◌, ◌^◌, List, [], ◌∷◌, arith, ⊎_elim}
use Rattle.std.proofs.Math.IntN.{ℤ, pos, ◌+ℤ◌}
use Rattle.std.proofs.Math.Nat.{pow-suc, pow-le-pow_right}
use Rattle.std.specs.Prelude.{◌≤ℤ◌, ◌<ℤ◌}
use Rattle.std.specs.Int.{int_gap}
use Rattle.std.proofs.lemmas.Int.{ints}
use Rattle.std.proofs.lemmas.Nat.{pow_pos, leading_length}
use Rattle.std.proofs.lemmas.Bool.{cases_lt}
use Rattle.std.proofs.lemmas.List.Sums.{sum_by-cons}
use Rattle.bp_theory.specs.Digits.{digits_among, binary_digits, span_bits, zone_bits, DigitsAreFewest, DigitsByZeros}
use Rattle.bp_theory.specs.Trees.{IsSubspan, IsSubzone}
use Rattle.bp_theory.specs.declared.Span.{Span}

few_digits : (most n k : ℕ) → n ≤ most → n < 2 ^ k → digits_among most n ≤ k
few_digits zero n k l h = omega arith
few_digits (suc most) zero k l h = omega arith
few_digits (suc most) (suc n) zero l h = absurd (omega arith)
few_digits (suc most) (suc n) (suc k) l h = omega (arith, few_digits most (suc n / 2) k (omega arith) (omega (arith, h, pow-suc 2 k)))

below_by_digits : (most n k : ℕ) → n ≤ most → digits_among most n ≤ k → n < 2 ^ k
below_by_digits zero n k l h = omega (arith, pow_pos k)
below_by_digits (suc most) zero k l h = pow_pos k
below_by_digits (suc most) (suc n) zero l h = absurd (omega arith)
below_by_digits (suc most) (suc n) (suc k) l h = omega (arith, below_by_digits most (suc n / 2) k (omega arith) (omega arith), pow-suc 2 k)

pub digits_are_fewest_lem : DigitsAreFewest
unfolding binary_digits
digits_are_fewest_lem n k = (λ h. few_digits n n k (omega arith) h, λ h. below_by_digits n n k (omega arith) h)

-- a smaller number has no more digits
pub digits_grow : (m n : ℕ) → m ≤ n → binary_digits m ≤ binary_digits n
digits_grow m n l =
    (digits_are_fewest_lem m (binary_digits n)).0 (omega (arith, l, (digits_are_fewest_lem n (binary_digits n)).1 (omega arith)))

-- half of a number has a digit less
pub half_has_less : (m n : ℕ) → 0 < n → m ≤ n / 2 → binary_digits m < binary_digits n
half_has_less m n positive l = by (binary_digits n) ((digits_are_fewest_lem n (binary_digits n)).1 (omega arith))
  where
    by : (k : ℕ) → n < 2 ^ k → binary_digits m < k
    by zero h = absurd (omega arith)
    by (suc k) h = omega (arith, (digits_are_fewest_lem m k).0 (omega (arith, l, h, pow-suc 2 k)))

-- a smaller span has no more bits
pub span_bits_grow : (s t : Span) → IsSubspan s t → span_bits s ≤ span_bits t
span_bits_grow s t inside = digits_grow (int_gap s.lo s.hi) (int_gap t.lo t.hi) (gaps s.lo s.hi t.lo t.hi inside.above inside.below)
  where
    gaps : (a b c d : ℤ) → c ≤ℤ a → b ≤ℤ d → int_gap a b ≤ int_gap c d
    gaps a b c d h k = grind (arith, ints)

pub zone_bits_grow : (small large : List Span) → IsSubzone small large → zone_bits small ≤ zone_bits large
zone_bits_grow [] [] h = omega arith
zone_bits_grow [] (t ∷ ts) h = absurd h
zone_bits_grow (s ∷ ss) [] h = absurd h
zone_bits_grow (s ∷ ss) (t ∷ ts) h =
    omega (arith, sum_by-cons span_bits s ss, sum_by-cons span_bits t ts, span_bits_grow s t h.0, zone_bits_grow ss ts h.1)

pub digits_by_zeros_lem : DigitsByZeros
digits_by_zeros_lem n l =
    let found = leading_length 64 n l in
    let most : binary_digits n ≤ found.0 = (digits_are_fewest_lem n found.0).0 found.2 in
    let below : n < 2 ^ binary_digits n = (digits_are_fewest_lem n (binary_digits n)).1 (omega arith) in
    omega (arith, found.1, most, least found.0 (binary_digits n) below found.3)
  where
    grows : (i j : ℕ) → i ≤ j → 2 ^ i ≤ 2 ^ j
    grows i j l = pow-le-pow_right (pow_pos 1) l

    least : (m k : ℕ) → n < 2 ^ k → 2 ^ m ≤ 2 * n + 1 → m ≤ k
    least m k h g = ⊎_elim
        (λ less. absurd (omega (arith, h, g, pow-suc 2 k, grows (suc k) m (omega (arith, less)))))
        (λ more. more)
        (cases_lt k m)
