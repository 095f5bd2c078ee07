-- Binary digits: how many bits the spans of a zone have.
use Rattle.std.specs.Prelude.{ℕ, zero, suc, ◌+◌, ◌/◌, ◌^◌, ◌<◌, ◌≤◌, ◌≡◌, ◌↔◌, List, ℤ, pos, ◌+ℤ◌, sum_by}
use Rattle.std.specs.Int.{int_gap, w64, leading_zeros}
use Rattle.bp_theory.specs.declared.Span.{Span}

-- how many binary digits a number has, 0 having none, among this many
abbrev pub digits_among : ℕ → ℕ → ℕ
digits_among zero n = 0
digits_among (suc most) zero = 0
digits_among (suc most) (suc n) = suc (digits_among most (suc n / 2))

-- how many binary digits a number has, 0 having none
unfoldable pub binary_digits : ℕ → ℕ
binary_digits n = digits_among n n

-- the binary digits of a span's length
abbrev pub span_bits : Span → ℕ
span_bits s = binary_digits (int_gap s.lo s.hi)

-- the bits of a zone: the binary digits of its spans' lengths together
abbrev pub zone_bits : List Span → ℕ
zone_bits zone = sum_by span_bits zone

-- the middle of a span, rounded down
abbrev pub middle : Span → ℤ
middle s = s.lo +ℤ pos (int_gap s.lo s.hi / 2)

-- a number's binary digits are the fewest for which it is below that power of 2
abbrev pub DigitsAreFewest : Type 0
DigitsAreFewest = (n k : ℕ) → n < 2 ^ k ↔ binary_digits n ≤ k

-- a 64-bit number's binary digits are those behind its leading zeros
abbrev pub DigitsByZeros : Type 0
DigitsByZeros = (n : ℕ) → n < 2 ^ 64 → binary_digits n + leading_zeros w64 n ≡ 64
