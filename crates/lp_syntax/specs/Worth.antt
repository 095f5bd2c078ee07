-- What a written number is worth to the grammar: its value, if that is whole, by its size.
use Rattle.std.specs.Prelude.{◌≡◌, ℕ, ◌+◌, ◌*◌, ◌-◌, ◌/◌, ◌%◌, ◌^◌, ◌<◌, ◌≤◌, ◌==◌, Bool, if◌then◌else◌, List, length, IsTrue, IsFalse, min}
use Rattle.std.specs.List.{list_any, after_first}
use Rattle.lp_token.specs.Lexeme.{is_point}
use Rattle.std.specs.Char.{is_ascii_digit}
use Rattle.lp_token.specs.declared.LpKind.TheVariants.{NotWhole, TooLarge}
use Rattle.lp_syntax.specs.declared.number.Worth.{Worth}
use Rattle.lp_syntax.specs.declared.number.Worth.TheVariants as worths
use Rattle.lp_syntax.specs.Number.{digits_number, is_whole, whole_value}
use Rattle.lp_syntax.specs.Symbols.{greatest, infinite_from}
use Rattle.lp_syntax.specs.Tree.{Symbol, number, infinity, unfit}

-- the worth of a value, by whether it is whole
abbrev pub IsWorth : Bool → ℕ → Worth → Type 0
IsWorth whole value worths.NotWhole = IsFalse whole
IsWorth whole value (worths.Whole n) = IsTrue whole × (n ≡ value) × (value ≤ greatest)
IsWorth whole value worths.Large = IsTrue whole × (greatest < value) × (value < infinite_from)
IsWorth whole value worths.Infinite = IsTrue whole × (infinite_from ≤ value)

-- the worth of a written number
abbrev pub IsWorthOf : List ℕ → Worth → Type 0
IsWorthOf bytes worth = IsWorth (is_whole bytes) (whole_value bytes) worth

-- the worth of a mantissa and an exponent: so much times ten to the exponent, by ten for each place behind the point
abbrev pub IsParted : List ℕ → List ℕ → Worth → Type 0
IsParted m e worth =
    let minus = list_any (λ b. b == 45) e in
    let times = digits_number m * 10 ^ (if minus then 0 else digits_number e) in
    let by = 10 ^ (length (after_first is_point m) + (if minus then digits_number e else 0)) in
    IsWorth (times % by == 0) (times / by) worth

-- the symbol of a number token, by its worth and whether it stands in a bounds section
abbrev pub worth_symbol : Bool → Worth → Symbol
worth_symbol in_bounds worths.NotWhole = unfit NotWhole
worth_symbol in_bounds (worths.Whole n) = number n
worth_symbol in_bounds worths.Large = unfit TooLarge
worth_symbol in_bounds worths.Infinite = if in_bounds then infinity else unfit TooLarge

-- a value up to what is infinite
abbrev pub capped : ℕ → ℕ
capped value = min infinite_from value

-- a value and the byte behind its digits, where a byte that is no digit counts for nothing
abbrev pub digit_behind : ℕ → ℕ → ℕ
digit_behind value b = if is_ascii_digit b then capped (value * 10 + (b - 48)) else value
