-- The usual limits stand within the large ones.
use Rattle.std.proofs.Common.{ℕ, ◌≤◌, arith}
use Rattle.bp_theory.specs.Limits.{most_variables, most_rows, most_lines, most_terms, most_digits, most_blocks, most_bytes, greatest_depth}
use Rattle.bp_theory.specs.declared.Limits.{Limits}
use Rattle.bp_theory.specs.declared.Limits.TheVariants.{Usual, Large}

pub few_variables : (limits : Limits) → most_variables limits ≤ most_variables Large
few_variables Usual = omega arith
few_variables Large = omega arith

pub few_rows : (limits : Limits) → most_rows limits ≤ most_rows Large
few_rows Usual = omega arith
few_rows Large = omega arith

pub few_lines : (limits : Limits) → most_lines limits ≤ most_lines Large
few_lines Usual = omega arith
few_lines Large = omega arith

pub few_terms : (limits : Limits) → most_terms limits ≤ most_terms Large
few_terms Usual = omega arith
few_terms Large = omega arith

pub few_digits : (limits : Limits) → most_digits limits ≤ most_digits Large
few_digits Usual = omega arith
few_digits Large = omega arith

pub few_blocks : (limits : Limits) → most_blocks limits ≤ most_blocks Large
few_blocks Usual = omega arith
few_blocks Large = omega arith

pub few_bytes : (limits : Limits) → most_bytes limits ≤ most_bytes Large
few_bytes Usual = omega arith
few_bytes Large = omega arith

pub few_deep : (limits : Limits) → greatest_depth limits ≤ greatest_depth Large
few_deep limits = omega (arith, few_digits limits)

-- as many rows as may be, without link rows
pub rows_are_lines : (limits : Limits) → most_rows limits ≤ most_lines limits
rows_are_lines Usual = omega arith
rows_are_lines Large = omega arith
