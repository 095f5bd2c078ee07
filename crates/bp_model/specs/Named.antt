-- Programs with the names of their variables and rows, and what a model keeps of one.
use Rattle.std.specs.Prelude.{◌≡◌, ℕ, ◌+◌, ◌*◌, ◌<◌, ◌≤◌, ◌^◌, unsigned_abs, sum_by, List, length, ℤ, All}
use Rattle.bp_theory.specs.Limits.{most_digits, most_lines, most_rows, most_variables, number_limit}
use Rattle.std.specs.List.{IsDistinct}
use Rattle.std.specs.Str.{bytes_eq}
use Rattle.bp_theory.specs.Program.{Program, KeepsActivity, span_at, reach}
use Rattle.bp_theory.specs.Decomposition.{IsClosed, IsTidyFrom}
use Rattle.bp_theory.specs.Digits.{zone_bits}
use Rattle.bp_theory.specs.Trees.{IsProper}
use Rattle.bp_theory.specs.declared.Limits.TheVariants.{Large}
use Rattle.bp_theory.specs.declared.Span.{Span}

-- a program with the names of its variables and of its rows, as bytes
pub record NamedProgram : Type 0 where
  pub program : Program
  pub names : List (List ℕ)
  pub row_names : List (List ℕ)

-- the greatest magnitude of the constant together with that of the costs' sums
abbrev pub cost_limit : Program → ℕ
cost_limit p = unsigned_abs p.constant + sum_by (λ t. unsigned_abs t.coef * reach (span_at p.spans t.var)) p.costs

-- both ends of a span are numbers of texts
pub record HasSmallEnds (s : Span) : Type 0 where
  pub lo : unsigned_abs s.lo < number_limit
  pub hi : unsigned_abs s.hi < number_limit

-- what a model keeps: each variable and row has a name of its own, terms are summed, in order and without zeros,
-- spans have numbers, the large limits hold, and of the program's own limits those of binary digits and of rows with links
pub record IsKept (m : NamedProgram) : Type 0 where
  pub named : length m.names ≡ length m.program.spans
  pub row_named : length m.row_names ≡ length m.program.rows
  pub distinct : IsDistinct bytes_eq m.names
  pub rows_distinct : IsDistinct bytes_eq m.row_names
  pub proper : IsProper m.program.spans
  pub ends : All HasSmallEnds m.program.spans
  pub variables : length m.program.spans ≤ most_variables Large
  pub rows : length m.program.rows ≤ most_rows Large
  pub lines : length m.program.rows ≤ most_lines m.program.limits
  pub bits : zone_bits m.program.spans ≤ most_digits m.program.limits
  pub closed : IsClosed m.program
  pub tidy_costs : IsTidyFrom 0 m.program.costs
  pub tidy_rows : All (λ row. IsTidyFrom 0 row.terms) m.program.rows
  pub cost_activity : cost_limit m.program < number_limit
  pub row_activity : All (KeepsActivity m.program) m.program.rows
