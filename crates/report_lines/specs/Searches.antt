-- The lines of reports on searches.
use Rattle.std.specs.Prelude.{ℕ, ℤ, List, [], ◌∷◌, ◌++◌, Option, Some, None, option_map, codes}
use Rattle.std.specs.Fmt.{signed_decimal}
use Rattle.std.specs.Option.{ForSome}
use Rattle.bp_theory.specs.Program.{IsInside, value, in_sense}
use Rattle.bp_model.specs.Named.{NamedProgram}
use Rattle.branch_tree.specs.declared.outcome.Outcome.{Outcome}
use Rattle.branch_tree.specs.declared.outcome.Outcome.TheVariants as outcome
use Rattle.report_lines.specs.Lines.{count_line, value_line}

-- the line of a variable: its name and its number
abbrev pub variable_line : List ℕ → ℤ → List ℕ
variable_line name v = name ++ codes " " ++ signed_decimal v ++ codes "\n"

-- the lines of a point, one for each variable in order
abbrev pub variable_lines : (names : List (List ℕ)) (x : List ℤ) → List ℕ
variable_lines [] x = []
variable_lines (name ∷ names) [] = []
variable_lines (name ∷ names) (v ∷ x) = variable_line name v ++ variable_lines names x

-- the lines of a known point
abbrev pub known_lines : NamedProgram → Option (List ℤ) → List ℕ
known_lines m None = []
known_lines m (Some x) = variable_lines m.names x

-- the first line on a search that ended: the best value, in the text's own sense, or that no point is feasible
abbrev pub ended_line : NamedProgram → Option (List ℤ) → List ℕ
ended_line m None = codes "infeasible\n"
ended_line m (Some x) = value_line (codes "optimal ") (value m.program x)

-- the line of the value of a known point
abbrev pub known_line : NamedProgram → Option (List ℤ) → List ℕ
known_line m None = []
known_line m (Some x) = value_line (codes "value ") (value m.program x)

-- the first lines on a search that was stopped: its steps, a bound, from the least cost that it leaves open, that no point betters, and the
-- value of a known point; values are in the text's own sense
abbrev pub budget_lines : NamedProgram → (steps : ℕ) (least : ℤ) → Option (List ℤ) → List ℕ
budget_lines m steps least best =
    count_line (codes "budget ") steps ++ value_line (codes "bound ") (in_sense m.program.maximises least) ++ known_line m best

-- the first lines on the outcome of a search with so many steps
abbrev pub outcome_lines : NamedProgram → (steps : ℕ) → Outcome → List ℕ
outcome_lines m steps (outcome.Optimal grove point cost) = ended_line m (Some point)
outcome_lines m steps (outcome.Infeasible grove) = ended_line m None
outcome_lines m steps (outcome.Budget grove best bound) = budget_lines m steps bound (option_map (λ (p : List ℤ × ℤ). p.0) best)

-- the point of an outcome
abbrev pub outcome_point : Outcome → Option (List ℤ)
outcome_point (outcome.Optimal grove point cost) = Some point
outcome_point (outcome.Infeasible grove) = None
outcome_point (outcome.Budget grove best bound) = option_map (λ (p : List ℤ × ℤ). p.0) best

-- an outcome's point lies in the spans
abbrev pub CanTell : NamedProgram → Outcome → Type 0
CanTell m (outcome.Optimal grove point cost) = IsInside m.program.spans point
CanTell m (outcome.Infeasible grove) = Unit {0}
CanTell m (outcome.Budget grove best bound) = ForSome best (λ (p : List ℤ × ℤ). IsInside m.program.spans p.0)
