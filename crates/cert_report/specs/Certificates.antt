-- The bytes of the reports on certificates, and on made programs that are solved and checked.
use Rattle.std.specs.Prelude.{ℕ, Bool, List, ◌++◌, Some, None, codes, decimal}
use Rattle.std.specs.Fmt.{signed_decimal}
use Rattle.bp_theory.specs.Limits.{demo_steps}
use Rattle.bp_theory.specs.declared.Claim.{Claim}
use Rattle.bp_theory.specs.declared.Claim.TheVariants.{Optimal, Infeasible, Bound}
use Rattle.bp_theory.specs.declared.CheckKind.{CheckKind}
use Rattle.bp_model.specs.Named.{NamedProgram}
use Rattle.search_laws.specs.Grove.{live_count}
use Rattle.branch_tree.specs.declared.outcome.Outcome.{Outcome}
use Rattle.cert_text.specs.Outcomes.{grove_of, claim_of}
use Rattle.cert_check.specs.declared.judge.Judged.{Judged}
use Rattle.cert_check.specs.declared.judge.Judged.TheVariants.{Accepted, Rejected, Unknown}
use Rattle.report_lines.specs.Lines.{count_line, fault_line}
use Rattle.report_lines.specs.Kinds.{check_kind_name}
use Rattle.report_lines.specs.Searches.{outcome_lines}

-- ---- checked certificates

-- what a certificate claims, as its text has it
abbrev pub claim_words : Claim → List ℕ
claim_words (Optimal v) = codes "optimal " ++ signed_decimal v
claim_words Infeasible = codes "infeasible"
claim_words (Bound b None) = codes "bound " ++ signed_decimal b
claim_words (Bound b (Some v)) = codes "bound " ++ signed_decimal b ++ codes " value " ++ signed_decimal v

-- the report on a certificate that is valid
abbrev pub accepted_report : Claim → List ℕ
accepted_report claim = codes "accepted " ++ claim_words claim ++ codes "\n"

-- the report on a certificate that reads and isn't valid
abbrev pub rejected_report : (line : ℕ) → CheckKind → List ℕ
rejected_report line kind = fault_line (codes "rejected ") line (check_kind_name kind)

-- the report on a certificate of which a line asks for more visits than are left
abbrev pub unknown_report : (line : ℕ) → List ℕ
unknown_report line = count_line (codes "unknown ") line

-- the report on a judged certificate
abbrev pub check_report : Judged → List ℕ
check_report (Accepted claim) = accepted_report claim
check_report (Rejected line kind) = rejected_report line kind
check_report (Unknown line) = unknown_report line

-- ---- merged certificates

-- the report on a certificate that two were merged into: how many of its leaves are open, and the line of `check` on it
abbrev pub merged_report : (maximises : Bool) → Outcome → List ℕ
merged_report maximises o = count_line (codes "merged open ") (live_count (grove_of o).tree) ++ accepted_report (claim_of maximises o)

-- ---- made programs that are solved and checked

-- the first line on a made program that is solved and checked
abbrev pub demo_line : (seed size : ℕ) → List ℕ
demo_line seed size = codes "demo " ++ decimal seed ++ codes " " ++ decimal size ++ codes "\n"

-- the report on such a program: the search is given the steps of the demonstration, and its point is left out
abbrev pub demo_report : (seed size : ℕ) → NamedProgram → Outcome → Judged → List ℕ
demo_report seed size m o j = demo_line seed size ++ outcome_lines m demo_steps o ++ check_report j
