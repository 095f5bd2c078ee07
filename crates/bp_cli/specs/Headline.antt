-- The headline: what the report of a run says of the LP text, read under the limits of its order, in the words of integer programming. It speaks of told files
-- and of a run that met no fault and had its memory, and follows from what each command is said to answer.
use Rattle.std.specs.Prelude.{◌≡◌, ◌⊎◌, ◌≤◌, ℕ, List, ◌++◌, Option, Some, None, IfSome, ℤ, codes, Bool, IsTrue, is_none}
use Rattle.bp_theory.specs.declared.Limits.{Limits}
use Rattle.bp_theory.specs.Program.{IsFeasible, IsBest, value}
use Rattle.bp_theory.specs.Trees.{steps}
use Rattle.bp_theory.specs.Claims.{NoneBetter, IsTrueClaim}
use Rattle.bp_theory.specs.declared.Claim.{Claim}
use Rattle.bp_model.specs.Named.{NamedProgram}
use Rattle.bp_shelf.specs.Shelf.{Files}
use Rattle.lp_semantics.specs.Model.{Means}
use Rattle.search_laws.specs.Grove.{certificate_tree}
use Rattle.branch_tree.specs.Groves.{GroveState}
use Rattle.branch_tree.specs.declared.outcome.Outcome.{Outcome}
use Rattle.branch_tree.specs.declared.outcome.Outcome.TheVariants.{Budget}
use Rattle.bp_search.specs.Ends.{given_steps}
use Rattle.cli_orders.specs.declared.order.Order.{Order}
use Rattle.cli_orders.specs.declared.order.Order.TheVariants.{Solve, Check, Show, Gen, Demo, Detect, Propose, Merge, Migrate}
use Rattle.report_lines.specs.Lines.{count_line, value_line}
use Rattle.report_lines.specs.Searches.{variable_lines, known_line, known_lines}
use Rattle.cert_report.specs.Certificates.{accepted_report}

-- A report of `solve` is true of a program: `optimal V`, and behind it a point that meets every row and bound, that has the
-- value V, and that no such point betters; or `infeasible`, and no point meets every row and bound; or `budget N` with so many steps, a
-- bound that no point betters that meets every row and bound, and such a point and its value where one is known.
pub data IsTrueReport (m : NamedProgram) (told : ℕ) (status : ℕ) (report : List ℕ) : Type 0 where
  optimal : (x : List ℤ) → IsBest m.program x → status ≡ 0
      → report ≡ value_line (codes "optimal ") (value m.program x) ++ variable_lines m.names x → IsTrueReport m told status report
  infeasible : ((x : List ℤ) → IsFeasible m.program x → ⊥) → status ≡ 4 → report ≡ codes "infeasible\n" → IsTrueReport m told status report
  budget : (bound : ℤ) (known : Option (List ℤ)) → NoneBetter m.program bound → IfSome known (IsFeasible m.program) → status ≡ 5
      → report ≡ (count_line (codes "budget ") told ++ value_line (codes "bound ") bound ++ known_line m known) ++ known_lines m known
      → IsTrueReport m told status report

-- the file holds a text that means a program under limits
pub record HasProgram (limits : Limits) (file : Option (List ℕ)) (m : NamedProgram) : Type 0 where
  pub text : List ℕ
  pub there : file ≡ Some text
  pub means : Means limits text m

-- a tree of exactly so many splits and shut leaves is kept
pub record IsStoppedAfter (kept : Option Outcome) (count : ℕ) : Type 0 where
  pub grove : GroveState
  pub best : Option (List ℤ × ℤ)
  pub least : ℤ
  pub is_kept : kept ≡ Some (Budget grove best least)
  pub taken : steps (certificate_tree grove.tree) ≡ count

-- the statuses under which `solve` tells an outcome
abbrev pub IsOutcomeStatus : ℕ → Type 0
IsOutcomeStatus status = (status ≡ 0) ⊎ (status ≡ 4) ⊎ (status ≡ 5)

-- a run that could not read, could not write, or had no memory
abbrev pub WasStopped : ℕ → Type 0
WasStopped status = (status ≡ 7) ⊎ (status ≡ 8) ⊎ (status ≡ 9)

-- the steps that a report tells: the given ones, and of a search below one leaf alone no more than those
abbrev pub IsCount : (leaf : Option ℕ) → (given told : ℕ) → Type 0
IsCount None given told = told ≡ given
IsCount (Some number) given told = told ≤ given

-- what `solve` prints under such a status is true of the program that the LP text means; a search that was begun at the start and ran out of
-- steps took exactly the given ones
pub record TellsTruly (limits : Limits) (file : Option (List ℕ)) (leaf : Option ℕ) (given : ℕ) (begun : Bool) (kept : Option Outcome) (status : ℕ) (before now : List ℕ) : Type 0 where
  pub program : NamedProgram
  pub report : List ℕ
  pub told : ℕ
  pub counted : IsCount leaf given told
  pub read : HasProgram limits file program
  pub is_true : IsTrueReport program told status report
  pub printed : now ≡ before ++ report
  pub spent : status ≡ 5 → IsTrue begun → IsStoppedAfter kept given

-- `solve` tells outcomes that are true
abbrev pub SolvesTruly : Order → Files → Option Outcome → (status : ℕ) → (before now : List ℕ) → Type 0
SolvesTruly (Solve given) files kept status before now =
    IsOutcomeStatus status → TellsTruly given.limits (files given.lp) given.leaf (given_steps given.steps) (is_none given.from) kept status before now
SolvesTruly (Check given) files kept status before now = Unit {0}
SolvesTruly (Show lp dec blocks classes limits) files kept status before now = Unit {0}
SolvesTruly (Gen seed size lp dec) files kept status before now = Unit {0}
SolvesTruly (Demo seed size) files kept status before now = Unit {0}
SolvesTruly (Detect lp list dec limits) files kept status before now = Unit {0}
SolvesTruly (Propose lp dec limits) files kept status before now = Unit {0}
SolvesTruly (Merge given) files kept status before now = Unit {0}
SolvesTruly (Migrate lp cert new dec limits) files kept status before now = Unit {0}

-- `solve LP` tells an outcome of each LP text that means a program, unless it was stopped
abbrev pub SolvesAccepted : Order → Files → (status : ℕ) → Type 0
SolvesAccepted (Solve given) files status =
    given.dec ≡ None → given.from ≡ None → (m : NamedProgram) → HasProgram given.limits (files given.lp) m → IsOutcomeStatus status ⊎ WasStopped status
SolvesAccepted (Check given) files status = Unit {0}
SolvesAccepted (Show lp dec blocks classes limits) files status = Unit {0}
SolvesAccepted (Gen seed size lp dec) files status = Unit {0}
SolvesAccepted (Demo seed size) files status = Unit {0}
SolvesAccepted (Detect lp list dec limits) files status = Unit {0}
SolvesAccepted (Propose lp dec limits) files status = Unit {0}
SolvesAccepted (Merge given) files status = Unit {0}
SolvesAccepted (Migrate lp cert new dec limits) files status = Unit {0}

-- what `check` accepts is true of the program that the LP text means, whoever wrote it
pub record AcceptsTruly (limits : Limits) (file : Option (List ℕ)) (before now : List ℕ) : Type 0 where
  pub program : NamedProgram
  pub claim : Claim
  pub read : HasProgram limits file program
  pub is_true : IsTrueClaim program.program claim
  pub printed : now ≡ before ++ accepted_report claim

abbrev pub ChecksTruly : Order → Files → (status : ℕ) → (before now : List ℕ) → Type 0
ChecksTruly (Solve given) files status before now = Unit {0}
ChecksTruly (Check given) files status before now = status ≡ 0 → AcceptsTruly given.limits (files given.lp) before now
ChecksTruly (Show lp dec blocks classes limits) files status before now = Unit {0}
ChecksTruly (Gen seed size lp dec) files status before now = Unit {0}
ChecksTruly (Demo seed size) files status before now = Unit {0}
ChecksTruly (Detect lp list dec limits) files status before now = Unit {0}
ChecksTruly (Propose lp dec limits) files status before now = Unit {0}
ChecksTruly (Merge given) files status before now = Unit {0}
ChecksTruly (Migrate lp cert new dec limits) files status before now = Unit {0}
