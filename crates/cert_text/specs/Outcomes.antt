-- The certificate of a search's outcome.
use Rattle.std.specs.Prelude.{◌<◌, ◌≤◌, Bool, List, length, Option, Some, None, IfSome, ℤ, unsigned_abs}
use Rattle.bp_theory.specs.Limits.{greatest_depth, number_limit}
use Rattle.std.specs.Option.{option_map}
use Rattle.bp_theory.specs.Program.{in_sense}
use Rattle.bp_theory.specs.Trees.{depth}
use Rattle.bp_theory.specs.declared.Claim.{Claim}
use Rattle.bp_theory.specs.declared.Claim.TheVariants as claim
use Rattle.block_program.specs.Blocked.{BlockedProgram}
use Rattle.search_laws.specs.Grove.{certificate_tree}
use Rattle.branch_tree.specs.Groves.{GroveState, IsGroveOf}
use Rattle.branch_tree.specs.declared.outcome.Outcome.{Outcome}
use Rattle.branch_tree.specs.declared.outcome.Outcome.TheVariants.{Optimal, Infeasible, Budget}
use Rattle.cert_text.specs.Programs.{IsSmallPoint}

-- the tree of an outcome, with its queue
abbrev pub grove_of : Outcome → GroveState
grove_of (Optimal grove point cost) = grove
grove_of (Infeasible grove) = grove
grove_of (Budget grove best bound) = grove

-- what an outcome claims, in the text's own sense
abbrev pub claim_of : Bool → Outcome → Claim
claim_of maximises (Optimal grove point cost) = claim.Optimal (in_sense maximises cost)
claim_of maximises (Infeasible grove) = claim.Infeasible
claim_of maximises (Budget grove best bound) = claim.Bound (in_sense maximises bound) (option_map (λ e. in_sense maximises e.1) best)

-- the best point of an outcome, where there is one
abbrev pub point_of : Outcome → Option (List ℤ)
point_of (Optimal grove point cost) = Some point
point_of (Infeasible grove) = None
point_of (Budget grove best bound) = option_map (λ e. e.0) best

-- the costs and bounds of an outcome are numbers of texts
abbrev pub HasSmallNumbers : Outcome → Type 0
HasSmallNumbers (Optimal grove point cost) = unsigned_abs cost < number_limit
HasSmallNumbers (Infeasible grove) = Unit {0}
HasSmallNumbers (Budget grove best bound) = (unsigned_abs bound < number_limit) × IfSome best (λ e. unsigned_abs e.1 < number_limit)

-- an outcome of a program that may be written: its tree is one of the program, no node is too deep for the program's limits, and its
-- numbers are those of texts, one for each variable in a point
pub record IsWritable (b : BlockedProgram) (o : Outcome) : Type 0 where
  pub grove : IsGroveOf b (grove_of o)
  pub shallow : depth (certificate_tree (grove_of o).tree) ≤ greatest_depth b.named.program.limits
  pub numbers : HasSmallNumbers o
  pub point : IfSome (point_of o) (IsSmallPoint (length b.named.program.spans))
