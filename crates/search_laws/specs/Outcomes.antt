-- What a search claims when it ends or is stopped, and the certificate that is read off its tree.
use Rattle.std.specs.Prelude.{List, [], Option, Some, None, option_map, ℤ, All}
use Rattle.bp_theory.specs.Program.{Program, value, in_sense, KeepsActivity}
use Rattle.bp_theory.specs.Decomposition.{Decomposition}
use Rattle.bp_theory.specs.Cuts.{cut_rows, AreFitting}
use Rattle.bp_theory.specs.Claims.{Certificate}
use Rattle.bp_theory.specs.declared.Cut.{Cut}
use Rattle.bp_theory.specs.declared.Claim.{Claim}
use Rattle.bp_theory.specs.declared.Claim.TheVariants.{Optimal, Infeasible, Bound}
use Rattle.search_laws.specs.Grove.{GrowingTree, certificate_tree}

-- the claim at the end: the value of the best point, or that nothing is feasible
abbrev pub final_claim : Program → Option (List ℤ) → Claim
final_claim p None = Infeasible
final_claim p (Some x) = Optimal (value p x)

-- the claim of a search that is stopped with a remaining bound
abbrev pub stopped_claim : Program → Option (List ℤ) → ℤ → Claim
stopped_claim p best v = Bound (in_sense p.maximises v) (option_map (value p) best)

-- the certificate that is read off a growing tree
abbrev pub read_off : Claim → Option (List ℤ) → List Cut → GrowingTree → Certificate
read_off claim point cuts t = record { claim = claim; point = point; cuts = cuts; tree = certificate_tree t }

-- cuts fit a decomposition, and their rows keep the limit
pub record CutsFit (p : Program) (d : Decomposition) (cuts : List Cut) : Type 0 where
  pub fitting : AreFitting p d [] cuts
  pub bounded : All (KeepsActivity p) (cut_rows p d [] cuts)
