-- What the claim of a merged certificate says beside the claims of the two.
use Rattle.std.specs.Prelude.{◌≡◌, Option, Some, None, option_map, ℤ}
use Rattle.bp_theory.specs.Program.{Program, in_sense}
use Rattle.bp_theory.specs.Judgement.{named_value}
use Rattle.bp_theory.specs.declared.Claim.{Claim}
use Rattle.bp_theory.specs.declared.Claim.TheVariants.{Optimal, Infeasible, Bound}
use Rattle.search_laws.specs.GroveFacts.{IsNoDearer}
use Rattle.search_laws.specs.Verdicts.{cheaper_cost}

-- the bound of a claim as a cost: that of the best value is the value, and where nothing is feasible there is none, which is best of all
abbrev pub claimed_bound : Program → Claim → Option ℤ
claimed_bound p (Optimal v) = Some (in_sense p.maximises v)
claimed_bound p Infeasible = None
claimed_bound p (Bound bound v) = Some (in_sense p.maximises bound)

-- the value that a claim names, as a cost
abbrev pub claimed_cost : Program → Claim → Option ℤ
claimed_cost p claim = option_map (in_sense p.maximises) (named_value claim)

-- a merged claim has the better of both values, and a bound that is no worse than either's
pub record IsMergedClaim (p : Program) (one other claim : Claim) : Type 0 where
  pub value : claimed_cost p claim ≡ cheaper_cost (claimed_cost p one) (claimed_cost p other)
  pub first : IsNoDearer (claimed_bound p one) (claimed_bound p claim)
  pub second : IsNoDearer (claimed_bound p other) (claimed_bound p claim)
