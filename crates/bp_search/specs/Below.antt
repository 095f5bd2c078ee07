-- How a search may end that works only at and below a path.
use Rattle.std.specs.Prelude.{◌≡◌, ◌⊎◌, ℕ, ◌+◌, ◌≤◌, List, Option}
use Rattle.bp_theory.specs.Trees.{steps}
use Rattle.block_program.specs.Blocked.{BlockedProgram}
use Rattle.search_laws.specs.declared.Side.{Side}
use Rattle.search_laws.specs.Grove.{GrowingTree, put_at, certificate_tree}
use Rattle.branch_tree.specs.Groves.{NoneLiveBelow}
use Rattle.branch_tree.specs.declared.outcome.Outcome.{Outcome}
use Rattle.bp_search.specs.Ends.{given_steps, EndsWithin, grove_in}

-- a tree is as another but at a path and below it: there it has some node in place of the other's
abbrev pub IsAsBeside : List Side → (before after : GrowingTree) → Type 0
IsAsBeside path before after = (node : GrowingTree) × (after ≡ put_at before path node)

-- the steps of an outcome's tree
abbrev pub steps_in : Outcome → ℕ
steps_in outcome = steps (certificate_tree (grove_in outcome).tree)

-- the outcome of a search that goes on from a tree, at a path and below it alone: it is one of all the steps that its own tree
-- has; beside those of the tree before no more than the given ones were taken, and all of them, or no leaf there is left live;
-- what is neither at the path nor below it is as before
pub record EndsBelow (b : BlockedProgram) (start : GrowingTree) (path : List Side) (given : Option ℕ) (outcome : Outcome) : Type 0 where
  pub ends : EndsWithin b (steps_in outcome) outcome
  pub taken : ℕ
  pub count : steps_in outcome ≡ steps (certificate_tree start) + taken
  pub few : taken ≤ given_steps given
  pub done : NoneLiveBelow (grove_in outcome).tree path ⊎ (taken ≡ given_steps given)
  pub beside : IsAsBeside path start (grove_in outcome).tree
