-- How a search ends, from where it begins.
use Rattle.std.specs.Prelude.{◌≡◌, ℕ, ◌+◌, ◌≤◌, Bool, true, false, List, Option, Some, None}
use Rattle.bp_theory.specs.Trees.{steps}
use Rattle.block_program.specs.Blocked.{BlockedProgram}
use Rattle.search_laws.specs.declared.Side.{Side}
use Rattle.search_laws.specs.Grove.{GrowingTree, certificate_tree}
use Rattle.branch_tree.specs.declared.loaded.Loaded.{Loaded}
use Rattle.branch_tree.specs.declared.outcome.Outcome.{Outcome}
use Rattle.bp_search.specs.Ends.{EndsWithin, given_steps}
use Rattle.bp_search.specs.Below.{EndsBelow}
use Rattle.bp_search.specs.Resumed.{GoesOn}

-- how a search ends that goes on from a tree, everywhere in it or at a path and below it alone, and how many steps its report
-- tells: the given ones, or those that were taken
abbrev pub EndsOn : BlockedProgram → (start : GrowingTree) → (below : Option (List Side)) → (given : Option ℕ) → Outcome → (told : Option ℕ) → Type 0
EndsOn b start None given outcome told = EndsWithin b (steps (certificate_tree start) + given_steps given) outcome × (told ≡ given)
EndsOn b start (Some path) given outcome told = (ends : EndsBelow b start path given outcome) × (told ≡ Some ends.taken)

-- the same of a search from a tree that was loaded, or from the start
abbrev pub EndsAt : BlockedProgram → Option Loaded → (below : Option (List Side)) → (given : Option ℕ) → Outcome → (told : Option ℕ) → Type 0
EndsAt b None below given outcome told = EndsWithin b (given_steps given) outcome × (told ≡ given)
EndsAt b (Some from) below given outcome told = EndsOn b from.grove.tree below given outcome told

-- an outcome goes on from a tree that was loaded, where one was
abbrev pub GoesOnAt : BlockedProgram → Option Loaded → Outcome → Type 0
GoesOnAt b None outcome = Unit {0}
GoesOnAt b (Some from) outcome = GoesOn b from.grove from.best outcome

-- for how many steps a search was one: the given ones, and of a search that was watched no more than those
abbrev pub StopsAt : (watched : Bool) → (given steps : Option ℕ) → Type 0
StopsAt false given steps = steps ≡ given
StopsAt true given steps = given_steps steps ≤ given_steps given
