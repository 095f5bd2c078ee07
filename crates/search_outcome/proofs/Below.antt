-- What a search at a path took.
use Rattle.std.proofs.Common.{◌≡◌, sym, ap, subst, ℕ, List, Option, Some, ◌-◌, arith}
use Rattle.bp_theory.specs.Trees.{steps}
use Rattle.block_program.specs.Blocked.{BlockedProgram}
use Rattle.search_laws.specs.declared.Side.{Side}
use Rattle.search_laws.specs.Grove.{GrowingTree, certificate_tree}
use Rattle.branch_tree.specs.declared.outcome.Outcome.{Outcome}
use Rattle.bp_search.specs.Below.{EndsBelow, steps_in}
use Rattle.search_outcome.specs.Endings.{EndsOn}

-- the steps that a search below a path took are those that its tree has more
pub ends_on_below : (b : BlockedProgram) (start : GrowingTree) (below : Option (List Side)) (path : List Side) (given : Option ℕ) (o : Outcome) (before after taken : ℕ) → below ≡ Some path
    → EndsBelow b start path given o → before ≡ steps (certificate_tree start) → after ≡ steps_in o → taken ≡ after - before → EndsOn b start below given o (Some taken)
ends_on_below b start below path given o before after taken is ends first last taken_is =
    let same : taken ≡ ends.taken = omega (arith, ends.count, first, last, taken_is) in
    subst (λ (p : Option (List Side)). EndsOn b start p given o (Some taken)) (sym is) (ends, ap Some same)
