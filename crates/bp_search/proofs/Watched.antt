-- What a search took that was watched.
use Rattle.std.proofs.Common.{◌≡◌, ap, subst, ℕ, ◌+◌, Result, Ok, Err, arith}
use Rattle.std.specs.Prelude.{IfOk}
use Rattle.std.specs.declared.alloc.AllocError.{AllocError}
use Rattle.bp_theory.specs.Trees.{steps}
use Rattle.block_program.specs.Blocked.{BlockedProgram}
use Rattle.search_laws.specs.Grove.{GrowingTree, certificate_tree}
use Rattle.branch_tree.specs.Loads.{IsFresh}
use Rattle.branch_tree.specs.declared.loaded.Loaded.{Loaded}
use Rattle.bp_search.specs.declared.watch.Stopped.{Stopped}
use Rattle.bp_search.specs.Ends.{EndsWithin}

-- a search that began at the start took all the steps of its tree
pub fresh_taken : (b : BlockedProgram) (from : Loaded) (r : Result Stopped AllocError) → IsFresh b from
    → IfOk r (λ s. EndsWithin b (steps (certificate_tree from.grove.tree) + s.taken) s.outcome) → IfOk r (λ s. EndsWithin b s.taken s.outcome)
fresh_taken b from (Ok s) fresh ends =
    let none : steps (certificate_tree from.grove.tree) ≡ 0 = ap (λ (t : GrowingTree). steps (certificate_tree t)) fresh.planted.tree in
    let same : steps (certificate_tree from.grove.tree) + s.taken ≡ s.taken = omega (arith, none) in
    subst (λ (n : ℕ). EndsWithin b n s.outcome) same ends
fresh_taken b from (Err e) fresh ends = tt
