-- How a search ends that was watched, from where it begins.
use Rattle.std.proofs.Common.{◌≡◌, refl, sym, subst, ◌+◌, Option, Some, None, Result, Ok, Err}
use Rattle.std.specs.Prelude.{IfOk}
use Rattle.std.specs.declared.alloc.AllocError.{AllocError}
use Rattle.bp_theory.specs.Trees.{steps}
use Rattle.block_program.specs.Blocked.{BlockedProgram}
use Rattle.search_laws.specs.Grove.{certificate_tree}
use Rattle.branch_tree.specs.declared.loaded.Loaded.{Loaded}
use Rattle.bp_search.specs.declared.watch.Stopped.{Stopped}
use Rattle.bp_search.specs.Ends.{EndsWithin}
use Rattle.bp_search.specs.Resumed.{GoesOn}
use Rattle.search_outcome.specs.Endings.{EndsAt, GoesOnAt}

-- at the start
pub ends_fresh : (b : BlockedProgram) (from : Option Loaded) (r : Result Stopped AllocError) → from ≡ None → IfOk r (λ s. EndsWithin b s.taken s.outcome)
    → IfOk r (λ s. EndsAt b from None (Some s.taken) s.outcome (Some s.taken))
ends_fresh b from (Ok s) is ends = subst (λ (f : Option Loaded). EndsAt b f None (Some s.taken) s.outcome (Some s.taken)) (sym is) (ends, refl)
ends_fresh b from (Err e) is ends = tt

pub goes_fresh : (b : BlockedProgram) (from : Option Loaded) (r : Result Stopped AllocError) → from ≡ None → IfOk r (λ s. GoesOnAt b from s.outcome)
goes_fresh b from (Ok s) is = subst (λ (f : Option Loaded). GoesOnAt b f s.outcome) (sym is) tt
goes_fresh b from (Err e) is = tt

-- at a tree that was loaded
pub ends_resumed : (b : BlockedProgram) (from : Option Loaded) (start : Loaded) (r : Result Stopped AllocError) → from ≡ Some start
    → IfOk r (λ s. EndsWithin b (steps (certificate_tree start.grove.tree) + s.taken) s.outcome)
    → IfOk r (λ s. EndsAt b from None (Some s.taken) s.outcome (Some s.taken))
ends_resumed b from start (Ok s) is ends = subst (λ (f : Option Loaded). EndsAt b f None (Some s.taken) s.outcome (Some s.taken)) (sym is) (ends, refl)
ends_resumed b from start (Err e) is ends = tt

pub goes_resumed : (b : BlockedProgram) (from : Option Loaded) (start : Loaded) (r : Result Stopped AllocError) → from ≡ Some start
    → IfOk r (λ s. GoesOn b start.grove start.best s.outcome) → IfOk r (λ s. GoesOnAt b from s.outcome)
goes_resumed b from start (Ok s) is goes = subst (λ (f : Option Loaded). GoesOnAt b f s.outcome) (sym is) goes
goes_resumed b from start (Err e) is goes = tt
