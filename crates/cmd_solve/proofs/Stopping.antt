-- For how many steps a search was one.
use Rattle.std.proofs.Common.{◌≡◌, refl, subst, sym, ℕ, Bool, true, false, Option, Result, Ok, Err, ◌≤◌, arith}
use Rattle.std.specs.Prelude.{IfOk}
use Rattle.bp_search.specs.Ends.{given_steps}
use Rattle.search_outcome.specs.Endings.{StopsAt}

-- for the given ones
pub stops_there : (watched : Bool) (given : Option ℕ) → StopsAt watched given given
stops_there false given = refl
stops_there true given = omega arith

pub stops_same : {A E : Type 0} (watched : Bool) (given : Option ℕ) (steps_of : A → Option ℕ) (r : Result A E) → IfOk r (λ s. steps_of s ≡ given)
    → IfOk r (λ s. StopsAt watched given (steps_of s))
stops_same watched given steps_of (Ok s) same = subst (λ (steps : Option ℕ). StopsAt watched given steps) (sym same) (stops_there watched given)
stops_same watched given steps_of (Err e) same = tt

-- for no more than those
pub stops_before : {A E : Type 0} (watched : Bool) (given : Option ℕ) (steps_of : A → Option ℕ) (r : Result A E) → watched ≡ true
    → IfOk r (λ s. given_steps (steps_of s) ≤ given_steps given) → IfOk r (λ s. StopsAt watched given (steps_of s))
stops_before watched given steps_of (Ok s) is few = subst (λ (w : Bool). StopsAt w given (steps_of s)) (sym is) few
stops_before watched given steps_of (Err e) is few = tt
