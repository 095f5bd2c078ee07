use Rattle.std.proofs.Common.{◌≡◌, ◌<◌, ℕ, List, length, get_or}
use Rattle.bp_theory.specs.declared.Term.{Term}
use Rattle.dec_components.specs.Joined.{IsOutside}
use Rattle.dec_components.specs.Forest.{HasHome, IsReady, IsSound, Extends}
use Rattle.dec_components.proofs.join.Ties.tie_row.Given as goal

abbrev pub invariant-loop-at : goal.invariant-loop-at
invariant-loop-at l = record {
  ready : IsReady (length l.m.program.rows) (length l.m.program.spans) l.self.parents.items l.self.homes.items;
  extends : Extends l.initial.self.parents.items l.initial.self.homes.items l.self.parents.items l.self.homes.items;
  homes : (i : ℕ) (d : Term) → i < l.at → HasHome l.self.parents.items l.self.homes.items l.row (get_or l.terms i d).var;
  sound : (master : List ℕ) → IsOutside l.m.program master l.row → IsSound l.m.program master l.initial.self.parents.items l.initial.self.homes.items
      → IsSound l.m.program master l.self.parents.items l.self.homes.items;
}
