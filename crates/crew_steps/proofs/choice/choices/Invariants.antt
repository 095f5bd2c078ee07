use Rattle.std.proofs.Common.{◌≡◌, ◌++◌, drop}
use Rattle.crew_steps.specs.Draws.{choices_from}
use Rattle.crew_steps.proofs.choice.choices.Given as goal

abbrev pub invariant-loop-held : goal.invariant-loop-held
invariant-loop-held l = record {
  told : l.list.items ++ choices_from l.worker (drop l.held-index l.holds) l.may_take l.may_drop ≡ choices_from 0 l.holds l.may_take l.may_drop;
  at : l.worker ≡ l.held-index;
}
