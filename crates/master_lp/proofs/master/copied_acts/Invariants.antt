use Rattle.std.proofs.Common.{◌≡◌, take}
use Rattle.master_lp.proofs.master.copied_acts.Given as goal

abbrev pub invariant-loop-act : goal.invariant-loop-act
invariant-loop-act l = l.copy ≡ take l.act-index l.acts
