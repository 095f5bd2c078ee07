use Rattle.std.proofs.Common.{◌≡◌, take}
use Rattle.std.specs.Prelude.{◌*ℤ◌}
use Rattle.std.specs.Int.{w128, int_wrap}
use Rattle.bp_theory.specs.Sums.{sum_of}
use Rattle.search_laws.specs.Master.{multiplier}
use Rattle.master_gap.proofs.price.spent.Given as goal

abbrev pub invariant-loop-act : goal.invariant-loop-act
invariant-loop-act l = l.sum ≡ int_wrap w128 (sum_of (λ e. e.1 *ℤ multiplier l.mults e.0) (take l.act-index l.acts))
