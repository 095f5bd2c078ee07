use Rattle.std.proofs.Common.{◌≡◌, ℕ, length, get_or, arith}
use Rattle.dec_components.proofs.TreeLemmas.{keeps_more, tied_later, tied_more, parent_more}
use Rattle.dec_components.proofs.join.root_of.Goals as goal

pub returns-then-above-row-clause-keeps : goal.returns-then-above-row-clause-keeps
returns-then-above-row-clause-keeps c = keeps_more c.args.parents.now c.climb.parents c.step_up-above.new.parents c.climb.invariant.keeps c.step_up-above.ensures.keeps

pub returns-then-above-row-clause-tied : goal.returns-then-above-row-clause-tied
returns-then-above-row-clause-tied c = tied_later c.climb.parents c.step_up-above.new.parents c.args.from c.climb.row c.step_up-above.ensures.keeps c.climb.invariant.tied

pub returns-then-above-row-clause-sound : goal.returns-then-above-row-clause-sound
returns-then-above-row-clause-sound c = λ p master are. c.step_up-above.ensures.sound p master (c.climb.invariant.sound p master are)

pub climb-preserved : goal.climb-preserved
climb-preserved c =
    let step = c.step_up-above.ensures in
    let before = c.climb.invariant in
    let now = c.step_up-above.new.parents in
    record {
      there = omega arith;
      below = omega arith;
      forest = step.forest;
      keeps = keeps_more c.args.parents.now c.climb.parents now before.keeps step.keeps;
      tied = tied_more now c.args.from c.climb.row c.step_up-above.result (tied_later c.climb.parents now c.args.from c.climb.row step.keeps before.tied) step.tied;
      sound = λ p master are. step.sound p master (before.sound p master are);
      joined = λ p master are. parent_more p master c.args.from c.climb.row c.step_up-above.result (before.joined p master are) (step.joined p master (before.sound p master are));
      roots = λ r l root. step.roots r (omega (arith, l)) (before.roots r l root);
    }
