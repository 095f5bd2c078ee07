use Rattle.std.proofs.Common.{◌≡◌, ◌≤◌, vec_len}
use Rattle.enumeration.specs.Best.{AllCovered}
use Rattle.enumeration.specs.Search.{IsTracked, IsPaid, IsKept}
use Rattle.enumeration.specs.Levels.{IsBelow, left_behind}
use Rattle.enumeration.proofs.search.next_behind.Given as goal

abbrev pub invariant-loop-level : goal.invariant-loop-level
invariant-loop-level l = record {
  level : l.level ≤ l.from;
  frames : vec_len l.frames ≡ vec_len l.fn.frames;
  tracked : IsTracked l.problem.form.now.rows.items l.problem.zone.now l.problem.costs.now l.dive;
  paid : IsPaid l.problem.relaxed.now l.dive;
  kept : IsKept l.fn.dive l.dive;
  below : IsBelow l.problem.form.now.rows.items l.problem.zone.now l.problem.costs.now l.problem.relaxed.now.costs.items l.order l.frames.items l.dive.best l.level l.dive.zone.items;
  covered : AllCovered l.problem.form.now.rows.items l.dive.zone.items l.problem.costs.now l.dive.best;
  fewer : left_behind l.problem.zone.now l.order l.frames.items l.level ≤ left_behind l.problem.zone.now l.order l.fn.frames.items l.from;
}

abbrev pub decreases-loop-level : goal.decreases-loop-level
decreases-loop-level l = l.level
