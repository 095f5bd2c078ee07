use Rattle.std.proofs.Common.{◌≡◌, vec_len}
use Rattle.std.specs.Prelude.{IfSome, IfNone}
use Rattle.enumeration.specs.Best.{AllCovered, IsReached, IsNoWorse}
use Rattle.enumeration.specs.Search.{IsTracked, IsPaid}
use Rattle.enumeration.specs.Levels.{IsAt}
use Rattle.enumeration.proofs.LevelLaws.{left_ahead}
use Rattle.enumeration.proofs.search.explore.Given as goal

abbrev pub invariant-loop-next : goal.invariant-loop-next
invariant-loop-next l = record {
  capped : l.visits.capped ≡ l.fn.visits.capped;
  frames : vec_len l.frames ≡ vec_len l.fn.frames;
  tracked : IsTracked l.problem.form.now.rows.items l.problem.zone.now l.problem.costs.now l.dive;
  paid : IsPaid l.problem.relaxed.now l.dive;
  reached : IsReached l.problem.form.now.rows.items l.problem.zone.now l.problem.costs.now l.dive.best l.dive.point.items;
  no_worse : IsNoWorse l.fn.dive.best l.dive.best;
  next : IfSome l.next (λ node. IsAt l.problem.form.now.rows.items l.problem.zone.now l.problem.costs.now l.problem.relaxed.now.costs.items l.order l.frames.items l.dive node);
  zone : IfNone l.next (l.dive.zone.items ≡ l.problem.zone.now);
  all : IfNone l.next (AllCovered l.problem.form.now.rows.items l.problem.zone.now l.problem.costs.now l.dive.best);
}

abbrev pub decreases-loop-next : goal.decreases-loop-next
decreases-loop-next l = left_ahead l.problem.zone.now l.order l.frames.items l.next
