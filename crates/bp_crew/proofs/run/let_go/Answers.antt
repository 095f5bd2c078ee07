use Rattle.std.proofs.Common.{◌∙◌, refl, arith}
use Rattle.bp_crew.proofs.Finishing.{let_go_first, let_go_more, let_go_kept, let_go_long, all_gone}
use Rattle.bp_crew.proofs.run.let_go.Goals as goal

pub loop-worker-init : goal.loop-worker-init
loop-worker-init c = record { kept = c.requires.kept; many = c.requires.all; gone = let_go_first c.args.b.now c.args.crew.now }

pub loop-worker-preserved : goal.loop-worker-preserved
loop-worker-preserved c =
    record {
      kept = let_go_kept c.args.b.now c.loop-worker.crew c.let_go_one.new.crew c.loop-worker.worker _ c.loop-worker.invariant.kept refl c.let_go_one.ensures.gone;
      many = let_go_long c.args.b.now c.loop-worker.crew c.let_go_one.new.crew c.loop-worker.worker _ refl c.let_go_one.ensures.gone ∙ c.loop-worker.invariant.many;
      gone = let_go_more c.args.b.now c.args.crew.now c.loop-worker.crew c.let_go_one.new.crew c.loop-worker.worker _ refl c.let_go_one.ensures.gone
          (omega (arith, c.loop-worker.invariant.many, c.loop-worker-test.true)) c.loop-worker.invariant.gone;
    }

pub returns-clause-gone : goal.returns-clause-gone
returns-clause-gone c =
    all_gone c.args.b.now c.args.crew.now c.loop-worker.crew c.loop-worker.worker (omega (arith, c.loop-worker.invariant.many, c.loop-worker-test.false)) c.loop-worker.invariant.gone
