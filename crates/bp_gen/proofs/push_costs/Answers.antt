use Rattle.std.proofs.Common.{◌++◌, refl}
use Rattle.std.specs.Prelude.{slice_index}
use Rattle.bp_gen.specs.Generator.{place, plus_before, product}
use Rattle.bp_gen.proofs.Pushed.{pushed}
use Rattle.bp_gen.proofs.push_costs.Goals as goal

pub loop-job-preserved : goal.loop-job-preserved
loop-job-preserved c =
    pushed (λ job. plus_before (place c.args.size c.args.agent job) ++ product (slice_index c.args.costs.now (place c.args.size c.args.agent job)) c.args.agent job) c.loop-job.job c.args.text.now.items c.loop-job.text.items c.push_term.new.text.items _ c.loop-job.invariant c.in_ok-push_term.ensures refl
