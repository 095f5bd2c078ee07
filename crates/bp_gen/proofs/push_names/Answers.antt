use Rattle.std.proofs.Common.{refl}
use Rattle.bp_gen.specs.Generator.{spaced}
use Rattle.bp_gen.proofs.Pushed.{pushed_two}
use Rattle.bp_gen.proofs.push_names.Goals as goal

pub loop-job-preserved : goal.loop-job-preserved
loop-job-preserved c =
    pushed_two (spaced c.args.agent) c.loop-job.job c.args.text.now.items c.loop-job.text.items c.extend_from_slice.new.self.items c.push_variable.new.text.items _ _ c.loop-job.invariant c.in_ok-extend_from_slice.ensures.items c.in_ok-push_variable.ensures refl
