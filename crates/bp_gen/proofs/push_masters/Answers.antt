use Rattle.std.proofs.Common.{refl}
use Rattle.bp_gen.specs.Generator.{master_line}
use Rattle.bp_gen.proofs.Pushed.{pushed_three}
use Rattle.bp_gen.proofs.push_masters.Goals as goal

pub loop-job-preserved : goal.loop-job-preserved
loop-job-preserved c =
    pushed_three (master_line) c.loop-job.job c.args.text.now.items c.loop-job.text.items c.extend_from_slice.new.self.items c.push_number.new.text.items c.extend_from_slice-in-loop-job.new.self.items _ _ _ c.loop-job.invariant c.in_ok-extend_from_slice.ensures.items c.in_ok-push_number.ensures c.in_ok-extend_from_slice-2.ensures.items refl
