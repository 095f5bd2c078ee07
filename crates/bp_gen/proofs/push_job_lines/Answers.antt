use Rattle.std.proofs.Common.{refl}
use Rattle.bp_gen.specs.Generator.{job_line}
use Rattle.bp_gen.proofs.Pushed.{pushed}
use Rattle.bp_gen.proofs.push_job_lines.Goals as goal

pub loop-job-preserved : goal.loop-job-preserved
loop-job-preserved c =
    pushed (job_line) c.loop-job.job c.args.text.now.items c.loop-job.text.items c.push_job_line.new.text.items _ c.loop-job.invariant c.in_ok-push_job_line.ensures refl
