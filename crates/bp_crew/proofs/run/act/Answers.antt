-- A leaf that is taken, or reported on, is an event of its worker.
use Rattle.std.proofs.Common.{◌≡◌, refl, sym, subst, List, Result, Ok, Err}
use Rattle.std.specs.Prelude.{OnOk}
use Rattle.block_program.specs.Blocked.{BlockedProgram}
use Rattle.search_laws.specs.Crew.{takes, reports, kind_of_next}
use Rattle.search_laws.specs.declared.Side.{Side}
use Rattle.search_laws.specs.declared.Kind.TheVariants.{Take}
use Rattle.search_laws.specs.declared.Next.{Next}
use Rattle.search_laws.specs.declared.Next.TheVariants.{Shut, Fork}
use Rattle.search_laws.specs.declared.Verdict.{Verdict}
use Rattle.crew_steps.specs.declared.choice.Task.{Task}
use Rattle.crew_steps.specs.declared.choice.Task.TheVariants.{Take as TakeTask, Report as ReportTask}
use Rattle.crew_steps.specs.declared.choice.Choice.{Choice}
use Rattle.crew_steps.specs.States.{CrewState, IsEvent}
use Rattle.crew_steps.specs.Draws.{IsOf}
use Rattle.bp_crew.specs.Runs.{IsDone}
use Rattle.bp_crew.proofs.run.act.Goals as goal

done_by : {T E : Type 0} (b : BlockedProgram) (before after : CrewState) (choice : Choice) (r : Result T E) → choice.task ≡ TakeTask
    → OnOk r ((path : List Side) × IsEvent b before (takes choice.worker path) after) → OnOk r (IsDone b before choice after)
done_by b before after choice (Ok done) is event = record {
  event = takes choice.worker event.0;
  is = event.1;
  worker = refl;
  kind = subst (λ (t : Task). IsOf t Take) (sym is) tt;
}
done_by b before after choice (Err fault) is event = tt

pub returns-in-Take-clause-done : goal.returns-in-Take-clause-done
returns-in-Take-clause-done c =
    done_by c.args.b.now c.args.crew.now c.take.new.self c.args.choice c.take.result c.in-Take.is (c.take.ensures.event c.args.b.now c.requires.kept)

of_report : (next : Next) → IsOf ReportTask (kind_of_next next)
of_report (Shut proof) = tt
of_report (Fork v at proof bound) = tt

reported_by : {T E : Type 0} (b : BlockedProgram) (before after : CrewState) (choice : Choice) (verdict : Verdict) (r : Result T E) → choice.task ≡ ReportTask
    → OnOk r (IsEvent b before (reports choice.worker verdict) after) → OnOk r (IsDone b before choice after)
reported_by b before after choice verdict (Ok done) is event = record {
  event = reports choice.worker verdict;
  is = event;
  worker = refl;
  kind = subst (λ (t : Task). IsOf t (kind_of_next verdict.next)) (sym is) (of_report verdict.next);
}
reported_by b before after choice verdict (Err fault) is event = tt

pub returns-in_ok-verdict-in-Report-clause-done : goal.returns-in_ok-verdict-in-Report-clause-done
returns-in_ok-verdict-in-Report-clause-done c =
    reported_by c.args.b.now c.args.crew.now c.report.new.self c.args.choice c.in_ok-verdict-in-Report.verdict c.report.result c.in-Report.is c.report.ensures.event
