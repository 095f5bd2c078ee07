use Rattle.std.proofs.Common.{◌≡◌, refl, sym, subst}
use Rattle.block_program.specs.Blocked.{BlockedProgram}
use Rattle.cert_report.specs.Certificates.{merged_report}
use Rattle.bp_search.specs.Ends.{EndsWithin}
use Rattle.cert_format.specs.Fault.{IsText}
use Rattle.cert_format.specs.Plain.{version_with}
use Rattle.cert_text.specs.Programs.{frame_for}
use Rattle.cert_format.specs.Written.{cert_of}
use Rattle.search_outcome.specs.Outcomes.{outcome_certificate}
use Rattle.frontend.specs.Written.{draft_answer}
use Rattle.cmd_certificates.specs.Merges.{AnswersBoth}
use Rattle.frontend.specs.declared.draft.Draft.{Draft}
use Rattle.cmd_certificates.proofs.WrittenProof.{running, few_together, both_answered}
use Rattle.cmd_certificates.proofs.written.written.Goals as goal

pub merge-requires-clause-few : goal.merge-requires-clause-few
merge-requires-clause-few c = few_together _ _ c.requires.first.few c.requires.second.few

pub conclude-outcome-requires : goal.conclude-outcome-requires
conclude-outcome-requires c = running c.args.b.now c.in_ok-from.from.grove c.in_ok-from.from.best c.kept_from.result c.in_ok-from.ensures.loaded c.kept_from.ensures

pub returns-clause-merged : goal.returns-clause-merged
returns-clause-merged c = λ plain cuts text more formed over one other.
    let o = c.conclude-outcome.result in
    let m : Draft = record { text = c.in_ok-text.text; reply = record { status = 0; report = c.in_ok-report.report } } in
    subst (λ (x : BlockedProgram). AnswersBoth x one.cert other.cert c.args.first c.args.second (draft_answer m)) (sym over)
    (both_answered plain cuts text more c.args.first c.args.second c.in_ok-from.from c.kept_from.result o m formed one other c.in_ok-from.ensures.merged c.kept_from.ensures
    (λ most stopped. subst (λ (x : BlockedProgram). EndsWithin x most o) over (c.conclude-outcome.ensures.ends most stopped))
    c.conclude-outcome.ensures.grove c.conclude-outcome.ensures.point
    (subst (λ (x : BlockedProgram). IsText (frame_for x) (version_with x.cuts) (cert_of (outcome_certificate x o)) m.text.items) over c.in_ok-text.ensures)
    (subst (λ (x : BlockedProgram). m.reply.report.items ≡ merged_report x.named.program.maximises o) over c.in_ok-report.ensures) refl)
