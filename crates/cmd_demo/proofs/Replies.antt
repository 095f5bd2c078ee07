-- Which replies are right.
use Rattle.std.proofs.Common.{◌≡◌, ◌≢◌, ◌⊎◌, ◌∙◌, ◌++◌, refl, sym, ap, subst, ℕ, Bool, IsTrue, List, [], ◌∷◌, Option, Some, None, Result, Ok, Err, IfErr, IsErrAnd, Vec, Global, take}
use Rattle.bp_theory.specs.Claims.{IsCertified}
use Rattle.bp_theory.specs.declared.Limits.TheVariants.{Usual}
use Rattle.bp_shelf.specs.declared.shelf.ShelfFault.TheVariants.{NoMemory}
use Rattle.block_program.specs.Blocked.{BlockedProgram}
use Rattle.branch_tree.specs.declared.outcome.Outcome.{Outcome}
use Rattle.bp_search.specs.Ends.{IsOutcome}
use Rattle.cert_check.specs.Judging.{IsJudged}
use Rattle.cert_check.specs.declared.judge.Judged.{Judged}
use Rattle.cert_report.specs.Certificates.{demo_report}
use Rattle.frontend.specs.Front.{ends}
use Rattle.frontend.specs.Answers.{AnswersBy, IsOnly, CutsOff, stopped, went_on}
use Rattle.frontend.specs.declared.ending.Reply.{Reply}
use Rattle.frontend.specs.declared.front.Halt.{Halt}
use Rattle.frontend.specs.declared.front.Halt.TheVariants.{Refused, Stopped}
use Rattle.frontend.proofs.Lifts.{stop_only, printed_status}
use Rattle.search_outcome.specs.Outcomes.{outcome_status, outcome_certificate}
use Rattle.search_outcome.proofs.Outcomes.{outcome_certified}
use Rattle.cmd_demo.specs.Demos.{made_files, MadeCome, DemosBlocked, AnswersDemo, IsDemo, DemoHalts}
use Rattle.cmd_demo.proofs.Certified.{judged_accepted}

-- the summary of an outcome whose certificate was judged
pub demos : (seed size : ℕ) (b : BlockedProgram) (o : Outcome) (judged : Judged) (status : ℕ) (report : List ℕ) → IsOutcome b (Some 2000) o
    → IsJudged b (outcome_certificate b o) judged → status ≡ outcome_status o → report ≡ demo_report seed size b.named o judged
    → DemosBlocked seed size (Some o) b status report
demos seed size b o judged status report is judges ended told =
    let valid : IsCertified b.named.program b.dec (outcome_certificate b o) = outcome_certified b 2000 o is in record {
      outcome = o;
      is_kept = refl;
      is_outcome = is;
      valid = valid;
      has_status = ended;
      has_report = told ∙ ap (λ (j : Judged). demo_report seed size b.named o j)
          (judged_accepted b (outcome_certificate b o) judged valid judges);
    }

-- want of memory halts
pub want_halts : {T : Type 0} (seed size : ℕ) (r : Result T Halt) → IsErrAnd r (λ halt. halt ≡ Stopped NoMemory) → IfErr r (DemoHalts seed size)
want_halts seed size (Ok x) is = tt
want_halts seed size (Err (Refused report)) is = let none : ⊥ = cc in absurd none
want_halts seed size (Err (Stopped fault)) is = cc

-- a summary that is printed
pub demo_answers : (seed size : ℕ) (reply : Reply) (outcome : Outcome) (kept : Option Outcome) (status : ℕ) (tells : Bool) (before now : List ℕ) → IsDemo seed size (reply, outcome)
    → (status ≡ reply.status) ⊎ (status ≡ 8) → (status ≢ 8 → kept ≡ Some outcome) → (IsTrue tells → status ≢ 8 → now ≡ before ++ reply.report.items)
    → AnswersBy (AnswersDemo seed size kept) status tells before now
demo_answers seed size reply outcome kept status tells before now demo is is_kept whole = λ no_read no_write no_want.
    let right : DemosBlocked seed size (Some outcome) demo.0 status reply.report.items =
    subst (λ (s : ℕ). DemosBlocked seed size (Some outcome) demo.0 s reply.report.items) (sym (printed_status status reply.status is no_write)) demo.2 in (
      reply.report.items,
      went_on demo.0 demo.1 (subst (λ (k : Option Outcome). DemosBlocked seed size k demo.0 status reply.report.items) (sym (is_kept no_write)) right),
      λ told. whole told no_write,
    )

pub demo_cut : (seed size : ℕ) (reply : Reply) (outcome : Outcome) (status : ℕ) (lost : Option (Vec ℕ Global)) (tells : Bool) (before now : List ℕ) → IsDemo seed size (reply, outcome)
    → (status ≡ 8 → lost ≡ Some reply.report) → (IsTrue tells → status ≡ 8 → (count : ℕ) × (now ≡ before ++ take count reply.report.items))
    → CutsOff (AnswersDemo seed size) status lost tells before now
demo_cut seed size reply outcome status lost tells before now demo gone partly = λ is_fault.
    (Some outcome, reply.status, reply.report, gone is_fault, went_on demo.0 demo.1 demo.2, (λ heard. partly heard is_fault))

-- a refusal that is printed
pub refused_answers : (seed size : ℕ) (report : List ℕ) (kept : Option Outcome) (status : ℕ) (tells : Bool) (before now : List ℕ) → MadeCome seed size (ends 3 report)
    → (status ≡ 3) ⊎ (status ≡ 8) → (status ≢ 8 → kept ≡ None) → (IsTrue tells → status ≢ 8 → now ≡ before ++ report) → AnswersBy (AnswersDemo seed size kept) status tells before now
refused_answers seed size report kept status tells before now come is is_kept whole = λ no_read no_write no_want. (
  report,
  subst (λ (s : ℕ). AnswersDemo seed size kept s report) (sym (printed_status status 3 is no_write)) (stopped come (is_kept no_write)),
  λ told. whole told no_write,
)

pub refused_only : (seed size : ℕ) (report : List ℕ) (kept : Option Outcome) (status : ℕ) → MadeCome seed size (ends 3 report)
    → (status ≡ 3) ⊎ (status ≡ 8) → IsOnly (AnswersDemo seed size kept) status
refused_only seed size report kept status come is =
    stop_only Usual (made_files seed size) [] (Some (0 ∷ [])) (kept ≡ None) (DemosBlocked seed size kept) status 3 report come (printed_status status 3 is)

pub refused_cut : (seed size : ℕ) (report : Vec ℕ Global) (status : ℕ) (lost : Option (Vec ℕ Global)) (tells : Bool) (before now : List ℕ) → MadeCome seed size (ends 3 report.items)
    → (status ≡ 8 → lost ≡ Some report) → (IsTrue tells → status ≡ 8 → (count : ℕ) × (now ≡ before ++ take count report.items))
    → CutsOff (AnswersDemo seed size) status lost tells before now
refused_cut seed size report status lost tells before now come gone partly = λ is_fault.
    (None, 3, report, gone is_fault, stopped come refl, (λ heard. partly heard is_fault))
