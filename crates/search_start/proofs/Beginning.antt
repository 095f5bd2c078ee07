-- The start that a text gives, and that a search may begin there.
use Rattle.std.proofs.Common.{◌≡◌, ◌∙◌, refl, sym, ap, subst, ℕ, List, Option, Some, None, Result, Ok, Err, IfSome, IfOk}
use Rattle.bp_theory.specs.Claims.{Certificate, IsCertified}
use Rattle.bp_theory.specs.declared.CheckKind.{CheckKind}
use Rattle.block_program.specs.Blocked.{BlockedProgram}
use Rattle.search_laws.specs.declared.Side.{Side}
use Rattle.branch_tree.specs.declared.loaded.Loaded.{Loaded}
use Rattle.cert_load.specs.Loadings.{IsLoadedOf, IsTooDeep}
use Rattle.cert_load.specs.Recut.{with_cuts}
use Rattle.cert_format.specs.Fault.{IsCertText}
use Rattle.cert_text.specs.Programs.{frame_for}
use Rattle.cert_format.specs.Kept.{certificate_of, kept_cert}
use Rattle.cert_format.specs.declared.cert.Cert.{Cert as Kept}
use Rattle.cert_check.specs.Judging.{IsJudged}
use Rattle.cert_check.specs.declared.judge.Judged.{Judged}
use Rattle.cert_check.specs.declared.judge.Judged.TheVariants.{Accepted, Rejected, Unknown}
use Rattle.bp_theory.specs.declared.Claim.{Claim}
use Rattle.cert_report.specs.Certificates.{check_report}
use Rattle.bp_report.specs.Refusals.{from_refusal, leaf_refusal}
use Rattle.cmd_check.proofs.Certificates.{kept_point}
use Rattle.search_start.specs.Starts.{RefusesStart, rejected, too_deep, no_leaf, IsReady, StartsBy, StartsOf, StartsAfresh, CanBegin}
use Rattle.branch_tree.specs.Loads.{IsLoaded}
use Rattle.search_start.specs.Leaves.{open_path, IsWorkedOn}
use Rattle.search_start.specs.declared.start.Start.TheVariants.{Ready, Refused}
use Rattle.search_start.specs.declared.start.Start.{Start}
use Rattle.search_start.proofs.CutLemmas.{added_over}

-- what is loaded over the program with the certificate's cuts
over_cuts : (b c : BlockedProgram) (cert : Certificate) (from : Loaded) → c ≡ with_cuts b cert.cuts → IsLoadedOf c cert from → IsLoadedOf (with_cuts b cert.cuts) cert from
over_cuts b c cert from over loaded = subst (λ (x : BlockedProgram). IsLoadedOf x cert from) over loaded

pub start_ready : (b e : BlockedProgram) (leaf : Option ℕ) (cuts : ℕ) (cert : Kept) (from : Loaded) (below : Option (List Side)) (start : Start) → e ≡ with_cuts b (certificate_of cert).cuts
    → IsCertified b.named.program b.dec (certificate_of cert) → IsLoadedOf e (certificate_of cert) from → IsWorkedOn (certificate_of cert).tree leaf below
    → IsReady e from below cuts start → StartsOf b leaf cuts cert start
start_ready b e leaf cuts cert from below (Ready c loaded place) over valid loads worked ready = λ text spelled. (
  from,
  ready.2,
  record {
    start = record {
      cert = certificate_of cert;
      spelled = spelled;
      has_point = kept_point cert.claim cert.point;
      valid = valid;
      loaded = over_cuts b e (certificate_of cert) from over loads;
    };
    worked_on = subst (λ (at : Option (List Side)). IsWorkedOn (certificate_of cert).tree leaf at) (sym ready.3) worked;
  },
  added_over b e c (certificate_of cert).cuts cuts over ready.0,
)
start_ready b e leaf cuts cert from below (Refused reply) over valid loads worked ready = absurd ready

-- a search may begin there
pub ready_can : (e : BlockedProgram) (leaf : Option ℕ) (cuts : ℕ) (from : Loaded) (below : Option (List Side)) (start : Start) → (leaf ≡ None → below ≡ None)
    → IsReady e from below cuts start → CanBegin leaf start
ready_can e leaf cuts from below (Ready c loaded place) placed ready =
    (subst (λ (l : Option Loaded). IfSome l (IsLoaded c)) (sym ready.2) ready.1, λ none. ready.3 ∙ placed none)
ready_can e leaf cuts from below (Refused reply) placed ready = absurd ready

pub afresh_can : (b : BlockedProgram) (leaf : Option ℕ) (cuts : ℕ) (start : Start) → StartsAfresh b cuts start → CanBegin leaf start
afresh_can b leaf cuts (Ready c from below) h = (subst (λ (l : Option Loaded). IfSome l (IsLoaded c)) (sym h.0) tt, λ none. h.1)
afresh_can b leaf cuts (Refused reply) h = absurd h

pub start_without : (b e : BlockedProgram) (number : ℕ) (cert : Kept) (from : Loaded) (report text : List ℕ) → e ≡ with_cuts b (certificate_of cert).cuts
    → IsCertified b.named.program b.dec (certificate_of cert)
    → IsLoadedOf e (certificate_of cert) from → open_path (certificate_of cert).tree number ≡ None → report ≡ leaf_refusal number
    → IsCertText (frame_for b) (kept_cert cert) text → RefusesStart b (Some number) text 3 report
start_without b e number cert from report text over valid loaded none told spelled =
    no_leaf from number
    (record {
      cert = certificate_of cert;
      spelled = spelled;
      has_point = kept_point cert.claim cert.point;
      valid = valid;
      loaded = over_cuts b e (certificate_of cert) from over loaded;
    })
    refl none refl told

pub start_deep : (b e : BlockedProgram) (leaf : Option ℕ) (cert : Kept) (line : ℕ) (report text : List ℕ) → e ≡ with_cuts b (certificate_of cert).cuts
    → IsCertified b.named.program b.dec (certificate_of cert)
    → IsTooDeep e (certificate_of cert) line → report ≡ from_refusal line → IsCertText (frame_for b) (kept_cert cert) text → RefusesStart b leaf text 3 report
start_deep b e leaf cert line report text over valid deep told spelled =
    too_deep (certificate_of cert) line spelled (kept_point cert.claim cert.point) valid
    (subst (λ (x : BlockedProgram). IsTooDeep x (certificate_of cert) line) over deep) refl told

pub start_rejected : (b : BlockedProgram) (leaf : Option ℕ) (cert : Kept) (judged : Judged) (line : ℕ) (kind : CheckKind) (report text : List ℕ) → judged ≡ Rejected line kind
    → IsJudged b (certificate_of cert) judged → report ≡ check_report judged → IsCertText (frame_for b) (kept_cert cert) text → RefusesStart b leaf text 6 report
start_rejected b leaf cert judged line kind report text is judges told spelled =
    let fault : IsJudged b (certificate_of cert) (Rejected line kind) = subst (IsJudged b (certificate_of cert)) is judges in
    rejected (certificate_of cert) line kind spelled (kept_point cert.claim cert.point) fault.0 refl (told ∙ ap check_report is)

pub start_valid : (b : BlockedProgram) (cert : Kept) (judged : Judged) (claim : Claim) → judged ≡ Accepted claim → IsJudged b (certificate_of cert) judged
    → IsCertified b.named.program b.dec (certificate_of cert)
start_valid b cert judged claim is judges = let h : IsJudged b (certificate_of cert) (Accepted claim) = subst (IsJudged b (certificate_of cert)) is judges in h.1

-- without a number of visits nothing is unknown
pub start_known : (b : BlockedProgram) (cert : Kept) (judged : Judged) (line : ℕ) → judged ≡ Unknown line → IsJudged b (certificate_of cert) judged → ⊥
start_known b cert judged line is judges = subst (IsJudged b (certificate_of cert)) is judges

-- the start that a certificate gives is that of its text
pub text_starts : {E : Type 0} (b : BlockedProgram) (leaf : Option ℕ) (cuts : ℕ) (text : List ℕ) (cert : Kept) (start : Result Start E) → IsCertText (frame_for b) (kept_cert cert) text
    → IfOk start (StartsOf b leaf cuts cert) → IfOk start (StartsBy b leaf cuts text)
text_starts b leaf cuts text cert (Ok start) spelled starts = starts text spelled
text_starts b leaf cuts text cert (Err e) spelled starts = tt
