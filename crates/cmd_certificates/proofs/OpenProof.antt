-- A file, a text and a certificate as a tree to merge.
use Rattle.std.proofs.Common.{◌≡◌, refl, sym, ap, subst, ◌∙◌, ℕ, ◌<◌, ◌^◌, List, length, Some, None, Result, Ok, Err, IfOk, IfErr, IsErrAnd}
use Rattle.bp_theory.specs.Claims.{IsCertified}
use Rattle.bp_theory.specs.declared.CheckKind.{CheckKind}
use Rattle.bp_shelf.specs.Shelf.{Files}
use Rattle.bp_shelf.specs.declared.shelf.ShelfFault.{ShelfFault}
use Rattle.bp_shelf.specs.declared.shelf.ShelfFault.TheVariants.{Missing, Failed, NoMemory}
use Rattle.block_program.specs.Blocked.{BlockedProgram}
use Rattle.cert_load.specs.Loadings.{IsLoadedOf, IsTooDeep}
use Rattle.cert_load.specs.Recut.{with_cuts}
use Rattle.cert_format.specs.Fault.{IsCertText}
use Rattle.cert_format.specs.Kept.{certificate_of, kept_cert}
use Rattle.cert_text.specs.Programs.{GoesWith, frame_for}
use Rattle.cert_format.specs.declared.cert.Cert.{Cert}
use Rattle.bp_theory.specs.declared.Claim.{Claim}
use Rattle.cert_check.specs.Judging.{IsJudged}
use Rattle.cert_check.specs.declared.judge.Judged.{Judged}
use Rattle.cert_check.specs.declared.judge.Judged.TheVariants.{Accepted, Rejected, Unknown}
use Rattle.cert_report.specs.Certificates.{check_report}
use Rattle.bp_report.specs.Refusals.{from_refusal}
use Rattle.cmd_check.proofs.Certificates.{kept_point}
use Rattle.cmd_certificates.specs.Opens.{IsOpenedText, IsOpenedFile, IsLoadedOver, CanJoin, RefusesText, rejected, too_deep, RefusesFile, missing, refused}
use Rattle.cmd_certificates.specs.Stops.{IsStop, IsTextStop, CountsStopped}
use Rattle.cmd_certificates.specs.declared.opening.Opened.{Opened}
use Rattle.cmd_certificates.specs.declared.opening.Stop.{Stop}
use Rattle.cmd_certificates.specs.declared.opening.Stop.TheVariants.{Refused, Stopped}
use Rattle.cmd_certificates.proofs.NodeCount.{few_nodes}

-- ---- a text

opened_by : (b : BlockedProgram) (text : List ℕ) (cert : Cert) (o : Opened) → IsCertText (frame_for b) (kept_cert cert) text → GoesWith b (certificate_of cert)
    → IsCertified b.named.program b.dec (certificate_of cert) → IsLoadedOver b (certificate_of cert) o → IsOpenedText b text o
opened_by b text cert o spelled goes valid loaded = record {
  opened = record {
    cert = certificate_of cert;
    spelled = spelled;
    has_point = kept_point cert.claim cert.point;
    goes_with = goes;
    valid = valid;
    loaded = subst (λ (x : BlockedProgram). IsLoadedOf x (certificate_of cert) o.from) loaded.0 loaded.1;
  };
  over = loaded.0;
}

pub text_opened : (b : BlockedProgram) (text : List ℕ) (cert : Cert) (r : Result Opened Stop) → IsCertText (frame_for b) (kept_cert cert) text → GoesWith b (certificate_of cert)
    → IfOk r (IsLoadedOver b (certificate_of cert)) → IfOk r (λ o. IsCertified b.named.program b.dec (certificate_of cert)) → IfOk r (IsOpenedText b text)
text_opened b text cert (Ok o) spelled goes loaded valid = opened_by b text cert o spelled goes valid loaded
text_opened b text cert (Err stop) spelled goes loaded valid = tt

pub text_usable : (b : BlockedProgram) (text : List ℕ) (cert : Cert) (r : Result Opened Stop) → length text < 2 ^ 64 → IsCertText (frame_for b) (kept_cert cert) text
    → IfOk r (IsLoadedOver b (certificate_of cert)) → IfOk r (CanJoin b)
text_usable b text cert (Ok o) short spelled loaded = record {
  model = ap (λ (x : BlockedProgram). x.named) loaded.0;
  dec = ap (λ (x : BlockedProgram). x.dec) loaded.0;
  can = record { loaded = loaded.1.loaded; few = few_nodes b o.program cert text o.from short spelled loaded.1 };
}
text_usable b text cert (Err stop) short spelled loaded = tt

pub text_stopped : (b : BlockedProgram) (text : List ℕ) (cert : Cert) (r : Result Opened Stop) → IsCertText (frame_for b) (kept_cert cert) text
    → IfErr r (λ stop. (t : List ℕ) → IsCertText (frame_for b) (kept_cert cert) t → IsTextStop b t stop) → IfErr r (IsTextStop b text)
text_stopped b text cert (Ok from) spelled stopped = tt
text_stopped b text cert (Err stop) spelled stopped = stopped text spelled

-- ---- a file

pub file_opened : (files : Files) (b : BlockedProgram) (name text : List ℕ) (r : Result Opened Stop) → files name ≡ Some text → IfOk r (IsOpenedText b text) → IfOk r (IsOpenedFile files b name)
file_opened files b name text (Ok from) there opened = record { text = text; there = there; opened = opened }
file_opened files b name text (Err stop) there opened = tt

text_refused : (files : Files) (b : BlockedProgram) (name front : List ℕ) (stop : Stop) → files name ≡ Some front → IsTextStop b front stop → IsStop (RefusesFile files b name) stop
text_refused files b name front (Refused reply) there refuses = refused front reply.status reply.report.items there refuses
text_refused files b name front (Stopped Missing) there is = absurd (cc)
text_refused files b name front (Stopped Failed) there is = tt
text_refused files b name front (Stopped NoMemory) there is = tt

pub file_stopped : (files : Files) (b : BlockedProgram) (name text : List ℕ) (r : Result Opened Stop) → files name ≡ Some text → IfErr r (IsTextStop b text) → IfErr r (IsStop (RefusesFile files b name))
file_stopped files b name text (Ok from) there stopped = tt
file_stopped files b name text (Err stop) there stopped = text_refused files b name text stop there stopped

fault_stopped : (files : Files) (b : BlockedProgram) (name : List ℕ) (fault : ShelfFault) → (fault ≡ Missing → files name ≡ None) → IsStop (RefusesFile files b name) (Stopped fault)
fault_stopped files b name Missing gone = missing (gone refl)
fault_stopped files b name Failed gone = tt
fault_stopped files b name NoMemory gone = tt

pub read_stopped : {T : Type 0} (files : Files) (b : BlockedProgram) (name : List ℕ) (fault : ShelfFault) (r : Result T Stop) → IsErrAnd r (λ e. e ≡ Stopped fault)
    → (fault ≡ Missing → files name ≡ None) → IfErr r (IsStop (RefusesFile files b name))
read_stopped files b name fault (Ok x) is gone = tt
read_stopped files b name fault (Err e) is gone = subst (λ (s : Stop). IsStop (RefusesFile files b name) s) (sym is) (fault_stopped files b name fault gone)

-- ---- a certificate

pub cert_deep : (b c : BlockedProgram) (cert : Cert) (line : ℕ) (report text : List ℕ) → c ≡ with_cuts b (certificate_of cert).cuts
    → IsCertified b.named.program b.dec (certificate_of cert) → IsTooDeep c (certificate_of cert) line → report ≡ from_refusal line → IsCertText (frame_for b) (kept_cert cert) text → RefusesText b text 3 report
cert_deep b c cert line report text over valid deep told spelled =
    too_deep (certificate_of cert) line spelled (kept_point cert.claim cert.point) valid
    (subst (λ (x : BlockedProgram). IsTooDeep x (certificate_of cert) line) over deep) refl told

pub cert_rejected : (b : BlockedProgram) (cert : Cert) (judged : Judged) (line : ℕ) (kind : CheckKind) (report text : List ℕ) → judged ≡ Rejected line kind
    → IsJudged b (certificate_of cert) judged → report ≡ check_report judged → IsCertText (frame_for b) (kept_cert cert) text → RefusesText b text 6 report
cert_rejected b cert judged line kind report text is judges told spelled =
    let fault : IsJudged b (certificate_of cert) (Rejected line kind) = subst (IsJudged b (certificate_of cert)) is judges in
    rejected (certificate_of cert) line kind spelled (kept_point cert.claim cert.point) fault.0 refl (told ∙ ap check_report is)

pub cert_valid : (b : BlockedProgram) (cert : Cert) (judged : Judged) (claim : Claim) → judged ≡ Accepted claim → IsJudged b (certificate_of cert) judged
    → IsCertified b.named.program b.dec (certificate_of cert)
cert_valid b cert judged claim is judges = let h : IsJudged b (certificate_of cert) (Accepted claim) = subst (IsJudged b (certificate_of cert)) is judges in h.1

-- without a number of visits nothing is unknown
pub cert_known : (b : BlockedProgram) (cert : Cert) (judged : Judged) (line : ℕ) → judged ≡ Unknown line → IsJudged b (certificate_of cert) judged → ⊥
cert_known b cert judged line is judges = subst (IsJudged b (certificate_of cert)) is judges

pub still_missing : {T : Type 0} (fault : ShelfFault) → fault ≡ Missing → ◌≡◌ {A = Result T ShelfFault} (Err fault) (Err Missing)
still_missing {T} fault is = subst (λ (f : ShelfFault). ◌≡◌ {A = Result T ShelfFault} (Err fault) (Err f)) is refl

-- what a text is refused for raises no count
pub text_counts : {T : Type 0} (b : BlockedProgram) (text : List ℕ) (r : Result T Stop) (before now : ℕ) → IfErr r (IsTextStop b text) → now ≡ before → CountsStopped before now r
text_counts b text (Ok x) before now stopped same = same
text_counts b text (Err (Refused reply)) before now stopped same = same
text_counts b text (Err (Stopped Missing)) before now stopped same = same
text_counts b text (Err (Stopped Failed)) before now stopped same = absurd (cc)
text_counts b text (Err (Stopped NoMemory)) before now stopped same = same
