-- From where a search goes on, and where in its tree it works.
use Rattle.std.specs.Prelude.{◌≡◌, ◌⊎◌, ℕ, List, [], Option, Some, None, IfSome}
use Rattle.bp_theory.specs.Claims.{Certificate, IsCertified}
use Rattle.bp_theory.specs.Judgement.{IsFirstFault, HasItsPoint, named_value}
use Rattle.bp_theory.specs.declared.CheckKind.{CheckKind}
use Rattle.bp_shelf.specs.Shelf.{Files}
use Rattle.block_program.specs.Blocked.{BlockedProgram}
use Rattle.search_laws.specs.declared.Side.{Side}
use Rattle.branch_tree.specs.Loads.{IsLoaded}
use Rattle.branch_tree.specs.declared.loaded.Loaded.{Loaded}
use Rattle.cert_load.specs.Loadings.{IsLoadedOf, IsTooDeep}
use Rattle.cert_load.specs.Recut.{with_cuts}
use Rattle.cert_format.specs.Fault.{IsCertText}
use Rattle.cert_format.specs.Fault as texts
use Rattle.cert_format.specs.Written.{cert_of}
use Rattle.cert_format.specs.Kept.{kept_cert}
use Rattle.cert_format.specs.declared.cert.Cert.{Cert}
use Rattle.cert_text.specs.Programs.{frame_for}
use Rattle.cert_format.specs.declared.fault.CertKind.{CertKind}
use Rattle.cert_report.specs.Certificates.{rejected_report}
use Rattle.bp_report.specs.Refusals.{cert_refusal, from_refusal, leaf_refusal}
use Rattle.search_start.specs.Cuttings.{HasCuts}
use Rattle.search_start.specs.Leaves.{open_path, IsWorkedOn}
use Rattle.search_start.specs.declared.start.Start.{Start}
use Rattle.search_start.specs.declared.start.Start.TheVariants.{Ready, Refused}

-- a text spells a valid certificate, and this is the tree with the point that is loaded of it, over the program with its cuts
pub record IsStart (b : BlockedProgram) (text : List ℕ) (from : Loaded) : Type 0 where
  pub cert : Certificate
  pub spelled : IsCertText (frame_for b) (cert_of cert) text
  pub has_point : HasItsPoint (named_value cert.claim) cert.point
  pub valid : IsCertified b.named.program b.dec cert
  pub loaded : IsLoadedOf (with_cuts b cert.cuts) cert from

-- the same, with where in the tree a search works
pub record IsStartAt (b : BlockedProgram) (leaf : Option ℕ) (text : List ℕ) (from : Loaded) (below : Option (List Side)) : Type 0 where
  pub start : IsStart b text from
  pub worked_on : IsWorkedOn start.cert.tree leaf below

-- what a text is refused for as a start: as `check` judges it, where a leaf that would be live is too deep, and where it has no
-- open leaf of the number that is named
pub data RefusesStart (b : BlockedProgram) (leaf : Option ℕ) (text : List ℕ) (status : ℕ) (report : List ℕ) : Type 0 where
  faulty : (line : ℕ) (kind : CertKind) → texts.IsFirstCertFault (frame_for b) text line kind
      → status ≡ 3 → report ≡ cert_refusal line kind → RefusesStart b leaf text status report
  rejected : (cert : Certificate) (line : ℕ) (kind : CheckKind) → IsCertText (frame_for b) (cert_of cert) text
      → HasItsPoint (named_value cert.claim) cert.point → IsFirstFault b.named.program b.dec cert line kind
      → status ≡ 6 → report ≡ rejected_report line kind → RefusesStart b leaf text status report
  too_deep : (cert : Certificate) (line : ℕ) → IsCertText (frame_for b) (cert_of cert) text
      → HasItsPoint (named_value cert.claim) cert.point → IsCertified b.named.program b.dec cert → IsTooDeep (with_cuts b cert.cuts) cert line
      → status ≡ 3 → report ≡ from_refusal line → RefusesStart b leaf text status report
  no_leaf : (from : Loaded) (number : ℕ) (start : IsStart b text from) → leaf ≡ Some number → open_path start.cert.tree number ≡ None
      → status ≡ 3 → report ≡ leaf_refusal number → RefusesStart b leaf text status report

-- what is loaded as a start, over the program with the cuts that are added behind its own
abbrev pub IsReady : BlockedProgram → (from : Loaded) → (below : Option (List Side)) → (cuts : ℕ) → Start → Type 0
IsReady b from below cuts (Ready c loaded place) = HasCuts b b.cuts cuts c × IsLoaded c from × (loaded ≡ Some from) × (place ≡ below)
IsReady b from below cuts (Refused reply) = ⊥

-- what a text is as a start: what is loaded of it, over the program with the cuts of its certificate and those that are added behind them
abbrev pub StartsBy : BlockedProgram → (leaf : Option ℕ) → (cuts : ℕ) → List ℕ → Start → Type 0
StartsBy b leaf cuts text (Ready c from below) =
    (loaded : Loaded) × (from ≡ Some loaded) × (at : IsStartAt b leaf text loaded below) × HasCuts b at.start.cert.cuts cuts c
StartsBy b leaf cuts text (Refused reply) = RefusesStart b leaf text reply.status reply.report.items

-- what a certificate that was read is as a start, whatever text spells it
abbrev pub StartsOf : BlockedProgram → (leaf : Option ℕ) → (cuts : ℕ) → Cert → Start → Type 0
StartsOf b leaf cuts cert start = (text : List ℕ) → IsCertText (frame_for b) (kept_cert cert) text → StartsBy b leaf cuts text start

-- the start without a file: nothing is loaded, and the program has the cuts that are added
abbrev pub StartsAfresh : BlockedProgram → (cuts : ℕ) → Start → Type 0
StartsAfresh b cuts (Ready c from below) = (from ≡ None) × (below ≡ None) × HasCuts b [] cuts c
StartsAfresh b cuts (Refused reply) = ⊥

-- the start that a named file gives, or that of no file
abbrev pub HasStart : Files → Option (List ℕ) → (leaf : Option ℕ) → (cuts : ℕ) → BlockedProgram → Start → Type 0
HasStart files None leaf cuts b start = StartsAfresh b cuts start
HasStart files (Some name) leaf cuts b start = (text : List ℕ) × (files name ≡ Some text) × StartsBy b leaf cuts text start

-- where a search begins, and over which program in blocks: at the start, over that which the files come to with the cuts that are added; or at
-- what a named file is loaded as, over the same with the cuts of its certificate and those that are added behind them
abbrev pub BeginsBy : Files → Option (List ℕ) → (cuts : ℕ) → (b c : BlockedProgram) → Option Loaded → Type 0
BeginsBy files None cuts b c from = (from ≡ None) × HasCuts b [] cuts c
BeginsBy files (Some name) cuts b c from =
    (text : List ℕ) × (loaded : Loaded) × (files name ≡ Some text) × (start : IsStart b text loaded) × HasCuts b start.cert.cuts cuts c
    × (from ≡ Some loaded)

-- the program in blocks that a search is over, from a named file or from the start
abbrev pub SearchesOver : Files → Option (List ℕ) → (cuts : ℕ) → (b c : BlockedProgram) → Type 0
SearchesOver files from cuts b c = (start : Option Loaded) × BeginsBy files from cuts b c start

-- the named file of a start isn't there
abbrev pub LacksStart : Files → Option (List ℕ) → Type 0
LacksStart files None = ⊥
LacksStart files (Some name) = files name ≡ None

-- a search may begin there, everywhere in the tree where no leaf is named; or what is printed has its status
abbrev pub CanBegin : (leaf : Option ℕ) → Start → Type 0
CanBegin leaf (Ready c from below) = IfSome from (IsLoaded c) × (leaf ≡ None → below ≡ None)
CanBegin leaf (Refused reply) = (reply.status ≡ 3) ⊎ (reply.status ≡ 6)
