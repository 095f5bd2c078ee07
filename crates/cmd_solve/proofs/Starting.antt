-- A file is one start, or refused as one in one way.
use Rattle.std.proofs.Common.{◌≡◌, ◌≢◌, ◌⊎◌, ◌∙◌, refl, sym, ap, subst, ℕ, Bool, IsTrue, List, [], Vec, Global, Option, Some, None, IfSome, take, arith, inl, inr, append-nil, ◌++◌, if◌then◌else◌}
use Rattle.std.specs.Prelude.{nat_eq}
use Rattle.bp_theory.specs.Trees.{Tree}
use Rattle.bp_theory.specs.Claims.{Certificate, IsCertified}
use Rattle.bp_theory.specs.Judgement.{HasItsPoint, named_value}
use Rattle.bp_theory.proofs.CutProof.{certified_is_true_lem}
use Rattle.bp_shelf.specs.Shelf.{Files}
use Rattle.block_program.specs.Blocked.{BlockedProgram, IsFormed}
use Rattle.search_laws.specs.declared.Side.{Side}
use Rattle.branch_tree.specs.declared.outcome.Outcome.{Outcome}
use Rattle.branch_tree.specs.declared.loaded.Loaded.{Loaded}
use Rattle.cert_load.specs.Loadings.{IsTooDeep}
use Rattle.cert_load.specs.Recut.{with_cuts}
use Rattle.cert_load.proofs.Reaching.{loaded_is_low}
use Rattle.cert_format.specs.Fault.{IsCertText}
use Rattle.cert_format.specs.Written.{cert_of}
use Rattle.cert_text.specs.Programs.{frame_for}
use Rattle.cert_format.proofs.LawProofs.{certificates_are_one}
use Rattle.cert_report.specs.Certificates.{accepted_report, rejected_report}
use Rattle.bp_report.specs.Refusals.{cert_refusal}
use Rattle.frontend.specs.Answers.{AnswersBy, IsOnly, CutsOff}
use Rattle.frontend.specs.Endings.{status_of}
use Rattle.frontend.proofs.Lifts.{printed_status}
use Rattle.bp_shelf.specs.declared.shelf.ShelfFault.{ShelfFault}
use Rattle.bp_shelf.specs.declared.shelf.ShelfFault.TheVariants.{Missing, Failed, NoMemory}
use Rattle.frontend.specs.declared.ending.Reply.{Reply}
use Rattle.cmd_check.specs.Checks as checks
use Rattle.cmd_check.proofs.OneAnswer.{one_check}
use Rattle.cmd_check.proofs.Certificates.{one_written}
use Rattle.search_start.specs.Cuttings.{HasCuts}
use Rattle.search_start.specs.Starts.{IsStartAt, RefusesStart, faulty, rejected, too_deep, no_leaf, BeginsBy, HasStart, LacksStart, CanBegin}
use Rattle.branch_tree.specs.Loads.{IsLoaded}
use Rattle.bp_search.specs.Ends.{given_steps}
use Rattle.cmd_solve.specs.Crews.{ordered_crew}
use Rattle.cmd_solve.specs.declared.crew.CrewOrder.{CrewOrder}
use Rattle.search_start.specs.Leaves.{open_path, IsWorkedOn}
use Rattle.cmd_solve.specs.Solves.{SolvesBlocked, SolvesOn, SolvesAt, SolvesBy, SolvesFrom, missing, refused, went_on}
use Rattle.cmd_solve.specs.Saves as saves
use Rattle.cmd_solve.specs.Saves.{LeavesAt, LeavesBy}
use Rattle.search_start.specs.declared.start.Start.TheVariants.{Ready, Refused}
use Rattle.search_start.specs.declared.start.Start.{Start}
use Rattle.cmd_solve.proofs.Told.{HasStatusOf, status_on, same_status}

-- one text in one file, whatever its name
abbrev file_of : List ℕ → Files
file_of text name = Some text

-- how a text is checked that is refused as a start: by the status 0 where its certificate is valid
abbrev checked_status : (b : BlockedProgram) (leaf : Option ℕ) (text : List ℕ) (status : ℕ) (report : List ℕ) → RefusesStart b leaf text status report → ℕ
checked_status b leaf text status report (faulty line kind fault is told) = 3
checked_status b leaf text status report (rejected cert line kind spelled has fault is told) = 6
checked_status b leaf text status report (too_deep cert line spelled has valid deep is told) = 0
checked_status b leaf text status report (no_leaf from number start named none is told) = 0

-- the status of a refusal by that of the check
abbrev status_by : ℕ → ℕ
status_by checked = if nat_eq checked 6 then 6 else 3

status_is : (b : BlockedProgram) (leaf : Option ℕ) (text : List ℕ) (status : ℕ) (report : List ℕ) (h : RefusesStart b leaf text status report)
    → status ≡ status_by (checked_status b leaf text status report h)
status_is b leaf text status report (faulty line kind fault is told) = is
status_is b leaf text status report (rejected cert line kind spelled has fault is told) = is
status_is b leaf text status report (too_deep cert line spelled has valid deep is told) = is
status_is b leaf text status report (no_leaf from number start named none is told) = is

record IsChecked (b : BlockedProgram) (text : List ℕ) (status : ℕ) : Type 0 where
  report : List ℕ
  answers : checks.ChecksBlocked (file_of text) [] b status report

valid_checked : (b : BlockedProgram) (text : List ℕ) (cert : Certificate) → IsFormed b → IsCertText (frame_for b) (cert_of cert) text → IsCertified b.named.program b.dec cert
    → IsChecked b text 0
valid_checked b text cert formed spelled valid = record {
  report = accepted_report cert.claim;
  answers = checks.accepted text cert refl spelled valid (certified_is_true_lem b.named.program b.dec cert formed.kept.closed valid) refl refl;
}

refused_checked : (b : BlockedProgram) (leaf : Option ℕ) (text : List ℕ) (status : ℕ) (report : List ℕ) → IsFormed b → (h : RefusesStart b leaf text status report)
    → IsChecked b text (checked_status b leaf text status report h)
refused_checked b leaf text status report formed (faulty line kind fault is told) =
    record { report = cert_refusal line kind; answers = checks.faulty text line kind refl fault refl refl }
refused_checked b leaf text status report formed (rejected cert line kind spelled has fault is told) =
    record { report = rejected_report line kind; answers = checks.rejected text cert line kind refl spelled has fault refl refl }
refused_checked b leaf text status report formed (too_deep cert line spelled has valid deep is told) = valid_checked b text cert formed spelled valid
refused_checked b leaf text status report formed (no_leaf from number start named none is told) = valid_checked b text start.cert formed start.spelled start.valid

one_status : (b : BlockedProgram) (text : List ℕ) (s t : ℕ) → IsChecked b text s → IsChecked b text t → s ≡ t
one_status b text s t x y = one_check (file_of text) [] b s t x.report y.report x.answers y.answers

-- a text is refused by one status
pub one_refusal : (b : BlockedProgram) (leaf : Option ℕ) (text : List ℕ) (s t : ℕ) (r q : List ℕ) → IsFormed b → RefusesStart b leaf text s r → RefusesStart b leaf text t q → s ≡ t
one_refusal b leaf text s t r q formed h g =
    status_is b leaf text s r h
    ∙ ap status_by (one_status b text (checked_status b leaf text s r h) (checked_status b leaf text t q g) (refused_checked b leaf text s r formed h) (refused_checked b leaf text t q formed g))
    ∙ sym (status_is b leaf text t q g)

-- a text has one certificate
one_certificate : (b : BlockedProgram) (text : List ℕ) (c d : Certificate) → IsCertText (frame_for b) (cert_of c) text → IsCertText (frame_for b) (cert_of d) text
    → HasItsPoint (named_value c.claim) c.point → HasItsPoint (named_value d.claim) d.point → c ≡ d
one_certificate b text c d spelled spelled' has has' =
    one_written c d has has' (certificates_are_one (frame_for b) (cert_of c) (cert_of d) text spelled spelled')

-- there is no place to work at where there is no such leaf
no_place : (tree : Tree) (leaf : Option ℕ) (below : Option (List Side)) (number : ℕ) → IsWorkedOn tree leaf below → leaf ≡ Some number → open_path tree number ≡ None → ⊥
no_place tree leaf below number worked is none =
    let at : IsWorkedOn tree (Some number) below = subst (λ (l : Option ℕ). IsWorkedOn tree l below) is worked in
    let both : (let x : Option (List Side) = None in x) ≡ Some at.0 = sym none ∙ at.2 in
    absurd (cc)

-- no text is a start and refused as one
pub start_or_refused : (b : BlockedProgram) (leaf : Option ℕ) (text : List ℕ) (from : Loaded) (below : Option (List Side)) (s : ℕ) (r : List ℕ) → IsFormed b
    → IsStartAt b leaf text from below → RefusesStart b leaf text s r → ⊥
start_or_refused b leaf text from below s r formed at h =
    by h (one_status b text 0 _ (valid_checked b text at.start.cert formed at.start.spelled at.start.valid) (refused_checked b leaf text s r formed h))
  where
    by : (h : RefusesStart b leaf text s r) → 0 ≡ checked_status b leaf text s r h → ⊥
    by (faulty line kind fault is told) e = absurd (omega (arith, e))
    by (rejected cert line kind spelled has fault is told) e = absurd (omega (arith, e))
    by (too_deep cert line spelled has valid deep is told) e =
        let same : cert ≡ at.start.cert = one_certificate b text cert at.start.cert spelled at.start.spelled has at.start.has_point in
        loaded_is_low (with_cuts b at.start.cert.cuts) at.start.cert from line at.start.loaded (subst (λ (c : Certificate). IsTooDeep (with_cuts b c.cuts) c line) same deep)
    by (no_leaf other number start named none is told) e =
        let same : start.cert ≡ at.start.cert = one_certificate b text start.cert at.start.cert start.spelled at.start.spelled start.has_point at.start.has_point in
        no_place at.start.cert.tree leaf below number at.worked_on named (subst (λ (c : Certificate). open_path c.tree number ≡ None) same none)

one_text : (file : Option (List ℕ)) (t u : List ℕ) → file ≡ Some t → file ≡ Some u → t ≡ u
one_text file t u a b = cc

no_text : (file : Option (List ℕ)) (t : List ℕ) → file ≡ None → file ≡ Some t → ⊥
no_text file t a b = absurd (cc)

-- ---- one status

-- where a file is a start, the status of the search alone is right: it is that of the outcome that is kept
pub went_only : (files : Files) (name : List ℕ) (leaf given : Option ℕ) (cuts : ℕ) (kept : Option Outcome) (b c : BlockedProgram) (text : List ℕ) (from : Loaded) (below : Option (List Side)) (status : ℕ)
    (tells : Bool) (before now : List ℕ) → IsFormed b → files name ≡ Some text → IsStartAt b leaf text from below
    → AnswersBy (SolvesOn from.grove.tree below given kept c) status tells before now → IsOnly (SolvesFrom files name leaf given cuts kept b) status
went_only files name leaf given cuts kept b c text from below status tells before now formed there start answers = λ no_read no_write no_want meant report right.
    let answer = answers no_read no_write no_want in
    by meant report (status_on c from.grove.tree below given kept status answer.0 answer.1) right
  where
    by : (meant : ℕ) (report : List ℕ) → HasStatusOf kept status → SolvesFrom files name leaf given cuts kept b meant report → status ≡ meant
    by meant report here (missing none nothing is told) = absurd (no_text (files name) text none there)
    by meant report here (refused text' there' nothing refuses) =
        absurd (start_or_refused b leaf text from below meant report formed start
        (subst (λ (t : List ℕ). RefusesStart b leaf t meant report) (one_text (files name) text' text there' there) refuses))
    by meant report here (went_on text' from' below' other there' start' over' solves) =
        same_status kept status meant here (status_on other from'.grove.tree below' given kept meant report solves)

-- the same from the start
pub fresh_only : (files : Files) (leaf given : Option ℕ) (cuts : ℕ) (kept : Option Outcome) (b c : BlockedProgram) (status : ℕ) (tells : Bool) (before now : List ℕ)
    → AnswersBy (SolvesBlocked (given_steps given) given kept c) status tells before now → IsOnly (SolvesBy files None leaf given cuts kept b) status
fresh_only files leaf given cuts kept b c status tells before now answers = λ no_read no_write no_want meant report right.
    let answer = answers no_read no_write no_want in
    same_status kept status meant (answer.1.outcome, answer.1.is_kept, answer.1.has_status) (right.solves.outcome, right.solves.is_kept, right.solves.has_status)

-- where a file is refused as a start, the status of the refusal alone is right
pub refused_only : (files : Files) (name : List ℕ) (leaf given : Option ℕ) (cuts : ℕ) (kept : Option Outcome) (b : BlockedProgram) (text : List ℕ) (status end : ℕ) (report : List ℕ) → IsFormed b
    → files name ≡ Some text → RefusesStart b leaf text end report → (status ≡ end) ⊎ (status ≡ 8) → IsOnly (SolvesFrom files name leaf given cuts kept b) status
refused_only files name leaf given cuts kept b text status end report formed there refuses printed = λ no_read no_write no_want meant other right. ended printed no_write ∙ by meant other right
  where
    ended : (status ≡ end) ⊎ (status ≡ 8) → status ≢ 8 → status ≡ end
    ended (inl is) no_write = is
    ended (inr is) no_write = absurd (no_write is)

    by : (meant : ℕ) (other : List ℕ) → SolvesFrom files name leaf given cuts kept b meant other → end ≡ meant
    by meant other (missing none nothing is told) = absurd (no_text (files name) text none there)
    by meant other (refused text' there' nothing refuses') =
        one_refusal b leaf text end meant report other formed refuses
        (subst (λ (t : List ℕ). RefusesStart b leaf t meant other) (one_text (files name) text' text there' there) refuses')
    by meant other (went_on text' from below over there' start goes solves) =
        absurd (start_or_refused b leaf text from below end report formed
        (subst (λ (t : List ℕ). IsStartAt b leaf t from below) (one_text (files name) text' text there' there) start) refuses)

-- where a file isn't there, the status for that alone is right
pub missing_only : (files : Files) (name : List ℕ) (leaf given : Option ℕ) (cuts : ℕ) (kept : Option Outcome) (b : BlockedProgram) (status : ℕ)
    → files name ≡ None → status ≡ 11 → IsOnly (SolvesFrom files name leaf given cuts kept b) status
missing_only files name leaf given cuts kept b status none ended = λ no_read no_write no_want meant other right. ended ∙ by meant other right
  where
    by : (meant : ℕ) (other : List ℕ) → SolvesFrom files name leaf given cuts kept b meant other → 11 ≡ meant
    by meant other (missing none' nothing is told) = sym is
    by meant other (refused text there nothing refuses) = absurd (no_text (files name) text none there)
    by meant other (went_on text from below over there start goes solves) = absurd (no_text (files name) text none there)

-- ---- that a search may begin

pub can_begin : (c : BlockedProgram) (leaf : Option ℕ) (start : Start) (from : Option Loaded) (below : Option (List Side)) → start ≡ Ready c from below → CanBegin leaf start
    → IfSome from (IsLoaded c) × (leaf ≡ None → below ≡ None)
can_begin c leaf start from below is can = subst (CanBegin leaf) is can

-- a search works at a path only without a crew
pub alone_at : (leaf : Option ℕ) (below : Option (List Side)) (workers order : Option ℕ) → (leaf ≡ None → below ≡ None) → IfSome leaf (λ _. (workers ≡ None) × (order ≡ None))
    → IfSome below (λ _. (workers ≡ None) × (order ≡ None))
alone_at None None workers order placed alone = tt
alone_at None (Some path) workers order placed alone = let none = placed refl in absurd (cc)
alone_at (Some number) None workers order placed alone = tt
alone_at (Some number) (Some path) workers order placed alone = alone

pub no_crew : {A : Type 0} (leaf : Option A) (workers order : Option ℕ) (crew : Option CrewOrder) → crew ≡ ordered_crew workers order → IfSome leaf (λ _. (workers ≡ None) × (order ≡ None))
    → IfSome leaf (λ _. crew ≡ None)
no_crew None workers order crew is alone = tt
no_crew (Some number) workers order crew is alone =
    is ∙ ap (λ (w : Option ℕ). ordered_crew w order) alone.0 ∙ ap (λ (o : Option ℕ). ordered_crew None o) alone.1

-- ---- answers from where a search begins

-- where a search begins: at the start, or at what is loaded of a file; and the program that it is over
pub data ComesFrom (files : Files) (from : Option (List ℕ)) (leaf : Option ℕ) (cuts : ℕ) (b c : BlockedProgram) (start : Option Loaded) (below : Option (List Side)) : Type 0 where
  afresh : from ≡ None → start ≡ None → HasCuts b [] cuts c → ComesFrom files from leaf cuts b c start below
  resumed : (name text : List ℕ) (loaded : Loaded) → from ≡ Some name → files name ≡ Some text → start ≡ Some loaded → (at : IsStartAt b leaf text loaded below)
      → HasCuts b at.start.cert.cuts cuts c → ComesFrom files from leaf cuts b c start below

pub comes_from : (files : Files) (from : Option (List ℕ)) (leaf : Option ℕ) (cuts : ℕ) (b c : BlockedProgram) (start : Option Loaded) (below : Option (List Side))
    → HasStart files from leaf cuts b (Ready c start below) → ComesFrom files from leaf cuts b c start below
comes_from files None leaf cuts b c start below h = afresh refl h.0 h.2
comes_from files (Some name) leaf cuts b c start below h = resumed name h.0 h.2.0 refl h.1 h.2.1 h.2.2 h.2.3

-- the program that the search is over
pub begins : (files : Files) (from : Option (List ℕ)) (leaf : Option ℕ) (cuts : ℕ) (b c : BlockedProgram) (start : Option Loaded) (below : Option (List Side))
    → ComesFrom files from leaf cuts b c start below → BeginsBy files from cuts b c start
begins files from leaf cuts b c start below (afresh no_file none has) =
    subst (λ (f : Option (List ℕ)). BeginsBy files f cuts b c start) (sym no_file) (none, has)
begins files from leaf cuts b c start below (resumed name text loaded named there is at has) =
    subst (λ (f : Option (List ℕ)). BeginsBy files f cuts b c start) (sym named) (text, loaded, there, at.start, has, is)

-- what the search is answered is what the program in blocks is
pub solves_from : (files : Files) (from : Option (List ℕ)) (leaf given : Option ℕ) (cuts : ℕ) (kept : Option Outcome) (b c : BlockedProgram) (start : Option Loaded) (below : Option (List Side)) (status : ℕ) (report : List ℕ)
    → ComesFrom files from leaf cuts b c start below → SolvesAt start below given kept c status report → SolvesBy files from leaf given cuts kept b status report
solves_from files from leaf given cuts kept b c start below status report (afresh no_file none has) solves =
    subst (λ (f : Option (List ℕ)). SolvesBy files f leaf given cuts kept b status report) (sym no_file)
    (record { over = c; has_cuts = has; solves = subst (λ (s : Option Loaded). SolvesAt s below given kept c status report) none solves })
solves_from files from leaf given cuts kept b c start below status report (resumed name text loaded named there is at has) solves =
    subst (λ (f : Option (List ℕ)). SolvesBy files f leaf given cuts kept b status report) (sym named)
    (went_on text loaded below c there at has (subst (λ (s : Option Loaded). SolvesAt s below given kept c status report) is solves))

pub started_answers : (files : Files) (from : Option (List ℕ)) (leaf given : Option ℕ) (cuts : ℕ) (kept : Option Outcome) (b c : BlockedProgram) (start : Option Loaded) (below : Option (List Side)) (status : ℕ)
    (tells : Bool) (before now : List ℕ) → ComesFrom files from leaf cuts b c start below → AnswersBy (SolvesAt start below given kept c) status tells before now
    → AnswersBy (SolvesBy files from leaf given cuts kept b) status tells before now
started_answers files from leaf given cuts kept b c start below status tells before now come answers = λ no_read no_write no_want.
    let x = answers no_read no_write no_want in
    (x.0, solves_from files from leaf given cuts kept b c start below status x.0 come x.1, x.2)

pub started_only : (files : Files) (from : Option (List ℕ)) (leaf given : Option ℕ) (cuts : ℕ) (kept : Option Outcome) (b c : BlockedProgram) (start : Option Loaded) (below : Option (List Side)) (status : ℕ)
    (tells : Bool) (before now : List ℕ) → IsFormed b → ComesFrom files from leaf cuts b c start below → AnswersBy (SolvesAt start below given kept c) status tells before now
    → IsOnly (SolvesBy files from leaf given cuts kept b) status
started_only files from leaf given cuts kept b c start below status tells before now formed (afresh no_file none has) answers =
    subst (λ (f : Option (List ℕ)). IsOnly (SolvesBy files f leaf given cuts kept b) status) (sym no_file)
    (fresh_only files leaf given cuts kept b c status tells before now
    (subst (λ (s : Option Loaded). AnswersBy (SolvesAt s below given kept c) status tells before now) none answers))
started_only files from leaf given cuts kept b c start below status tells before now formed (resumed name text loaded named there is at has) answers =
    subst (λ (f : Option (List ℕ)). IsOnly (SolvesBy files f leaf given cuts kept b) status) (sym named)
    (went_only files name leaf given cuts kept b c text loaded below status tells before now formed there at
    (subst (λ (s : Option Loaded). AnswersBy (SolvesAt s below given kept c) status tells before now) is answers))

pub started_cut : (files : Files) (from : Option (List ℕ)) (leaf given : Option ℕ) (cuts : ℕ) (b c : BlockedProgram) (start : Option Loaded) (below : Option (List Side)) (status : ℕ) (lost : Option (Vec ℕ Global)) (tells : Bool) (before now : List ℕ)
    → ComesFrom files from leaf cuts b c start below → CutsOff (λ kept. SolvesAt start below given kept c) status lost tells before now
    → CutsOff (λ kept. SolvesBy files from leaf given cuts kept b) status lost tells before now
started_cut files from leaf given cuts b c start below status lost tells before now come cut = λ is_fault.
    let x = cut is_fault in
    (x.0, x.1, x.2, x.3, solves_from files from leaf given cuts x.0 b c start below x.1 x.2.items come x.4, x.5)

pub started_leaves : (files : Files) (from : Option (List ℕ)) (leaf given : Option ℕ) (cuts : ℕ) (cert : Option (List ℕ)) (now : Files) (b c : BlockedProgram) (start : Option Loaded) (below : Option (List Side))
    → ComesFrom files from leaf cuts b c start below → LeavesAt start below given cert now c → LeavesBy files from leaf given cuts cert now b
started_leaves files from leaf given cuts cert now b c start below (afresh no_file none has) leaves =
    subst (λ (f : Option (List ℕ)). LeavesBy files f leaf given cuts cert now b) (sym no_file)
    (record { over = c; has_cuts = has; leaves = subst (λ (s : Option Loaded). LeavesAt s below given cert now c) none leaves })
started_leaves files from leaf given cuts cert now b c start below (resumed name text loaded named there is at has) leaves =
    subst (λ (f : Option (List ℕ)). LeavesBy files f leaf given cuts cert now b) (sym named)
    (saves.went_on text loaded below c there at has (subst (λ (s : Option Loaded). LeavesAt s below given cert now c) is leaves))

-- the file that is refused as a start
pub record IsRefusedFrom (files : Files) (from : Option (List ℕ)) (leaf : Option ℕ) (b : BlockedProgram) (reply : Reply) : Type 0 where
  pub name : List ℕ
  pub text : List ℕ
  pub named : from ≡ Some name
  pub there : files name ≡ Some text
  pub refuses : RefusesStart b leaf text reply.status reply.report.items

pub refused_from : (files : Files) (from : Option (List ℕ)) (leaf : Option ℕ) (cuts : ℕ) (b : BlockedProgram) (reply : Reply) → HasStart files from leaf cuts b (Refused reply)
    → IsRefusedFrom files from leaf b reply
refused_from files None leaf cuts b reply h = absurd h
refused_from files (Some name) leaf cuts b reply h = record { name = name; text = h.0; named = refl; there = h.1; refuses = h.2 }

-- answers where a file is refused as a start
pub refused_answers : (files : Files) (from : Option (List ℕ)) (leaf given : Option ℕ) (cuts : ℕ) (kept : Option Outcome) (b : BlockedProgram) (reply : Reply) (status : ℕ) (tells : Bool) (before now : List ℕ)
    → IsRefusedFrom files from leaf b reply → (status ≡ reply.status) ⊎ (status ≡ 8) → (status ≢ 8 → kept ≡ None) → (IsTrue tells → status ≢ 8 → now ≡ before ++ reply.report.items)
    → AnswersBy (SolvesBy files from leaf given cuts kept b) status tells before now
refused_answers files from leaf given cuts kept b reply status tells before now come is is_kept whole = λ no_read no_write no_want. (
  reply.report.items,
  subst (λ (f : Option (List ℕ)). SolvesBy files f leaf given cuts kept b status reply.report.items) (sym come.named)
      (refused come.text come.there (is_kept no_write)
      (subst (λ (s : ℕ). RefusesStart b leaf come.text s reply.report.items) (sym (printed_status status reply.status is no_write)) come.refuses)),
  λ told. whole told no_write,
)

pub refusal_only : (files : Files) (from : Option (List ℕ)) (leaf given : Option ℕ) (cuts : ℕ) (kept : Option Outcome) (b : BlockedProgram) (reply : Reply) (status : ℕ) → IsFormed b
    → IsRefusedFrom files from leaf b reply → (status ≡ reply.status) ⊎ (status ≡ 8) → IsOnly (SolvesBy files from leaf given cuts kept b) status
refusal_only files from leaf given cuts kept b reply status formed come is =
    subst (λ (f : Option (List ℕ)). IsOnly (SolvesBy files f leaf given cuts kept b) status) (sym come.named)
    (refused_only files come.name leaf given cuts kept b come.text status reply.status reply.report.items formed come.there come.refuses is)

pub refused_cut : (files : Files) (from : Option (List ℕ)) (leaf given : Option ℕ) (cuts : ℕ) (b : BlockedProgram) (reply : Reply) (status : ℕ) (lost : Option (Vec ℕ Global)) (tells : Bool) (before now : List ℕ)
    → IsRefusedFrom files from leaf b reply → (status ≡ 8 → lost ≡ Some reply.report) → (IsTrue tells → status ≡ 8 → (count : ℕ) × (now ≡ before ++ take count reply.report.items))
    → CutsOff (λ kept. SolvesBy files from leaf given cuts kept b) status lost tells before now
refused_cut files from leaf given cuts b reply status lost tells before now come gone partly = λ is_fault. (
  None,
  reply.status,
  reply.report,
  gone is_fault,
  subst (λ (f : Option (List ℕ)). SolvesBy files f leaf given cuts None b reply.status reply.report.items) (sym come.named) (refused come.text come.there refl come.refuses),
  (λ heard. partly heard is_fault),
)

pub refused_leaves : (files : Files) (from : Option (List ℕ)) (leaf given : Option ℕ) (cuts : ℕ) (cert : Option (List ℕ)) (now : Files) (b : BlockedProgram) (reply : Reply)
    → IsRefusedFrom files from leaf b reply → now ≡ files → LeavesBy files from leaf given cuts cert now b
refused_leaves files from leaf given cuts cert now b reply come same =
    subst (λ (f : Option (List ℕ)). LeavesBy files f leaf given cuts cert now b) (sym come.named) (saves.refused come.text reply.status reply.report.items come.there come.refuses same)

-- the file isn't there, or couldn't be read
lacks_name : (files : Files) (from : Option (List ℕ)) → LacksStart files from → (name : List ℕ) × (from ≡ Some name) × (files name ≡ None)
lacks_name files None h = absurd h
lacks_name files (Some name) h = (name, refl, h)

pub fault_answers : (files : Files) (from : Option (List ℕ)) (leaf given : Option ℕ) (cuts : ℕ) (kept : Option Outcome) (b : BlockedProgram) (fault : ShelfFault) (status : ℕ) (tells : Bool) (before now : List ℕ)
    → (fault ≡ Missing → LacksStart files from) → status ≡ status_of fault → kept ≡ None → now ≡ before → AnswersBy (SolvesBy files from leaf given cuts kept b) status tells before now
fault_answers files from leaf given cuts kept b Missing status tells before now lacks is none same = λ no_read no_write no_want.
    let found = lacks_name files from (lacks refl) in (
      [],
      subst (λ (f : Option (List ℕ)). SolvesBy files f leaf given cuts kept b status []) (sym found.1) (missing found.2 none is refl),
      λ told. same ∙ sym (append-nil before),
    )
fault_answers files from leaf given cuts kept b Failed status tells before now lacks is none same = λ no_read no_write no_want. absurd (no_read is)
fault_answers files from leaf given cuts kept b NoMemory status tells before now lacks is none same = λ no_read no_write no_want. absurd (no_want is)

pub fault_only : (files : Files) (from : Option (List ℕ)) (leaf given : Option ℕ) (cuts : ℕ) (kept : Option Outcome) (b : BlockedProgram) (fault : ShelfFault) (status : ℕ)
    → (fault ≡ Missing → LacksStart files from) → status ≡ status_of fault → IsOnly (SolvesBy files from leaf given cuts kept b) status
fault_only files from leaf given cuts kept b Missing status lacks is =
    let found = lacks_name files from (lacks refl) in
    subst (λ (f : Option (List ℕ)). IsOnly (SolvesBy files f leaf given cuts kept b) status) (sym found.1) (missing_only files found.0 leaf given cuts kept b status found.2 is)
fault_only files from leaf given cuts kept b Failed status lacks is = λ no_read no_write no_want meant report right. absurd (no_read is)
fault_only files from leaf given cuts kept b NoMemory status lacks is = λ no_read no_write no_want meant report right. absurd (no_want is)
