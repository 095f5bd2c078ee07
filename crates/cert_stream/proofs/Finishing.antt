-- A checker at the end of its text.
use Rattle.std.proofs.Common.{◌≡◌, refl, sym, ap, subst, ◌∙◌, ℕ, ◌+◌, List, [], ◌∷◌, ◌++◌, map, length, Option, Some, None, Result, Ok, Err, arith}
use Rattle.std.proofs.Math.IntN.{ℤ}
use Rattle.std.specs.List.{AllByRecursion}
use Rattle.bp_theory.specs.Blocking.{Blocking}
use Rattle.bp_theory.specs.Trees.{Tree}
use Rattle.bp_theory.specs.Judgement.{Line, tree_lines, Passes}
use Rattle.bp_theory.specs.declared.Claim.{Claim}
use Rattle.bp_theory.specs.declared.Cut.{Cut}
use Rattle.block_program.specs.Blocked.{BlockedProgram, IsFormed}
use Rattle.cert_format.specs.Cert as texts
use Rattle.cert_format.specs.Fault.{IsCertText, IsFirstCertFault}
use Rattle.cert_format.specs.Frames.{frame_of}
use Rattle.cert_text.specs.Programs.{frame_for, GoesWith}
use Rattle.cert_format.specs.Stages.{Wait}
use Rattle.cert_parser.specs.Standing.{StandsFor, EndsWell}
use Rattle.cert_parser.specs.Telling.{past, phase_at, phase_of}
use Rattle.cert_format.specs.Written.{written_cut, written_tree, cert_of, certificate}
use Rattle.cert_format.specs.declared.fault.CertFault.{CertFault}
use Rattle.cert_format.specs.declared.fault.CertFault.TheVariants as c
use Rattle.cert_format.specs.declared.frame.Frame.{Frame}
use Rattle.cert_parser.specs.declared.lines.Lines.{Lines}
use Rattle.cert_parser.proofs.Finishing.{read_whole}
use Rattle.cert_text.proofs.GoesWithProof.{text_goes_with}
use Rattle.cert_format.proofs.LawProofs.{seen_faults_are_first}
use Rattle.cert_line_check.specs.Cutting.{blocking_over}
use Rattle.cert_line_check.specs.Judging.{IsLeft}
use Rattle.cert_check.specs.Judging.{stopped_at}
use Rattle.cert_check.specs.declared.judge.Judged.{Judged}
use Rattle.cert_check.specs.declared.judge.Judged.TheVariants.{Accepted}
use Rattle.cert_line_check.specs.declared.place.NodePlace.{NodePlace}
use Rattle.cert_line_check.specs.declared.place.Stop.{Stop}
use Rattle.cert_line_check.proofs.Lines.{second_all}
use Rattle.cert_line_check.proofs.LineVisits.{split_visits, lines_once}
use Rattle.cert_line_check.proofs.Heads.{heads_of, heads_left, cuts_over, goes_fit}
use Rattle.cert_check.proofs.Wholes.{judged_by, ended, never_accepted}
use Rattle.cert_walk.specs.Turns.{Turn, wait_of}
use Rattle.cert_walk.specs.Walks.{whole, Judges}
use Rattle.cert_stream.specs.Checks.{IsMadeFor, front_of, IsJudgedTo, HasJudged, StandsBy, ChecksFor, Finishes}
use Rattle.cert_stream.specs.Faults.{fault_as}
use Rattle.cert_stream.specs.declared.fault.FeedFault.{FeedFault}
use Rattle.cert_stream.specs.declared.fault.FeedFault.TheVariants as f
use Rattle.cert_stream.specs.declared.checker.Checker.{Checker}
use Rattle.cert_walk.specs.declared.path.Path.{Path}
use Rattle.cert_walk.specs.declared.walk.Walk.{Walk}
use Rattle.cert_walk.specs.declared.walk.Walk.TheVariants.{At, Ended, Misfit}

first_all : {X : Type 0} (P : X → Type 0) (xs ys : List X) → AllByRecursion P (xs ++ ys) → AllByRecursion P xs
first_all P [] ys h = tt
first_all P (x ∷ xs) ys h = (h.0, first_all P xs ys h.1)

-- the lines in front of a tree take no visits
rest_left : (b : BlockedProgram) (k : Blocking) (claim : Claim) (zs : List ℤ) (cuts : List Cut) (lines : List Line) (visits now : Option ℕ)
    → IsLeft b.named.program.spans k (heads_of b claim zs cuts ++ lines) visits now → IsLeft b.named.program.spans k lines visits now
rest_left b k claim zs cuts lines None now h = h
rest_left b k claim zs cuts lines (Some most) now h =
    let root = b.named.program.spans in
    let parts = split_visits root k (heads_of b claim zs cuts) lines h.0 h.2 in
    let heads = heads_left b k claim zs cuts (Some most) in
    let same : Some most ≡ Some heads.1 = heads.3 in
    let equal : most ≡ heads.1 = cc in
    let none : parts.0 ≡ heads.0 = lines_once root k (heads_of b claim zs cuts) parts.0 heads.0 parts.2 heads.2 in
    (parts.1, h.1, parts.3, h.3, omega (arith, h.4, parts.4, none, heads.4, equal))

-- what a text is whose lines have all come
record Came (b : BlockedProgram) (visits : Option ℕ) (claim : Claim) (zs : List ℤ) (cuts : List Cut) (root : Tree) (walk : Walk) (text : List ℕ) : Type 0 where
  formed : IsFormed b
  spells : IsCertText (frame_for b) (cert_of (certificate claim zs cuts root)) text
  goes : GoesWith b (certificate claim zs cuts root)
  judges : Judges b.named.program (blocking_over b cuts) claim (front_of b zs cuts) visits (whole root) walk

-- all lines pass
accepted : (b : BlockedProgram) (visits : Option ℕ) (claim : Claim) (zs : List ℤ) (cuts : List Cut) (root : Tree) (path : Path) (text : List ℕ)
    → Came b visits claim zs cuts root (At path) text → Finishes b visits text (Ok (Accepted claim))
accepted b visits claim zs cuts root path text h =
    let p = b.named.program in
    let heads : List Line = heads_of b claim zs cuts in
    let nodes : List Line = tree_lines root p.spans in
    let P : Line → Type 0 = Passes p (blocking_over b cuts) claim in
    let now : NodePlace = record { zone = p.spans; line = 3 + length heads + length nodes; left = path.place.left } in
    let both = judged_by b h.formed claim zs cuts root (3 + length heads) visits (Ok now) refl (first_all P heads nodes h.judges.1)
    (refl, refl, second_all P heads nodes h.judges.1, rest_left b (blocking_over b cuts) claim zs cuts nodes visits path.place.left h.judges.2) in
    (claim, zs, cuts, root, h.spells, h.goes, both.0, both.1)

-- a line ended the judgement
stopped_so : (b : BlockedProgram) (visits : Option ℕ) (claim : Claim) (zs : List ℤ) (cuts : List Cut) (root : Tree) (stop : Stop) (text : List ℕ)
    → Came b visits claim zs cuts root (Ended stop) text → Finishes b visits text (Ok (stopped_at stop.line stop.fault))
stopped_so b visits claim zs cuts root stop text h =
    (claim, zs, cuts, root, h.spells, h.goes, ended b claim zs cuts root visits stop.line stop.fault h.judges, never_accepted b.named.program stop.line stop.fault)

-- all can be judged
none_misfits : (b : BlockedProgram) (visits : Option ℕ) (claim : Claim) (zs : List ℤ) (cuts : List Cut) (root : Tree) (text : List ℕ) → Came b visits claim zs cuts root Misfit text → ⊥
none_misfits b visits claim zs cuts root text h =
    h.judges h.goes.claim (h.goes.few, cuts_over b.named.program b.dec [] cuts h.goes.cuts) (goes_fit b claim zs cuts root h.goes)

came_whole : (b : BlockedProgram) (visits : Option ℕ) (checker : Checker) (lines : Lines) (text : List ℕ) (ts : List Turn) (root : Tree) (cuts : List Cut) → IsMadeFor b checker
    → HasJudged b visits checker text ts root cuts → lines ≡ checker.lines → EndsWell (map wait_of ts) (written_tree root) (map written_cut cuts) checker.frame lines text (Ok tt)
    → Came b visits checker.lines.claim checker.lines.point cuts root checker.walk text
came_whole b visits checker lines text ts root cuts made h same ends =
    let E : Lines → Type 0 = λ r. EndsWell (map wait_of ts) (written_tree root) (map written_cut cuts) checker.frame r text (Ok tt) in
    let there : E checker.lines = subst E same ends in
    let over : phase_of checker.lines ≡ past = ap phase_at there.2 in
    let judged : IsJudgedTo b visits checker ts root cuts past = subst (IsJudgedTo b visits checker ts root cuts) over h.judged in
    let F : texts.Frame → Type 0 = λ x. IsCertText x (cert_of (certificate checker.lines.claim checker.lines.point cuts root)) text in
    let spells : IsCertText (frame_for b) (cert_of (certificate checker.lines.claim checker.lines.point cuts root)) text =
    subst F made.frame (read_whole (map wait_of ts) (written_tree root) (map written_cut cuts) checker.frame checker.lines text cuts root there.0 there.1 there.2 refl refl) in
    record {
      formed = made.formed;
      spells = spells;
      goes = text_goes_with b made.formed checker.lines.claim checker.lines.point cuts root text (omega (arith, made.few, h.fed)) spells;
      judges = judged.1;
    }

-- what a checker has that keeps no fault
judged_so : (b : BlockedProgram) (visits : Option ℕ) (checker : Checker) (text : List ℕ) → checker.fault ≡ None → ChecksFor b visits checker text
    → (ts : List Turn) × (root : Tree) × (cuts : List Cut) × HasJudged b visits checker text ts root cuts
judged_so b visits checker text none h = subst (StandsBy b visits checker text) none h

abbrev pub Ends : Checker → Lines → Result (Unit {0}) CertFault → Type 0
Ends checker lines result = (above : List Wait) (root : texts.Tree) (cuts : List texts.Cut) (text : List ℕ) → StandsFor above root cuts checker.frame checker.lines text
    → EndsWell above root cuts checker.frame lines text result

-- the text ends in a certificate
whole_so : (b : BlockedProgram) (visits : Option ℕ) (checker : Checker) (lines : Lines) (text : List ℕ) (walk : Walk) → IsMadeFor b checker → checker.fault ≡ None
    → ChecksFor b visits checker text → lines ≡ checker.lines → Ends checker lines (Ok tt) → checker.walk ≡ walk
    → (cuts : List Cut) × (root : Tree) × Came b visits checker.lines.claim checker.lines.point cuts root walk text
whole_so b visits checker lines text walk made none h same ends is =
    let so = judged_so b visits checker text none h in
    let well = ends (map wait_of so.0) (written_tree so.1) (map written_cut so.2) text so.3.reads in (
      so.2,
      so.1,
      subst (λ (w : Walk). Came b visits checker.lines.claim checker.lines.point so.2 so.1 w text) is
          (came_whole b visits checker lines text so.0 so.1 so.2 made so.3 same well),
    )

pub accepts : (b : BlockedProgram) (visits : Option ℕ) (checker : Checker) (lines : Lines) (text : List ℕ) (path : Path) (claim : Claim) → IsMadeFor b checker → checker.fault ≡ None
    → ChecksFor b visits checker text → lines ≡ checker.lines → Ends checker lines (Ok tt) → checker.walk ≡ At path → claim ≡ lines.claim
    → Finishes b visits text (Ok (Accepted claim))
accepts b visits checker lines text path claim made none h same ends is named =
    let so = whole_so b visits checker lines text (At path) made none h same ends is in
    let there : claim ≡ checker.lines.claim = named ∙ ap (λ (r : Lines). r.claim) same in
    subst (λ (k : Claim). Finishes b visits text (Ok (Accepted k))) (sym there) (accepted b visits checker.lines.claim checker.lines.point so.0 so.1 path text so.2)

pub stops : (b : BlockedProgram) (visits : Option ℕ) (checker : Checker) (lines : Lines) (text : List ℕ) (stop : Stop) (judged : Judged) → IsMadeFor b checker → checker.fault ≡ None
    → ChecksFor b visits checker text → lines ≡ checker.lines → Ends checker lines (Ok tt) → checker.walk ≡ Ended stop → judged ≡ stopped_at stop.line stop.fault
    → Finishes b visits text (Ok judged)
stops b visits checker lines text stop judged made none h same ends is told =
    let so = whole_so b visits checker lines text (Ended stop) made none h same ends is in
    subst (λ (j : Judged). Finishes b visits text (Ok j)) (sym told) (stopped_so b visits checker.lines.claim checker.lines.point so.0 so.1 stop text so.2)

pub never_misfits : (b : BlockedProgram) (visits : Option ℕ) (checker : Checker) (lines : Lines) (text : List ℕ) → IsMadeFor b checker → checker.fault ≡ None
    → ChecksFor b visits checker text → lines ≡ checker.lines → Ends checker lines (Ok tt) → checker.walk ≡ Misfit → ⊥
never_misfits b visits checker lines text made none h same ends is =
    let so = whole_so b visits checker lines text Misfit made none h same ends is in
    none_misfits b visits checker.lines.claim checker.lines.point so.0 so.1 text so.2

-- the text ends in a fault
ends_so : (b : BlockedProgram) (visits : Option ℕ) (above : List Wait) (root : texts.Tree) (cuts : List texts.Cut) (frame : Frame) (lines : Lines) (text : List ℕ) (fault : CertFault) → frame_of frame ≡ frame_for b
    → EndsWell above root cuts frame lines text (Err fault) → Finishes b visits text (Err (fault_as fault))
ends_so b visits above root cuts frame lines text c.NoMemory same well = tt
ends_so b visits above root cuts frame lines text (c.At line kind) same well = subst (λ (x : texts.Frame). IsFirstCertFault x text line kind) same well

pub faults_at_end : (b : BlockedProgram) (visits : Option ℕ) (checker : Checker) (lines : Lines) (text : List ℕ) (fault : CertFault) → IsMadeFor b checker → checker.fault ≡ None
    → ChecksFor b visits checker text → Ends checker lines (Err fault) → Finishes b visits text (Err (fault_as fault))
faults_at_end b visits checker lines text fault made none h ends =
    let so = judged_so b visits checker text none h in
    ends_so b visits (map wait_of so.0) (written_tree so.1) (map written_cut so.2) checker.frame lines text fault made.frame
    (ends (map wait_of so.0) (written_tree so.1) (map written_cut so.2) text so.3.reads)

-- a fault that is kept is the first one
pub kept_fault : (b : BlockedProgram) (visits : Option ℕ) (checker : Checker) (text : List ℕ) (fault : FeedFault) → checker.fault ≡ Some fault → ChecksFor b visits checker text
    → Finishes b visits text (Err fault)
kept_fault b visits checker text fault is h = by fault (subst (StandsBy b visits checker text) is h)
  where
    by : (x : FeedFault) → StandsBy b visits checker text (Some x) → Finishes b visits text (Err x)
    by f.NoMemory h = tt
    by (f.At line kind) h = seen_faults_are_first (frame_for b) text line kind h
