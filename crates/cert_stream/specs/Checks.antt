-- For which texts a checker stands, and what it answers.
use Rattle.std.specs.Prelude.{◌≡◌, ℕ, ℤ, suc, ◌+◌, ◌-◌, ◌^◌, ◌≤◌, ◌<◌, min, List, [], ◌∷◌, ◌++◌, map, length, Option, Some, None, IfSome, Result, Ok, Err}
use Rattle.bp_theory.specs.Limits.{greatest_depth}
use Rattle.bp_theory.specs.Blocking.{Blocking}
use Rattle.bp_theory.specs.Trees.{Tree}
use Rattle.bp_theory.specs.declared.Claim.{Claim}
use Rattle.bp_theory.specs.declared.Cut.{Cut}
use Rattle.block_program.specs.Blocked.{BlockedProgram, IsFormed}
use Rattle.cert_format.specs.Fault.{IsCertText, IsFirstCertFault, IsSeenFault}
use Rattle.cert_format.specs.Frames.{frame_of}
use Rattle.cert_text.specs.Programs.{frame_for, GoesWith}
use Rattle.cert_parser.specs.Standing.{StandsFor}
use Rattle.cert_parser.specs.Telling.{Phase, ahead, cutting, within, past, phase_of, IsShallow}
use Rattle.cert_format.specs.Written.{written_cut, written_tree, cert_of, certificate}
use Rattle.block_pricers.specs.Forms.{forms_in}
use Rattle.block_pricers.specs.Works.{forms_of}
use Rattle.block_pricers.specs.declared.work.Work.{Work}
use Rattle.cert_line_check.specs.Cutting.{blocking_over}
use Rattle.cert_check.specs.Judging.{IsJudgedWithin, IsTrueIfAccepted}
use Rattle.cert_check.specs.declared.judge.Judged.{Judged}
use Rattle.cert_walk.specs.Turns.{Turn, to_low, to_high, wait_of}
use Rattle.cert_parser.specs.declared.lines.Event.{Event}
use Rattle.cert_parser.specs.declared.lines.Event.TheVariants as e
use Rattle.cert_walk.specs.Cuttings.{program_by, IsCutting, HoldsCuts}
use Rattle.cert_walk.specs.Walks.{whole, Front, Judges, WalksBelow, WalksBehind, IsFresh, IsWalkIn, IsWithin, leaf_with}
use Rattle.cert_walk.specs.declared.cutting.Cutting.{Cutting}
use Rattle.cert_walk.specs.declared.walk.Walk.{Walk}
use Rattle.cert_stream.specs.declared.fault.FeedFault.{FeedFault}
use Rattle.cert_stream.specs.declared.fault.FeedFault.TheVariants.{At, NoMemory}
use Rattle.cert_stream.specs.declared.checker.Checker.{Checker}

-- what a checker keeps besides the text's place: cuts that passed, pricers of the program that leaves are judged over, and a
-- place in the root's zone
pub record Keeps (b : BlockedProgram) (cuts : Cutting) (work : Option Work) (walk : Walk) : Type 0 where
  pub passed : IsCutting b cuts
  pub made : IfSome work (λ made. forms_of made ≡ forms_in (program_by b cuts.program))
  pub inside : IsWalkIn b.named.program.spans walk

-- a checker was made for a program in blocks, which has no cuts
pub record IsMadeFor (b : BlockedProgram) (c : Checker) : Type 0 where
  pub formed : IsFormed b
  pub uncut : b.cuts ≡ []
  pub frame : frame_of c.frame ≡ frame_for b
  pub keeps : Keeps b c.cuts c.work c.walk
  pub line : IsWithin (3 + c.fed) c.walk
  pub few : c.fed < 2 ^ 63

-- how many high parts are still to come below these splits
abbrev pub highs : List Turn → ℕ
highs [] = 0
highs (to_low v at ∷ ts) = suc (highs ts)
highs (to_high v at low ∷ ts) = highs ts

-- what stands in front of a tree
abbrev pub front_of : BlockedProgram → List ℤ → List Cut → Front
front_of b zs cuts = record { point = zs; dec = b.dec; cuts = cuts }

-- nothing has been judged
pub record IsUnbegun (b : BlockedProgram) (visits : Option ℕ) (c : Cutting) (walk : Walk) : Type 0 where
  pub unmade : c.program ≡ None
  pub none : c.cuts ≡ []
  pub fresh : IsFresh b.named.program.spans visits walk

-- the lines of a point and of these cuts have been judged, whatever cuts follow
pub record IsInFront (b : BlockedProgram) (claim : Claim) (zs : List ℤ) (cuts : List Cut) (visits : Option ℕ) (c : Cutting) (walk : Walk) : Type 0 where
  pub unmade : c.program ≡ None
  pub holds : HoldsCuts c cuts walk
  pub walks : (k : Blocking) → WalksBelow b.named.program k claim (front_of b zs cuts) visits [] walk

-- and those of the tree up to its next node, which is below these splits
pub record IsInTree (b : BlockedProgram) (claim : Claim) (zs : List ℤ) (cuts : List Cut) (visits : Option ℕ) (ts : List Turn) (c : Cutting) (walk : Walk) : Type 0 where
  pub holds : HoldsCuts c cuts walk
  pub walks : WalksBelow b.named.program (blocking_over b cuts) claim (front_of b zs cuts) visits ts walk

-- and those of a whole part of the tree below these splits
pub record IsBehind (b : BlockedProgram) (claim : Claim) (zs : List ℤ) (cuts : List Cut) (visits : Option ℕ) (ts : List Turn) (t : Tree) (c : Cutting) (walk : Walk) : Type 0 where
  pub holds : HoldsCuts c cuts walk
  pub walks : WalksBehind b.named.program (blocking_over b cuts) claim (front_of b zs cuts) visits ts t walk

-- what has been judged, by how far the text has come
abbrev pub IsJudgedTo : BlockedProgram → (visits : Option ℕ) → Checker → List Turn → Tree → List Cut → Phase → Type 0
IsJudgedTo b visits c ts root cuts ahead = (ts ≡ []) × (cuts ≡ []) × IsUnbegun b visits c.cuts c.walk
IsJudgedTo b visits c ts root cuts cutting = (ts ≡ []) × IsInFront b c.lines.claim c.lines.point cuts visits c.cuts c.walk
IsJudgedTo b visits c ts root cuts within = IsInTree b c.lines.claim c.lines.point cuts visits ts c.cuts c.walk
IsJudgedTo b visits c ts root cuts past =
    (ts ≡ []) × Judges b.named.program (blocking_over b cuts) c.lines.claim (front_of b c.lines.point cuts) visits (whole root) c.walk

-- a checker has read and judged a text with these cuts, whose next node is below these splits, or whose tree is this root
pub record HasJudged (b : BlockedProgram) (visits : Option ℕ) (c : Checker) (text : List ℕ) (ts : List Turn) (root : Tree) (cuts : List Cut) : Type 0 where
  pub reads : StandsFor (map wait_of ts) (written_tree root) (map written_cut cuts) c.frame c.lines text
  pub shallow : IsShallow b.named.program.limits c.lines
  pub few : length ts ≤ greatest_depth b.named.program.limits + 1
  pub held : c.held ≡ highs ts
  pub fed : c.fed ≡ length text
  pub judged : IsJudgedTo b visits c ts root cuts (phase_of c.lines)

-- what a line does to the judgement
abbrev pub TakesEvent : BlockedProgram → Claim → List ℤ → (had has : Cutting) → (old new : Walk) → Event → Type 0
TakesEvent b claim zs had has old new e.Claim = (visits : Option ℕ) → IsUnbegun b visits had old → IsInFront b claim zs [] visits has new
TakesEvent b claim zs had has old new (e.Cut cut) =
    (visits : Option ℕ) (cuts : List Cut) → IsInFront b claim zs cuts visits had old → IsInFront b claim zs (cuts ++ cut ∷ []) visits has new
TakesEvent b claim zs had has old new (e.Split p) =
    (visits : Option ℕ) (cuts : List Cut) (ts : List Turn) → IsInTree b claim zs cuts visits ts had old
    → IsInTree b claim zs cuts visits (to_low p.var p.at ∷ ts) has new
TakesEvent b claim zs had has old new (e.Leaf is_open proof) =
    (visits : Option ℕ) (cuts : List Cut) (ts : List Turn) → IsInTree b claim zs cuts visits ts had old
    → IsBehind b claim zs cuts visits ts (leaf_with is_open proof) has new

-- how many high parts are still to come behind a line
abbrev pub held_after : ℕ → Event → ℕ
held_after held e.Claim = 0
held_after held (e.Cut cut) = held
held_after held (e.Split p) = min (held + 1) (2 ^ 64 - 1)
held_after held (e.Leaf is_open proof) = held - 1

-- by the fault that it keeps
abbrev pub StandsBy : BlockedProgram → (visits : Option ℕ) → Checker → List ℕ → Option FeedFault → Type 0
StandsBy b visits c text None = (ts : List Turn) × (root : Tree) × (cuts : List Cut) × HasJudged b visits c text ts root cuts
StandsBy b visits c text (Some NoMemory) = Unit {0}
StandsBy b visits c text (Some (At line kind)) = IsSeenFault (frame_for b) text line kind

-- a checker stands for a text: it has read and judged it, or it keeps the text's first fault, which no further bytes can mend; or memory
-- was wanting
abbrev pub ChecksFor : BlockedProgram → (visits : Option ℕ) → Checker → List ℕ → Type 0
ChecksFor b visits c text = StandsBy b visits c text c.fault

-- what feeding answers, by the fault that is kept
abbrev pub answer_by : Option FeedFault → Result (Unit {0}) FeedFault
answer_by None = Ok tt
answer_by (Some fault) = Err fault

-- what the end of a text answers: the certificate of the text as it is judged, or the text's first fault
abbrev pub Finishes : BlockedProgram → (visits : Option ℕ) → List ℕ → Result Judged FeedFault → Type 0
Finishes b visits text (Ok judged) =
    (claim : Claim) × (zs : List ℤ) × (cuts : List Cut) × (t : Tree) × IsCertText (frame_for b) (cert_of (certificate claim zs cuts t)) text
    × GoesWith b (certificate claim zs cuts t) × IsJudgedWithin b (certificate claim zs cuts t) visits judged × IsTrueIfAccepted b.named.program judged
Finishes b visits text (Err NoMemory) = Unit {0}
Finishes b visits text (Err (At line kind)) = IsFirstCertFault (frame_for b) text line kind
