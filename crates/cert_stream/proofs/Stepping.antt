-- A checker behind a byte, by what the byte ends.
use Rattle.std.proofs.Common.{◌≡◌, ⊎_elim, refl, sym, ap, subst, ◌∙◌, ℕ, suc, ◌+◌, ◌-◌, ◌^◌, ◌≤◌, ◌<◌, Bool, true, false, List, [], ◌∷◌, ◌++◌, map, length, min, Option, Some, None, Result, Ok, Err, arith, append_assoc, length-append, take, drop, get_or}
use Rattle.std.proofs.Math.IntN.{ℤ}
use Rattle.std.proofs.lemmas.Bool.{ltb-false}
use Rattle.std.proofs.lemmas.List.{take-append-drop, map-append}
use Rattle.bp_theory.specs.Limits.{greatest_depth}
use Rattle.bp_theory.specs.Program.{Program}
use Rattle.bp_theory.specs.Blocking.{Blocking}
use Rattle.bp_theory.specs.Trees.{Tree, shut_leaf, split}
use Rattle.bp_theory.specs.declared.Claim.{Claim}
use Rattle.bp_theory.specs.declared.Cut.{Cut}
use Rattle.bp_theory.specs.declared.Limits.{Limits}
use Rattle.bp_theory.specs.declared.Proof.{Proof}
use Rattle.bp_theory.specs.declared.Picked.TheVariants.{Every}
use Rattle.bp_theory.proofs.LimitLaws.{few_deep}
use Rattle.block_program.specs.Blocked.{BlockedProgram, IsFormed}
use Rattle.cert_format.specs.Cert as texts
use Rattle.cert_format.specs.Fault.{IsSeenFault}
use Rattle.cert_format.specs.Frames.{frame_of}
use Rattle.cert_text.specs.Programs.{frame_for}
use Rattle.cert_parser.specs.Readers as readers
use Rattle.cert_parser.specs.Readers.{kept_depth, highs_of}
use Rattle.cert_format.specs.Stages.{Wait, leaf_of}
use Rattle.cert_parser.specs.Standing.{StandsFor, Steps}
use Rattle.cert_parser.specs.Telling.{Phase, ahead, cutting, within, past, phase_of, phase_behind, HasSameClaim, StaysFrom, IsShallow, GoesOn, Passes, Tells}
use Rattle.cert_format.specs.Text.{is_deep}
use Rattle.cert_format.specs.Written.{written_cut, written_tree, written_proof}
use Rattle.cert_format.specs.declared.fault.CertFault.{CertFault}
use Rattle.cert_format.specs.declared.fault.CertFault.TheVariants as c
use Rattle.cert_format.specs.declared.frame.Frame.{Frame}
use Rattle.cert_parser.specs.declared.lines.Event.{Event}
use Rattle.cert_parser.specs.declared.lines.Event.TheVariants as e
use Rattle.cert_parser.specs.declared.lines.Lines.{Lines}
use Rattle.cert_parser.specs.declared.lines.SplitPlace.{SplitPlace}
use Rattle.cert_parser.proofs.Feeding.{joined}
use Rattle.cert_format.proofs.LawProofs.{seen_faults_stay}
use Rattle.cert_walk.specs.Turns.{Turn, to_low, to_high, turns_behind, root_behind, wait_of}
use Rattle.block_pricers.specs.declared.work.Work.{Work}
use Rattle.cert_line_check.specs.Cutting.{blocking_over}
use Rattle.cert_walk.specs.Cuttings.{program_by, cuts_by, cuts_in, IsCutting, HoldsCuts, IsClosed}
use Rattle.cert_walk.specs.Walks.{whole, Front, Judges, WalksBelow, WalksBehind, IsFresh, IsOn, GoesOver, IsWalkIn, IsWithin, leaf_with}
use Rattle.cert_stream.specs.Checks.{Keeps, IsMadeFor, highs, front_of, IsUnbegun, IsInFront, IsInTree, IsBehind, IsJudgedTo, HasJudged, TakesEvent, held_after, StandsBy, ChecksFor, answer_by}
use Rattle.cert_stream.specs.Faults.{fault_as}
use Rattle.cert_stream.specs.declared.fault.FeedFault.{FeedFault}
use Rattle.cert_stream.specs.declared.fault.FeedFault.TheVariants as f
use Rattle.cert_stream.specs.declared.checker.Checker.{Checker}
use Rattle.cert_walk.specs.declared.cutting.Cutting.{Cutting}
use Rattle.cert_walk.specs.declared.walk.Walk.{Walk}
use Rattle.cert_walk.specs.declared.walk.Walk.TheVariants.{At, Ended, Misfit}
use Rattle.cert_walk.proofs.CutFacts.{goes_over}
use Rattle.cert_walk.proofs.Coming.{waits_are_turns, root_stays, root_is_read}

-- ---- splits above a node

not_empty : {X : Type 0} (xs : List X) (x : X) → [] ≡ xs ++ x ∷ [] → ⊥
not_empty [] x same = cc
not_empty (a ∷ xs) x same = cc

highs_few : (ts : List Turn) → highs ts ≤ length ts
highs_few [] = omega arith
highs_few (to_low v at ∷ ts) = omega (arith, highs_few ts)
highs_few (to_high v at low ∷ ts) = omega (arith, highs_few ts)

-- no more splits are above the next node than were above the leaf
turns_few : (ts : List Turn) (t : Tree) → length (turns_behind ts t) ≤ length ts
turns_few [] t = omega arith
turns_few (to_low v at ∷ ts) t = omega arith
turns_few (to_high v at low ∷ ts) t = omega (arith, turns_few ts (split v at low t))

-- one high part less is still to come
highs_less : (ts : List Turn) (t : Tree) → highs (turns_behind ts t) ≡ highs ts - 1
highs_less [] t = refl
highs_less (to_low v at ∷ ts) t = omega arith
highs_less (to_high v at low ∷ ts) t = highs_less ts (split v at low t)

-- behind the last leaf none is above
root_last : (ts : List Turn) (t root : Tree) → root_behind ts t ≡ Some root → turns_behind ts t ≡ []
root_last [] t root is = refl
root_last (to_low v at ∷ ts) t root is = absurd (cc)
root_last (to_high v at low ∷ ts) t root is = root_last ts (split v at low t) root is

phase_some : (xs : List ℕ) (x : ℕ) → phase_behind (xs ++ x ∷ []) ≡ within
phase_some [] x = refl
phase_some (y ∷ xs) x = refl

-- the phase behind a leaf, by whether a node follows
phase_node : (ts : List Turn) (t : Tree) → root_behind ts t ≡ None → phase_behind (highs_of (map wait_of ts)) ≡ within
phase_node [] t none = absurd (cc)
phase_node (to_low v at ∷ ts) t none = phase_some (highs_of (map wait_of ts)) (kept_depth (length (map wait_of ts) + 1))
phase_node (to_high v at low ∷ ts) t none = phase_node ts (split v at low t) none

phase_root : (ts : List Turn) (t root : Tree) → root_behind ts t ≡ Some root → phase_behind (highs_of (map wait_of ts)) ≡ past
phase_root [] t root is = refl
phase_root (to_low v at ∷ ts) t root is = absurd (cc)
phase_root (to_high v at low ∷ ts) t root is = phase_root ts (split v at low t) root is

many_waits : (ts : List Turn) → length (map wait_of ts) ≡ length ts
many_waits [] = refl
many_waits (t ∷ ts) = ap suc (many_waits ts)

leaf_is : (proof : Proof) (is_open : Bool) → leaf_of is_open (written_proof proof) ≡ written_tree (leaf_with is_open proof)
leaf_is proof true = refl
leaf_is proof false = refl

-- ---- a byte that ends no line

-- where the same has been judged, claim and point are the same
front_same : (b : BlockedProgram) (visits : Option ℕ) (old new : Lines) (cuts : List Cut) (c : Cutting) (walk : Walk) → HasSameClaim old new
    → IsInFront b old.claim old.point cuts visits c walk → IsInFront b new.claim new.point cuts visits c walk
front_same b visits old new cuts c walk same h =
    let Q : Claim → Type 0 = λ k. IsInFront b k old.point cuts visits c walk in
    let R : List ℤ → Type 0 = λ zs. IsInFront b new.claim zs cuts visits c walk in
    subst R (sym same.point) (subst Q (sym same.claim) h)

tree_same : (b : BlockedProgram) (visits : Option ℕ) (old new : Lines) (cuts : List Cut) (ts : List Turn) (c : Cutting) (walk : Walk) → HasSameClaim old new
    → IsInTree b old.claim old.point cuts visits ts c walk → IsInTree b new.claim new.point cuts visits ts c walk
tree_same b visits old new cuts ts c walk same h =
    let Q : Claim → Type 0 = λ k. IsInTree b k old.point cuts visits ts c walk in
    let R : List ℤ → Type 0 = λ zs. IsInTree b new.claim zs cuts visits ts c walk in
    subst R (sym same.point) (subst Q (sym same.claim) h)

past_same : (b : BlockedProgram) (visits : Option ℕ) (old new : Lines) (cuts : List Cut) (root : Tree) (walk : Walk) → HasSameClaim old new
    → Judges b.named.program (blocking_over b cuts) old.claim (front_of b old.point cuts) visits (whole root) walk
    → Judges b.named.program (blocking_over b cuts) new.claim (front_of b new.point cuts) visits (whole root) walk
past_same b visits old new cuts root walk same h =
    let Q : Claim → Type 0 = λ k. Judges b.named.program (blocking_over b cuts) k (front_of b old.point cuts) visits (whole root) walk in
    let R : List ℤ → Type 0 = λ zs. Judges b.named.program (blocking_over b cuts) new.claim (front_of b zs cuts) visits (whole root) walk in
    subst R (sym same.point) (subst Q (sym same.claim) h)

-- the first node is below no split
in_tree : (b : BlockedProgram) (claim : Claim) (zs : List ℤ) (cuts : List Cut) (visits : Option ℕ) (ts : List Turn) (c : Cutting) (walk : Walk) → ts ≡ []
    → IsInFront b claim zs cuts visits c walk → IsInTree b claim zs cuts visits ts c walk
in_tree b claim zs cuts visits ts c walk none h =
    subst (λ (us : List Turn). IsInTree b claim zs cuts visits us c walk) (sym none) (record { holds = h.holds; walks = h.walks (blocking_over b cuts) })

-- what has been judged by another checker with the same cuts and walk
same_judged : (b : BlockedProgram) (visits : Option ℕ) (old new : Checker) (ts : List Turn) (root : Tree) (cuts : List Cut) (phase next : Phase) → new.cuts ≡ old.cuts → new.walk ≡ old.walk
    → GoesOn phase next → StaysFrom phase old.lines new.lines → IsJudgedTo b visits old ts root cuts phase → IsJudgedTo b visits new ts root cuts next
same_judged b visits old new ts root cuts phase next kept walk goes stays h = by phase goes stays h
  where
    has : (P : Cutting → Walk → Type 0) → P old.cuts old.walk → P new.cuts new.walk
    has P g = subst (λ (w : Walk). P new.cuts w) (sym walk) (subst (λ (c : Cutting). P c old.walk) (sym kept) g)

    to : (x : Phase) → next ≡ x → IsJudgedTo b visits new ts root cuts x → IsJudgedTo b visits new ts root cuts next
    to x is g = subst (IsJudgedTo b visits new ts root cuts) (sym is) g

    only : (x : Phase) → (x ≡ cutting → ⊥) → GoesOn x next → next ≡ x
    only x far goes = ⊎_elim (λ is. is) (λ o. absurd (far o.0)) goes

    by : (phase : Phase) → GoesOn phase next → StaysFrom phase old.lines new.lines → IsJudgedTo b visits old ts root cuts phase → IsJudgedTo b visits new ts root cuts next
    by ahead goes stays h = to ahead (only ahead (λ e. cc) goes) (h.0, h.1, has (λ c w. IsUnbegun b visits c w) h.2)
    by cutting goes stays h =
        let front = has (λ c w. IsInFront b new.lines.claim new.lines.point cuts visits c w) (front_same b visits old.lines new.lines cuts old.cuts old.walk stays h.1) in
        ⊎_elim
        (λ is. to cutting is (h.0, front))
        (λ o. to within o.1 (in_tree b new.lines.claim new.lines.point cuts visits ts new.cuts new.walk h.0 front))
        goes
    by within goes stays h =
        to within (only within (λ e. cc) goes) (has (λ c w. IsInTree b new.lines.claim new.lines.point cuts visits ts c w) (tree_same b visits old.lines new.lines cuts ts old.cuts old.walk stays h))
    by past goes stays h =
        to past (only past (λ e. cc) goes) (
          h.0,
          has (λ c w. Judges b.named.program (blocking_over b cuts) new.lines.claim (front_of b new.lines.point cuts) visits (whole root) w)
              (past_same b visits old.lines new.lines cuts root old.walk stays h.1),
        )

one_more : (text : List ℕ) (byte fed now : ℕ) → fed ≡ length text → now ≡ fed + 1 → now ≡ length (text ++ byte ∷ [])
one_more text byte fed now is more = omega (arith, is, more, length-append text (byte ∷ []))

pub quiet : (b : BlockedProgram) (visits : Option ℕ) (old new : Checker) (text : List ℕ) (byte : ℕ) (ts : List Turn) (root : Tree) (cuts : List Cut)
    → new.frame ≡ old.frame → new.cuts ≡ old.cuts → new.walk ≡ old.walk → new.held ≡ old.held → new.fed ≡ old.fed + 1
    → StandsFor (map wait_of ts) (written_tree root) (map written_cut cuts) old.frame new.lines (text ++ byte ∷ []) → Passes b.named.program.limits old.lines new.lines
    → HasJudged b visits old text ts root cuts → HasJudged b visits new (text ++ byte ∷ []) ts root cuts
quiet b visits old new text byte ts root cuts frame kept walk held fed reads stays h = record {
  reads = subst (λ (x : Frame). StandsFor (map wait_of ts) (written_tree root) (map written_cut cuts) x new.lines (text ++ byte ∷ [])) (sym frame) reads;
  shallow = stays.shallow h.shallow;
  few = h.few;
  held = held ∙ h.held;
  fed = one_more text byte old.fed new.fed h.fed fed;
  judged = same_judged b visits old new ts root cuts (phase_of old.lines) (phase_of new.lines) kept walk stays.phase stays.claim h.judged;
}

-- ---- a byte that ends a line

claim_came : (b : BlockedProgram) (visits : Option ℕ) (old new : Checker) (text : List ℕ) (byte : ℕ) (ts : List Turn) (root : Tree) (cuts : List Cut)
    → new.frame ≡ old.frame → new.held ≡ 0 → new.fed ≡ old.fed + 1 → StandsFor [] (written_tree root) [] old.frame new.lines (text ++ byte ∷ [])
    → phase_of old.lines ≡ ahead → GoesOn cutting (phase_of new.lines) → IsShallow b.named.program.limits new.lines
    → TakesEvent b new.lines.claim new.lines.point old.cuts new.cuts old.walk new.walk e.Claim
    → HasJudged b visits old text ts root cuts → HasJudged b visits new (text ++ byte ∷ []) [] root []
claim_came b visits old new text byte ts root cuts frame held fed reads before behind shallow takes h =
    let fresh : IsJudgedTo b visits old ts root cuts ahead = subst (IsJudgedTo b visits old ts root cuts) before h.judged in
    let front = takes visits fresh.2 in
    let P : Phase → Type 0 = IsJudgedTo b visits new [] root [] in
    record {
      reads = subst (λ (x : Frame). StandsFor [] (written_tree root) [] x new.lines (text ++ byte ∷ [])) (sym frame) reads;
      shallow = shallow;
      few = omega arith;
      held = held;
      fed = one_more text byte old.fed new.fed h.fed fed;
      judged = ⊎_elim
          (λ is. subst P (sym is) (refl, front))
          (λ o. subst P (sym o.1) (in_tree b new.lines.claim new.lines.point [] visits [] new.cuts new.walk refl front))
          behind;
    }

cut_came : (b : BlockedProgram) (visits : Option ℕ) (old new : Checker) (text : List ℕ) (byte : ℕ) (ts : List Turn) (root : Tree) (cuts : List Cut) (cut : Cut)
    → new.frame ≡ old.frame → new.held ≡ old.held → new.fed ≡ old.fed + 1
    → StandsFor (map wait_of ts) (written_tree root) (map written_cut cuts ++ written_cut cut ∷ []) old.frame new.lines (text ++ byte ∷ [])
    → Tells b.named.program.limits old.lines new.lines (Some (e.Cut cut)) → TakesEvent b new.lines.claim new.lines.point old.cuts new.cuts old.walk new.walk (e.Cut cut)
    → HasJudged b visits old text ts root cuts → HasJudged b visits new (text ++ byte ∷ []) ts root (cuts ++ cut ∷ [])
cut_came b visits old new text byte ts root cuts cut frame held fed reads tells takes h =
    let walks : IsJudgedTo b visits old ts root cuts cutting = subst (IsJudgedTo b visits old ts root cuts) tells.0 h.judged in
    let F : Frame → Type 0 = λ x. StandsFor (map wait_of ts) (written_tree root) (map written_cut (cuts ++ cut ∷ [])) x new.lines (text ++ byte ∷ []) in
    let S : List texts.Cut → Type 0 = λ cs. StandsFor (map wait_of ts) (written_tree root) cs old.frame new.lines (text ++ byte ∷ []) in
    record {
      reads = subst F (sym frame) (subst S (sym (map-append written_cut cuts (cut ∷ []))) reads);
      shallow = tells.3;
      few = h.few;
      held = held ∙ h.held;
      fed = one_more text byte old.fed new.fed h.fed fed;
      judged = subst (IsJudgedTo b visits new ts root (cuts ++ cut ∷ [])) (sym tells.1)
          (walks.0, takes visits cuts (front_same b visits old.lines new.lines cuts old.cuts old.walk tells.2 walks.1));
    }

-- a split's node is not too deep
not_deep : (limits : Limits) (ts : List Turn) (depth : ℕ) → depth ≡ kept_depth (length (map wait_of ts)) → is_deep limits depth ≡ false
    → length ts ≤ greatest_depth limits
not_deep limits ts depth is shallow =
    let low : depth ≤ greatest_depth limits = ltb-false (greatest_depth limits) depth shallow in
    omega (arith, low, is, many_waits ts, few_deep limits)

split_came : (b : BlockedProgram) (visits : Option ℕ) (old new : Checker) (text : List ℕ) (byte : ℕ) (ts : List Turn) (root : Tree) (cuts : List Cut) (p : SplitPlace)
    → new.frame ≡ old.frame → new.held ≡ min (old.held + 1) (2 ^ 64 - 1) → new.fed ≡ old.fed + 1
    → StandsFor (map wait_of (to_low p.var p.at ∷ ts)) (written_tree root) (map written_cut cuts) old.frame new.lines (text ++ byte ∷ [])
    → Tells b.named.program.limits old.lines new.lines (Some (e.Split p)) → TakesEvent b new.lines.claim new.lines.point old.cuts new.cuts old.walk new.walk (e.Split p)
    → HasJudged b visits old text ts root cuts → HasJudged b visits new (text ++ byte ∷ []) (to_low p.var p.at ∷ ts) root cuts
split_came b visits old new text byte ts root cuts p frame held fed reads tells takes h =
    let few : length ts ≤ greatest_depth b.named.program.limits = not_deep b.named.program.limits ts old.lines.depth h.reads.counts.highs.depth (tells.4 h.shallow) in
    let walks : IsJudgedTo b visits old ts root cuts within = subst (IsJudgedTo b visits old ts root cuts) tells.0 h.judged in
    record {
      reads = subst (λ (x : Frame). StandsFor (map wait_of (to_low p.var p.at ∷ ts)) (written_tree root) (map written_cut cuts) x new.lines (text ++ byte ∷ [])) (sym frame) reads;
      shallow = tells.3;
      few = omega (arith, few);
      held = omega (arith, held, h.held, few, highs_few ts, few_deep b.named.program.limits);
      fed = one_more text byte old.fed new.fed h.fed fed;
      judged = subst (IsJudgedTo b visits new (to_low p.var p.at ∷ ts) root cuts) (sym tells.1)
          (takes visits cuts ts (tree_same b visits old.lines new.lines cuts ts old.cuts old.walk tells.2 walks));
    }

-- what a leaf's line leaves
record LeafCame (b : BlockedProgram) (visits : Option ℕ) (old new : Checker) (text : List ℕ) (byte : ℕ) (ts : List Turn) (root t : Tree) (cuts : List Cut) : Type 0 where
  frame : new.frame ≡ old.frame
  held : new.held ≡ old.held - 1
  fed : new.fed ≡ old.fed + 1
  reads : StandsFor (readers.waits_behind (map wait_of ts) (written_tree t)) (readers.root_behind (map wait_of ts) (written_tree root) (written_tree t)) (map written_cut cuts) old.frame new.lines (text ++ byte ∷ [])
  phase : phase_of new.lines ≡ phase_behind (highs_of (map wait_of ts))
  shallow : IsShallow b.named.program.limits new.lines
  walks : IsBehind b new.lines.claim new.lines.point cuts visits ts t new.cuts new.walk

-- a node follows
node_came : (b : BlockedProgram) (visits : Option ℕ) (old new : Checker) (text : List ℕ) (byte : ℕ) (ts : List Turn) (root t : Tree) (cuts : List Cut) → root_behind ts t ≡ None
    → LeafCame b visits old new text byte ts root t cuts → HasJudged b visits old text ts root cuts → HasJudged b visits new (text ++ byte ∷ []) (turns_behind ts t) root cuts
node_came b visits old new text byte ts root t cuts none came h =
    let cs : List texts.Cut = map written_cut cuts in
    let P : List Wait → Type 0 = λ ws. StandsFor ws (readers.root_behind (map wait_of ts) (written_tree root) (written_tree t)) cs new.frame new.lines (text ++ byte ∷ []) in
    let Q : texts.Tree → Type 0 = λ x. StandsFor (map wait_of (turns_behind ts t)) x cs new.frame new.lines (text ++ byte ∷ []) in
    let F : Frame → Type 0 = λ x. StandsFor (readers.waits_behind (map wait_of ts) (written_tree t)) (readers.root_behind (map wait_of ts) (written_tree root) (written_tree t)) cs x new.lines (text ++ byte ∷ []) in
    record {
      reads = subst Q (root_stays ts t (written_tree root) none) (subst P (waits_are_turns ts t) (subst F (sym came.frame) came.reads));
      shallow = came.shallow;
      few = omega (arith, h.few, turns_few ts t);
      held = came.held ∙ ap (λ (k : ℕ). k - 1) h.held ∙ sym (highs_less ts t);
      fed = one_more text byte old.fed new.fed h.fed came.fed;
      judged = subst (IsJudgedTo b visits new (turns_behind ts t) root cuts) (sym (came.phase ∙ phase_node ts t none))
          (record { holds = came.walks.holds; walks = came.walks.walks.goes_on none });
    }

-- the tree is whole
root_came : (b : BlockedProgram) (visits : Option ℕ) (old new : Checker) (text : List ℕ) (byte : ℕ) (ts : List Turn) (root t next : Tree) (cuts : List Cut) → root_behind ts t ≡ Some next
    → LeafCame b visits old new text byte ts root t cuts → HasJudged b visits old text ts root cuts → HasJudged b visits new (text ++ byte ∷ []) (turns_behind ts t) next cuts
root_came b visits old new text byte ts root t next cuts is came h =
    let cs : List texts.Cut = map written_cut cuts in
    let P : List Wait → Type 0 = λ ws. StandsFor ws (readers.root_behind (map wait_of ts) (written_tree root) (written_tree t)) cs new.frame new.lines (text ++ byte ∷ []) in
    let Q : texts.Tree → Type 0 = λ x. StandsFor (map wait_of (turns_behind ts t)) x cs new.frame new.lines (text ++ byte ∷ []) in
    let F : Frame → Type 0 = λ x. StandsFor (readers.waits_behind (map wait_of ts) (written_tree t)) (readers.root_behind (map wait_of ts) (written_tree root) (written_tree t)) cs x new.lines (text ++ byte ∷ []) in
    record {
      reads = subst Q (root_is_read ts t next (written_tree root) is) (subst P (waits_are_turns ts t) (subst F (sym came.frame) came.reads));
      shallow = came.shallow;
      few = omega (arith, h.few, turns_few ts t);
      held = came.held ∙ ap (λ (k : ℕ). k - 1) h.held ∙ sym (highs_less ts t);
      fed = one_more text byte old.fed new.fed h.fed came.fed;
      judged = subst (IsJudgedTo b visits new (turns_behind ts t) next cuts) (sym (came.phase ∙ phase_root ts t next is)) (root_last ts t next is, came.walks.walks.ends next is);
    }

leaf_came : (b : BlockedProgram) (visits : Option ℕ) (old new : Checker) (text : List ℕ) (byte : ℕ) (ts : List Turn) (root t : Tree) (cuts : List Cut)
    → LeafCame b visits old new text byte ts root t cuts → HasJudged b visits old text ts root cuts → StandsBy b visits new (text ++ byte ∷ []) None
leaf_came b visits old new text byte ts root t cuts came h = by (root_behind ts t) refl
  where
    by : (r : Option Tree) → root_behind ts t ≡ r → StandsBy b visits new (text ++ byte ∷ []) None
    by None none = (turns_behind ts t, root, cuts, node_came b visits old new text byte ts root t cuts none came h)
    by (Some next) is = (turns_behind ts t, next, cuts, root_came b visits old new text byte ts root t next cuts is came h)

-- a line came
pub came : (b : BlockedProgram) (visits : Option ℕ) (old new : Checker) (text : List ℕ) (byte : ℕ) (ts : List Turn) (root : Tree) (cuts : List Cut) (event : Event)
    → new.frame ≡ old.frame → new.held ≡ held_after old.held event → new.fed ≡ old.fed + 1
    → StandsFor (readers.waits_after (map wait_of ts) (Some event)) (readers.root_after (map wait_of ts) (written_tree root) (Some event)) (readers.cuts_after (map written_cut cuts) (Some event)) old.frame new.lines (text ++ byte ∷ [])
    → Tells b.named.program.limits old.lines new.lines (Some event) → TakesEvent b new.lines.claim new.lines.point old.cuts new.cuts old.walk new.walk event
    → HasJudged b visits old text ts root cuts → StandsBy b visits new (text ++ byte ∷ []) None
came b visits old new text byte ts root cuts e.Claim frame held fed reads tells takes h =
    ([], root, [], claim_came b visits old new text byte ts root cuts frame held fed reads tells.0 tells.1 tells.2 takes h)
came b visits old new text byte ts root cuts (e.Cut cut) frame held fed reads tells takes h =
    (ts, root, cuts ++ cut ∷ [], cut_came b visits old new text byte ts root cuts cut frame held fed reads tells takes h)
came b visits old new text byte ts root cuts (e.Split p) frame held fed reads tells takes h =
    (to_low p.var p.at ∷ ts, root, cuts, split_came b visits old new text byte ts root cuts p frame held fed reads tells takes h)
came b visits old new text byte ts root cuts (e.Leaf is_open proof) frame held fed reads tells takes h =
    let t = leaf_with is_open proof in
    let P : texts.Tree → Type 0 =
    λ x. StandsFor (readers.waits_behind (map wait_of ts) x) (readers.root_behind (map wait_of ts) (written_tree root) x) (map written_cut cuts) old.frame new.lines (text ++ byte ∷ []) in
    let walks : IsJudgedTo b visits old ts root cuts within = subst (IsJudgedTo b visits old ts root cuts) tells.0 h.judged in
    leaf_came b visits old new text byte ts root t cuts (record {
      frame = frame;
      held = held;
      fed = fed;
      reads = subst P (leaf_is proof is_open) reads;
      phase = tells.1 ∙ ap phase_behind h.reads.counts.highs.highs;
      shallow = tells.3;
      walks = takes visits cuts ts (tree_same b visits old.lines new.lines cuts ts old.cuts old.walk tells.2 walks);
    }) h

-- ---- faults

-- a fault of reading is kept
pub fault_came : (b : BlockedProgram) (visits : Option ℕ) (new : Checker) (above : List Wait) (root : texts.Tree) (cuts : List texts.Cut) (frame : Frame) (lines : Lines) (text : List ℕ) (byte : ℕ) (fault : CertFault)
    → frame_of frame ≡ frame_for b → new.fault ≡ Some (fault_as fault) → Steps above root cuts frame lines text byte (Err fault) → ChecksFor b visits new (text ++ byte ∷ [])
fault_came b visits new above root cuts frame lines text byte fault same is steps =
    subst (StandsBy b visits new (text ++ byte ∷ [])) (sym is) (by fault steps)
  where
    by : (x : CertFault) → Steps above root cuts frame lines text byte (Err x) → StandsBy b visits new (text ++ byte ∷ []) (Some (fault_as x))
    by c.NoMemory steps = tt
    by (c.At line kind) steps = subst (λ (x : texts.Frame). IsSeenFault x (text ++ byte ∷ []) line kind) same steps

pub memory_wanted : (b : BlockedProgram) (visits : Option ℕ) (new : Checker) (text : List ℕ) → new.fault ≡ Some f.NoMemory → ChecksFor b visits new text
memory_wanted b visits new text is = subst (StandsBy b visits new text) (sym is) tt

-- a fault stays, whatever follows
pub fault_stays : (b : BlockedProgram) (visits : Option ℕ) (old new : Checker) (text more : List ℕ) (fault : FeedFault) → old.fault ≡ Some fault → new.fault ≡ Some fault
    → ChecksFor b visits old text → ChecksFor b visits new (text ++ more)
fault_stays b visits old new text more fault was is h =
    subst (StandsBy b visits new (text ++ more)) (sym is) (by fault (subst (StandsBy b visits old text) was h))
  where
    by : (x : FeedFault) → StandsBy b visits old text (Some x) → StandsBy b visits new (text ++ more) (Some x)
    by f.NoMemory h = tt
    by (f.At line kind) h = seen_faults_stay (frame_for b) text more line kind h

-- what is judged where no fault has come
pub judged_so : (b : BlockedProgram) (visits : Option ℕ) (c : Checker) (text : List ℕ) → c.fault ≡ None → ChecksFor b visits c text
    → (ts : List Turn) × (root : Tree) × (cuts : List Cut) × HasJudged b visits c text ts root cuts
judged_so b visits c text none h = subst (StandsBy b visits c text) none h

pub stands_so : (b : BlockedProgram) (visits : Option ℕ) (c : Checker) (text : List ℕ) → c.fault ≡ None → StandsBy b visits c text None → ChecksFor b visits c text
stands_so b visits c text none h = subst (StandsBy b visits c text) (sym none) h

-- ---- what lasts

within_more : (m n : ℕ) (walk : Walk) → m ≤ n → IsWithin m walk → IsWithin n walk
within_more m n (At path) more h = omega (arith, more, h)
within_more m n (Ended stop) more h = tt
within_more m n Misfit more h = tt

-- few lines have come
pub few_lines : (b : BlockedProgram) (checker : Checker) → IsMadeFor b checker → checker.fed + 1 < 2 ^ 63 → IsWithin (2 ^ 63 + 2) checker.walk
few_lines b checker made few = within_more (3 + checker.fed) (2 ^ 63 + 2) checker.walk (omega (arith, few)) made.line

-- what is kept besides the text's place
keeps_same : (b : BlockedProgram) (old new : Checker) → new.cuts ≡ old.cuts → new.work ≡ old.work → new.walk ≡ old.walk → Keeps b old.cuts old.work old.walk
    → Keeps b new.cuts new.work new.walk
keeps_same b old new cuts work walk h =
    subst (λ (w : Walk). Keeps b new.cuts new.work w) (sym walk)
    (subst (λ (w : Option Work). Keeps b new.cuts w old.walk) (sym work) (subst (λ (c : Cutting). Keeps b c old.work old.walk) (sym cuts) h))

-- behind a line that leaves the cuts and the pricers
pub keeps_walk : (b : BlockedProgram) (old new : Checker) → new.cuts ≡ old.cuts → new.work ≡ old.work → IsWalkIn b.named.program.spans new.walk → Keeps b old.cuts old.work old.walk
    → Keeps b new.cuts new.work new.walk
keeps_walk b old new cuts work inside h =
    let had = subst (λ (w : Option Work). Keeps b new.cuts w old.walk) (sym work) (subst (λ (c : Cutting). Keeps b c old.work old.walk) (sym cuts) h) in
    record { passed = had.passed; made = had.made; inside = inside }

-- one that differs in its fault alone
pub made_same : (b : BlockedProgram) (old new : Checker) → new.frame ≡ old.frame → new.cuts ≡ old.cuts → new.work ≡ old.work → new.walk ≡ old.walk → new.fed ≡ old.fed
    → IsMadeFor b old → IsMadeFor b new
made_same b old new frame cuts work walk fed made = record {
  formed = made.formed;
  uncut = made.uncut;
  frame = subst (λ (x : Frame). frame_of x ≡ frame_for b) (sym frame) made.frame;
  keeps = keeps_same b old new cuts work walk made.keeps;
  line = subst (λ (n : ℕ). IsWithin (3 + n) new.walk) (sym fed) (subst (IsWithin (3 + old.fed)) (sym walk) made.line);
  few = subst (λ (n : ℕ). n < 2 ^ 63) (sym fed) made.few;
}

-- one that has judged a line
pub made_on : (b : BlockedProgram) (old new : Checker) → new.frame ≡ old.frame → Keeps b new.cuts new.work new.walk → new.fed ≡ old.fed + 1 → old.fed + 1 < 2 ^ 63
    → ((most : ℕ) → 3 ≤ most → IsWithin most old.walk → IsWithin (most + 1) new.walk) → IsMadeFor b old → IsMadeFor b new
made_on b old new frame keeps fed few line made = record {
  formed = made.formed;
  uncut = made.uncut;
  frame = subst (λ (x : Frame). frame_of x ≡ frame_for b) (sym frame) made.frame;
  keeps = keeps;
  line = within_more (3 + old.fed + 1) (3 + new.fed) new.walk (omega (arith, fed)) (line (3 + old.fed) (omega arith) made.line);
  few = omega (arith, fed, few);
}

-- as many high parts are still to come as a tree's depth allows
pub held_few : (b : BlockedProgram) (visits : Option ℕ) (checker : Checker) (text : List ℕ) → checker.fault ≡ None → ChecksFor b visits checker text → checker.held ≤ greatest_depth b.named.program.limits + 1
held_few b visits checker text none h =
    let so = judged_so b visits checker text none h in
    omega (arith, so.3.held, so.3.few, highs_few so.0)

-- ---- a byte more

-- what reading it answers
abbrev pub Reads : Checker → Lines → ℕ → Result (Option Event) CertFault → Type 0
Reads old lines byte result = (above : List Wait) (root : texts.Tree) (cuts : List texts.Cut) (text : List ℕ) → length text + 1 < 2 ^ 64 → StandsFor above root cuts old.frame old.lines text
    → Steps above root cuts old.frame lines text byte result

-- its frame has the program's limits
limits_of : (b : BlockedProgram) (c : Checker) → IsMadeFor b c → c.frame.limits ≡ b.named.program.limits
limits_of b c made = ap (λ (x : texts.Frame). x.limits) made.frame

pub faults_on : (b : BlockedProgram) (visits : Option ℕ) (old new : Checker) (lines : Lines) (text : List ℕ) (byte : ℕ) (fault : CertFault) → IsMadeFor b old → old.fault ≡ None
    → Reads old lines byte (Err fault) → new.fault ≡ Some (fault_as fault) → ChecksFor b visits old text → ChecksFor b visits new (text ++ byte ∷ [])
faults_on b visits old new lines text byte fault made none reads is h =
    let so = judged_so b visits old text none h in
    fault_came b visits new (map wait_of so.0) (written_tree so.1) (map written_cut so.2) old.frame lines text byte fault made.frame is
    (reads (map wait_of so.0) (written_tree so.1) (map written_cut so.2) text (omega (arith, made.few, so.3.fed)) so.3.reads)

pub quiet_on : (b : BlockedProgram) (visits : Option ℕ) (old new : Checker) (text : List ℕ) (byte : ℕ) → IsMadeFor b old → old.fault ≡ None
    → Reads old new.lines byte (Ok None) → Passes old.frame.limits old.lines new.lines → new.frame ≡ old.frame → new.cuts ≡ old.cuts → new.walk ≡ old.walk → new.held ≡ old.held → new.fed ≡ old.fed + 1
    → new.fault ≡ None → ChecksFor b visits old text → ChecksFor b visits new (text ++ byte ∷ [])
quiet_on b visits old new text byte made none reads stays frame cuts walk held fed still h =
    let so = judged_so b visits old text none h in
    stands_so b visits new (text ++ byte ∷ []) still (
      so.0,
      so.1,
      so.2,
      quiet b visits old new text byte so.0 so.1 so.2 frame cuts walk held fed
          (reads (map wait_of so.0) (written_tree so.1) (map written_cut so.2) text (omega (arith, made.few, so.3.fed)) so.3.reads) (subst (λ (x : Limits). Passes x old.lines new.lines) (limits_of b old made) stays) so.3,
    )

pub event_on : (b : BlockedProgram) (visits : Option ℕ) (old new : Checker) (lines : Lines) (text : List ℕ) (byte : ℕ) (event : Event) → IsMadeFor b old → old.fault ≡ None → new.lines ≡ lines
    → Reads old lines byte (Ok (Some event)) → Tells old.frame.limits old.lines lines (Some event) → TakesEvent b lines.claim lines.point old.cuts new.cuts old.walk new.walk event
    → new.frame ≡ old.frame → new.held ≡ held_after old.held event → new.fed ≡ old.fed + 1 → new.fault ≡ None
    → ChecksFor b visits old text → ChecksFor b visits new (text ++ byte ∷ [])
event_on b visits old new lines text byte event made none same reads tells takes frame held fed still h =
    let so = judged_so b visits old text none h in
    let ws = readers.waits_after (map wait_of so.0) (Some event) in
    let root = readers.root_after (map wait_of so.0) (written_tree so.1) (Some event) in
    let cuts = readers.cuts_after (map written_cut so.2) (Some event) in
    let P : Lines → Type 0 = λ r. StandsFor ws root cuts old.frame r (text ++ byte ∷ []) in
    let Q : Lines → Type 0 = λ r. Tells b.named.program.limits old.lines r (Some event) in
    let R : Lines → Type 0 = λ r. TakesEvent b r.claim r.point old.cuts new.cuts old.walk new.walk event in
    let read = reads (map wait_of so.0) (written_tree so.1) (map written_cut so.2) text (omega (arith, made.few, so.3.fed)) so.3.reads in
    stands_so b visits new (text ++ byte ∷ []) still
    (came b visits old new text byte so.0 so.1 so.2 event frame held fed (subst P (sym same) read) (subst Q (sym same) (subst (λ (x : Limits). Tells x old.lines lines (Some event)) (limits_of b old made) tells)) (subst R (sym same) takes) so.3)

-- a checker that was fed nothing
pub begins : (b : BlockedProgram) (visits : Option ℕ) (checker : Checker) → checker.fault ≡ None → checker.held ≡ 0 → checker.fed ≡ 0
    → ((root : texts.Tree) (frame : Frame) → StandsFor [] root [] frame checker.lines []) → phase_of checker.lines ≡ ahead → IsShallow b.named.program.limits checker.lines
    → IsUnbegun b visits checker.cuts checker.walk → ChecksFor b visits checker []
begins b visits checker none held fed reads before shallow fresh =
    let root : Tree = shut_leaf (record { scale = 0; mults = []; picked = Every }) in
    let P : Phase → Type 0 = IsJudgedTo b visits checker [] root [] in
    stands_so b visits checker [] none (
      [],
      root,
      [],
      record {
        reads = reads (written_tree root) checker.frame;
        shallow = shallow;
        few = omega arith;
        held = held;
        fed = fed;
        judged = subst P (sym before) (refl, refl, fresh);
      },
    )

-- ---- what a line does to the judgement

-- a walk that goes on behind a line did so before
holds_on : (c : Cutting) (cuts : List Cut) (old new : Walk) → (IsOn new → IsOn old) → HoldsCuts c cuts old → HoldsCuts c cuts new
holds_on c cuts (At path) (At now) on h = h
holds_on c cuts (At path) (Ended stop) on h = tt
holds_on c cuts (At path) Misfit on h = tt
holds_on c cuts (Ended stop) (At now) on h = absurd (on tt)
holds_on c cuts (Ended stop) (Ended next) on h = tt
holds_on c cuts (Ended stop) Misfit on h = tt
holds_on c cuts Misfit (At now) on h = absurd (on tt)
holds_on c cuts Misfit (Ended next) on h = tt
holds_on c cuts Misfit Misfit on h = tt

-- nothing has come in front of a point
holds_none : (b : BlockedProgram) (visits : Option ℕ) (c : Cutting) (old new : Walk) → IsUnbegun b visits c old → HoldsCuts c [] new
holds_none b visits c old (At path) h =
    subst (λ (o : Option BlockedProgram). cuts_by c.cuts o ≡ []) (sym h.unmade) h.none
holds_none b visits c old (Ended stop) h = tt
holds_none b visits c old Misfit h = tt

pub takes_claim : (b : BlockedProgram) (claim k : Claim) (zs ys : List ℤ) (had has : Cutting) (old walk new : Walk) → has ≡ had → walk ≡ old → k ≡ claim → ys ≡ zs
    → ((visits : Option ℕ) (x : Blocking) → IsFresh b.named.program.spans visits walk → WalksBelow b.named.program x k (front_of b ys []) visits [] new)
    → TakesEvent b claim zs had has old new e.Claim
takes_claim b claim k zs ys had has old walk new kept same claims points takes = λ visits h.
    let p = b.named.program in
    let P : Claim → Type 0 = λ x. (j : Blocking) → WalksBelow p j x (front_of b ys []) visits [] new in
    let Q : List ℤ → Type 0 = λ xs. (j : Blocking) → WalksBelow p j claim (front_of b xs []) visits [] new in
    let walks : (j : Blocking) → WalksBelow p j k (front_of b ys []) visits [] new = λ j. takes visits j (subst (IsFresh p.spans visits) (sym same) h.fresh) in
    let there : IsInFront b claim zs [] visits had new = record {
      unmade = h.unmade;
      holds = holds_none b visits had old new h;
      walks = subst Q points (subst P claims walks);
    } in
    subst (λ (c : Cutting). IsInFront b claim zs [] visits c new) (sym kept) there

pub takes_cut : (b : BlockedProgram) (claim : Claim) (zs : List ℤ) (had from has : Cutting) (old walk new : Walk) (cut : Cut) → from ≡ had → walk ≡ old → has.program ≡ from.program
    → ((cuts : List Cut) → from.program ≡ None → HoldsCuts from cuts walk → HoldsCuts has (cuts ++ cut ∷ []) new)
    → ((k : Claim) (ys : List ℤ) (cuts : List Cut) (visits : Option ℕ) (x : Blocking) → from.program ≡ None → HoldsCuts from cuts walk
    → WalksBelow b.named.program x k (front_of b ys cuts) visits [] walk → WalksBelow b.named.program x k (front_of b ys (cuts ++ cut ∷ [])) visits [] new)
    → TakesEvent b claim zs had has old new (e.Cut cut)
takes_cut b claim zs had from has old walk new cut kept same program holds takes = λ visits cuts h.
    let P : Cutting → Type 0 = λ c. IsInFront b claim zs cuts visits c old in
    let Q : Walk → Type 0 = λ w. IsInFront b claim zs cuts visits from w in
    let there : IsInFront b claim zs cuts visits from walk = subst Q (sym same) (subst P (sym kept) h) in
    record {
      unmade = program ∙ there.unmade;
      holds = holds cuts there.unmade there.holds;
      walks = λ x. takes claim zs cuts visits x there.unmade there.holds (there.walks x);
    }

pub takes_split : (b : BlockedProgram) (claim : Claim) (zs : List ℤ) (had has : Cutting) (old walk new : Walk) (place : SplitPlace) → has ≡ had → walk ≡ old → (IsOn new → IsOn walk)
    → ((p : Program) (x : Blocking) (k : Claim) (front : Front) (visits : Option ℕ) (ts : List Turn) → WalksBelow p x k front visits ts walk
    → WalksBelow p x k front visits (to_low place.var place.at ∷ ts) new) → TakesEvent b claim zs had has old new (e.Split place)
takes_split b claim zs had has old walk new place kept same on takes = λ visits cuts ts h.
    let P : Cutting → Type 0 = λ c. IsInTree b claim zs cuts visits ts c old in
    let Q : Walk → Type 0 = λ w. IsInTree b claim zs cuts visits ts has w in
    let there : IsInTree b claim zs cuts visits ts has walk = subst Q (sym same) (subst P (sym kept) h) in
    record {
      holds = holds_on has cuts walk new on there.holds;
      walks = takes b.named.program (blocking_over b cuts) claim (front_of b zs cuts) visits ts there.walks;
    }

pub takes_leaf : (b : BlockedProgram) (claim k : Claim) (zs : List ℤ) (had has : Cutting) (old walk new : Walk) (is_open : Bool) (proof : Proof) → IsFormed b → b.cuts ≡ [] → IsCutting b has
    → walk ≡ old → k ≡ claim → cuts_in has ≡ cuts_in had → (IsOn walk → IsClosed has) → (IsOn new → IsOn walk)
    → ((p : Program) (x : Blocking) (front : Front) (visits : Option ℕ) (ts : List Turn) → GoesOver (program_by b has.program) p x walk → WalksBelow p x k front visits ts walk
    → WalksBehind p x k front visits ts (leaf_with is_open proof) new)
    → TakesEvent b claim zs had has old new (e.Leaf is_open proof)
takes_leaf b claim k zs had has old walk new is_open proof formed uncut kept same claims cuts_are closed on takes = λ visits cuts ts h.
    let holds : HoldsCuts has cuts walk = subst (HoldsCuts has cuts) (sym same) (holds_in cuts old h.holds) in
    let B : Walk → Type 0 = λ w. WalksBelow b.named.program (blocking_over b cuts) claim (front_of b zs cuts) visits ts w in
    let C : Claim → Type 0 = λ x. WalksBelow b.named.program (blocking_over b cuts) x (front_of b zs cuts) visits ts walk in
    let D : Claim → Type 0 = λ x. WalksBehind b.named.program (blocking_over b cuts) x (front_of b zs cuts) visits ts (leaf_with is_open proof) new in
    record {
      holds = holds_on has cuts walk new on holds;
      walks = subst D claims (takes b.named.program (blocking_over b cuts) (front_of b zs cuts) visits ts (goes_over b has cuts walk formed uncut kept closed holds)
          (subst C (sym claims) (subst B (sym same) h.walks)));
    }
  where
    holds_in : (cuts : List Cut) (w : Walk) → HoldsCuts had cuts w → HoldsCuts has cuts w
    holds_in cuts (At path) h = cuts_are ∙ h
    holds_in cuts (Ended stop) h = tt
    holds_in cuts Misfit h = tt

-- ---- a piece

pub kept_by : (fault : FeedFault) (kept : Option FeedFault) → Err fault ≡ answer_by kept → kept ≡ Some fault
kept_by fault None told = absurd (cc)
kept_by fault (Some other) told = cc

pub still_by : (kept : Option FeedFault) → Ok tt ≡ answer_by kept → kept ≡ None
still_by None told = refl
still_by (Some other) told = absurd (cc)

-- a fault at a byte of a piece is kept behind the piece
pub fed_on : (b : BlockedProgram) (visits : Option ℕ) (checker : Checker) (text piece : List ℕ) (i byte : ℕ) (fault : FeedFault) → i < length piece → get_or piece i 0 ≡ byte
    → checker.fault ≡ Some fault → ChecksFor b visits checker ((text ++ take i piece) ++ byte ∷ []) → ChecksFor b visits checker (text ++ piece)
fed_on b visits checker text piece i byte fault less at is h =
    let more = drop (i + 1) piece in
    let whole : ((text ++ take i piece) ++ byte ∷ []) ++ more ≡ text ++ piece =
    ap (λ (xs : List ℕ). xs ++ more) (joined text piece i byte less at) ∙ append_assoc text (take (i + 1) piece) more
    ∙ ap (λ (xs : List ℕ). text ++ xs) (take-append-drop (i + 1) piece) in
    subst (ChecksFor b visits checker) whole (fault_stays b visits checker checker ((text ++ take i piece) ++ byte ∷ []) more fault is is h)
