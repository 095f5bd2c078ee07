-- A whole certificate, from the judgement of its lines.
use Rattle.std.proofs.Common.{◌≡◌, refl, sym, ap, subst, ◌∙◌, ℕ, ◌+◌, ◌<◌, List, ◌∷◌, ◌++◌, length, Option, Some, None, Result, Ok, Err, arith, ⊎_elim}
use Rattle.std.proofs.Math.IntN.{ℤ}
use Rattle.std.specs.Prelude.{◌⊎◌, true}
use Rattle.std.specs.List.{AllByRecursion}
use Rattle.std.proofs.lemmas.List.Elements.{recursion_from_All, All-from_recursion}
use Rattle.bp_theory.specs.Program.{Program}
use Rattle.bp_theory.specs.Blocking.{Blocking}
use Rattle.bp_theory.specs.Bound.{SignsFit}
use Rattle.bp_theory.specs.Trees.{Tree, Leaf}
use Rattle.bp_theory.specs.Claims.{Certificate}
use Rattle.bp_theory.specs.Judgement.{Line, leaf_line, Passes, tree_lines, judged_lines, IsFirstFault}
use Rattle.bp_theory.specs.declared.Span.{Span}
use Rattle.bp_theory.specs.declared.Claim.{Claim}
use Rattle.bp_theory.specs.declared.CheckKind.{CheckKind}
use Rattle.bp_theory.specs.declared.Cut.{Cut}
use Rattle.bp_theory.proofs.JudgeProof.{judged_lem}
use Rattle.block_program.specs.Blocked.{BlockedProgram, IsFormed}
use Rattle.block_program.specs.Cuts.{KeepsCuts}
use Rattle.cert_format.specs.Written.{certificate}
use Rattle.cert_check.specs.declared.judge.Judged.{Judged}
use Rattle.cert_check.specs.declared.judge.Judged.TheVariants.{Accepted, Rejected, Unknown}
use Rattle.cert_line_check.specs.Visits.{AreZoneVisits, AreLineVisits}
use Rattle.cert_line_check.specs.Judging.{IsFirstBad, IsLeft, IsAfforded, Exceeds, IsEnd, JudgesLines, JudgesPoint}
use Rattle.cert_check.specs.Judging.{IsJudged, NoneUnpriced, IsJudgedWithin, IsTrueIfAccepted, stopped_at, verdict_of}
use Rattle.cert_line_check.specs.Cutting.{JudgesCuts, blocking_over}
use Rattle.cert_line_check.specs.declared.place.NodePlace.{NodePlace}
use Rattle.cert_line_check.specs.declared.place.Rejection.{Rejection}
use Rattle.cert_line_check.specs.declared.place.Stop.{Stop}
use Rattle.cert_line_check.proofs.Lines.{both_all, second_all}
use Rattle.cert_line_check.proofs.CutLines.{kept_pass}
use Rattle.cert_line_check.proofs.Heads.{points_of, heads_of, lines_are, heads_pass, heads_left, bad_points, bad_cuts, behind_heads, head_ends, fault_fails, all_pass, accepted_true, heads_end}
use Rattle.cert_line_check.proofs.LineVisits.{zone_once, lines_once, split_visits, both_left, two_parts}

-- ---- what the line that ends the walk says of a certificate

-- lines of which one is at fault have no leaf before it, and aren't it, that asks for more visits than are left
no_other : (p : Program) (b : Blocking) (claim : Claim) (lines : List Line) (most number : ℕ) (kind : CheckKind) → IsEnd p b claim lines (Some most) 3 number (Some kind)
    → (before : List Line) (leaf : Leaf) (after : List Line) → lines ≡ before ++ leaf_line leaf ∷ after → AllByRecursion (Passes p b claim) before → SignsFit b leaf.proof
    → (spent own : ℕ) → AreLineVisits p.spans b before spent → AreZoneVisits p.spans b leaf.zone leaf.proof.picked own → most < spent + own → ⊥
no_other p b claim lines most number kind end before leaf after parts passed signs spent own are_spent are_own exceeds =
    ⊎_elim behind (λ here. ⊎_elim same ahead here)
    (two_parts end.before before end.line (leaf_line leaf) end.after after (sym end.parts ∙ parts))
  where
    behind : (zs : List Line) × (end.before ≡ before ++ leaf_line leaf ∷ zs) → ⊥
    behind h =
        let cut = split_visits p.spans b before (leaf_line leaf ∷ h.0) end.is_left.0 (subst (λ (xs : List Line). AreLineVisits p.spans b xs end.is_left.0) h.1 end.is_left.2) in
        let one : cut.0 ≡ spent = lines_once p.spans b before cut.0 spent cut.2 are_spent in
        let mine : cut.3.0 ≡ own = zone_once p.spans b leaf.zone leaf.proof.picked cut.3.0 own cut.3.2 are_own in
        absurd (omega (arith, one, mine, cut.4, cut.3.4, end.is_left.4, exceeds))

    same : (end.before ≡ before) × (end.line ≡ leaf_line leaf) → ⊥
    same h =
        let rest : IsAfforded p.spans b leaf.zone leaf.proof.picked (Some end.is_left.1) =
        subst (λ (o : Option ℕ). IsAfforded p.spans b leaf.zone leaf.proof.picked o) end.is_left.3 (end.ends.1 leaf h.1 signs) in
        let one : end.is_left.0 ≡ spent = lines_once p.spans b before end.is_left.0 spent
        (subst (λ (xs : List Line). AreLineVisits p.spans b xs end.is_left.0) h.0 end.is_left.2) are_spent in
        let mine : rest.0 ≡ own = zone_once p.spans b leaf.zone leaf.proof.picked rest.0 own rest.1 are_own in
        absurd (omega (arith, one, mine, rest.2, end.is_left.4, exceeds))

    ahead : (zs : List Line) × (before ≡ end.before ++ end.line ∷ zs) → ⊥
    ahead h =
        let all = second_all (Passes p b claim) end.before (end.line ∷ h.0) (subst (λ (xs : List Line). AllByRecursion (Passes p b claim) xs) h.1 passed) in
        fault_fails p b claim end.line kind end.ends.0 all.0

-- nor do lines whose visits are all there
no_unpriced : (root : List Span) (b : Blocking) (lines : List Line) (most : ℕ) (now : Option ℕ) → IsLeft root b lines (Some most) now
    → (before : List Line) (leaf : Leaf) (after : List Line) → lines ≡ before ++ leaf_line leaf ∷ after
    → (spent own : ℕ) → AreLineVisits root b before spent → AreZoneVisits root b leaf.zone leaf.proof.picked own → most < spent + own → ⊥
no_unpriced root b lines most now left before leaf after parts spent own are_spent are_own exceeds =
    let cut = split_visits root b before (leaf_line leaf ∷ after) left.0 (subst (λ (xs : List Line). AreLineVisits root b xs left.0) parts left.2) in
    let one : cut.0 ≡ spent = lines_once root b before cut.0 spent cut.2 are_spent in
    let mine : cut.3.0 ≡ own = zone_once root b leaf.zone leaf.proof.picked cut.3.0 own cut.3.2 are_own in
    absurd (omega (arith, one, mine, cut.4, cut.3.4, left.4, exceeds))

-- a judgement without visits, where no leaf is unpriced
judged_within : (b : BlockedProgram) (cert : Certificate) (visits : Option ℕ) (j : Judged) → IsJudged b cert j → ((most : ℕ) → visits ≡ Some most → NoneUnpriced b cert most)
    → IsJudgedWithin b cert visits j
judged_within b cert None j is none = is
judged_within b cert (Some most) (Accepted claim) is none = (none most refl, is)
judged_within b cert (Some most) (Rejected line kind) is none = (none most refl, is)
judged_within b cert (Some most) (Unknown line) is none = absurd is

-- the line that ends the walk is at fault
at_fault : (b : BlockedProgram) (claim : Claim) (zs : List ℤ) (cuts : List Cut) (t : Tree) (left : Option ℕ) (number : ℕ) (kind : CheckKind)
    → IsEnd b.named.program (blocking_over b cuts) claim (judged_lines b.named.program b.dec (certificate claim zs cuts t)) left 3 number (Some kind)
    → IsJudgedWithin b (certificate claim zs cuts t) left (Rejected number kind)
at_fault b claim zs cuts t left number kind end =
    let cert : Certificate = certificate claim zs cuts t in
    let p : Program = b.named.program in
    let k : Blocking = blocking_over b cuts in
    let fault : IsFirstFault p b.dec cert number kind = record {
      before = end.before;
      line = end.line;
      after = end.after;
      lines = end.parts;
      passed = All-from_recursion (Passes p k claim) end.before end.passed;
      has_fault = end.ends.0;
      numbered = end.numbered;
    } in
    judged_within b cert left (Rejected number kind) (fault, λ valid. judged_lem.not_both p b.dec cert number kind valid fault)
    (λ most is other f.
    no_other p k claim (judged_lines p b.dec cert) most number kind
    (subst (λ (o : Option ℕ). IsEnd p k claim (judged_lines p b.dec cert) o 3 number (Some kind)) is end)
    f.before f.leaf f.after f.lines (recursion_from_All (Passes p k claim) f.before f.passed) f.signs f.spent f.own f.are_spent f.are_own f.exceeds)

-- the line that ends the walk asks for more visits than are left
at_unpriced : (b : BlockedProgram) (claim : Claim) (zs : List ℤ) (cuts : List Cut) (t : Tree) (left : Option ℕ) (number : ℕ)
    → IsEnd b.named.program (blocking_over b cuts) claim (judged_lines b.named.program b.dec (certificate claim zs cuts t)) left 3 number None
    → IsJudgedWithin b (certificate claim zs cuts t) left (Unknown number)
at_unpriced b claim zs cuts t None number end =
    absurd (subst (λ (o : Option ℕ). Exceeds b.named.program.spans (blocking_over b cuts) end.ends.0.zone end.ends.0.proof.picked o) end.is_left end.ends.3)
at_unpriced b claim zs cuts t (Some most) number end =
    let p : Program = b.named.program in
    let k : Blocking = blocking_over b cuts in
    let leaf : Leaf = end.ends.0 in
    let more : Exceeds p.spans k leaf.zone leaf.proof.picked (Some end.is_left.1) =
    subst (λ (o : Option ℕ). Exceeds p.spans k leaf.zone leaf.proof.picked o) end.is_left.3 end.ends.3 in
    record {
      before = end.before;
      leaf = leaf;
      after = end.after;
      lines = end.parts ∙ ap (λ (l : Line). end.before ++ l ∷ end.after) end.ends.1;
      passed = All-from_recursion (Passes p k claim) end.before end.passed;
      signs = end.ends.2;
      spent = end.is_left.0;
      are_spent = end.is_left.2;
      within = omega (arith, end.is_left.4);
      own = more.0;
      are_own = more.1;
      exceeds = omega (arith, end.is_left.4, more.2);
      numbered = end.numbered;
    }

-- what is stopped at a line is true if it is accepted
pub never_accepted : (p : Program) (line : ℕ) (fault : Option CheckKind) → IsTrueIfAccepted p (stopped_at line fault)
never_accepted p line None = tt
never_accepted p line (Some kind) = tt

-- a certificate by the line that ends the walk over its lines
pub ended : (b : BlockedProgram) (claim : Claim) (zs : List ℤ) (cuts : List Cut) (t : Tree) (left : Option ℕ) (number : ℕ) (fault : Option CheckKind)
    → IsEnd b.named.program (blocking_over b cuts) claim (heads_of b claim zs cuts ++ tree_lines t b.named.program.spans) left 3 number fault
    → IsJudgedWithin b (certificate claim zs cuts t) left (stopped_at number fault)
ended b claim zs cuts t left number fault end = by fault here
  where
    here : IsEnd b.named.program (blocking_over b cuts) claim (judged_lines b.named.program b.dec (certificate claim zs cuts t)) left 3 number fault
    here = subst (λ (xs : List Line). IsEnd b.named.program (blocking_over b cuts) claim xs left 3 number fault) (sym (lines_are b claim zs cuts t)) end

    by : (fault : Option CheckKind) → IsEnd b.named.program (blocking_over b cuts) claim (judged_lines b.named.program b.dec (certificate claim zs cuts t)) left 3 number fault
        → IsJudgedWithin b (certificate claim zs cuts t) left (stopped_at number fault)
    by None end = at_unpriced b claim zs cuts t left number end
    by (Some kind) end = at_fault b claim zs cuts t left number kind end

-- a certificate one of whose lines in front of the tree is at fault
rejected_by : (b : BlockedProgram) (claim : Claim) (zs : List ℤ) (cuts : List Cut) (t : Tree) (visits : Option ℕ) (number : ℕ) (kind : CheckKind) (j : Judged) → j ≡ Rejected number kind
    → IsFirstBad b.named.program (blocking_over b cuts) claim (heads_of b claim zs cuts) 3 number kind
    → IsJudgedWithin b (certificate claim zs cuts t) visits j × IsTrueIfAccepted b.named.program j
rejected_by b claim zs cuts t visits number kind j is bad =
    subst (λ (x : Judged). IsJudgedWithin b (certificate claim zs cuts t) visits x × IsTrueIfAccepted b.named.program x) (sym is)
    (ended b claim zs cuts t visits number (Some kind) (head_ends b claim zs cuts t visits number kind bad), tt)

-- the line of its point
pub point_rejected : (b : BlockedProgram) (claim : Claim) (zs : List ℤ) (cuts : List Cut) (t : Tree) (visits : Option ℕ) (number : ℕ) (kind : CheckKind) (j : Judged) → j ≡ Rejected number kind
    → IsFirstBad b.named.program b.blocking claim (points_of claim zs) 3 number kind
    → IsJudgedWithin b (certificate claim zs cuts t) visits j × IsTrueIfAccepted b.named.program j
point_rejected b claim zs cuts t visits number kind j is bad =
    rejected_by b claim zs cuts t visits number kind j is (bad_points b b.blocking claim zs cuts number kind bad)

-- the line of a cut
pub cut_rejected : (b : BlockedProgram) (claim : Claim) (zs : List ℤ) (cuts : List Cut) (t : Tree) (visits : Option ℕ) (first : ℕ) (found : Rejection) (j : Judged)
    → j ≡ Rejected found.line found.kind → JudgesPoint b.named.program b.blocking claim (points_of claim zs) (Ok first) → JudgesCuts b.named.program b.dec cuts first (Err found)
    → IsJudgedWithin b (certificate claim zs cuts t) visits j × IsTrueIfAccepted b.named.program j
cut_rejected b claim zs cuts t visits first found j is point bad =
    rejected_by b claim zs cuts t visits found.line found.kind j is
    (bad_cuts b b.blocking claim zs cuts first found.line found.kind point.0 point.1 (bad (blocking_over b cuts) claim))

-- all visits of a certificate that passes are there
all_there : (b : BlockedProgram) (claim : Claim) (zs : List ℤ) (cuts : List Cut) (t : Tree) (left now : Option ℕ)
    → IsLeft b.named.program.spans (blocking_over b cuts) (tree_lines t b.named.program.spans) left now → (most : ℕ) → left ≡ Some most
    → NoneUnpriced b (certificate claim zs cuts t) most
all_there b claim zs cuts t left now spent most is = λ number f.
    no_unpriced b.named.program.spans (blocking_over b cuts) (judged_lines b.named.program b.dec (certificate claim zs cuts t)) most now
    (subst (λ (xs : List Line). IsLeft b.named.program.spans (blocking_over b cuts) xs (Some most) now) (sym (lines_are b claim zs cuts t))
    (subst (λ (o : Option ℕ). IsLeft b.named.program.spans (blocking_over b cuts) (heads_of b claim zs cuts ++ tree_lines t b.named.program.spans) o now) is
    (both_left b.named.program.spans (blocking_over b cuts) (heads_of b claim zs cuts) (tree_lines t b.named.program.spans) left left now
    (heads_left b (blocking_over b cuts) claim zs cuts left) spent)))
    f.before f.leaf f.after f.lines f.spent f.own f.are_spent f.are_own f.exceeds

-- by the lines of the tree, where those in front of it pass
pub judged_by : (b : BlockedProgram) → IsFormed b → (claim : Claim) (zs : List ℤ) (cuts : List Cut) (t : Tree) (line : ℕ) (left : Option ℕ) (r : Result NodePlace Stop)
    → line ≡ 3 + length (heads_of b claim zs cuts) → AllByRecursion (Passes b.named.program (blocking_over b cuts) claim) (heads_of b claim zs cuts)
    → JudgesLines b.named.program (blocking_over b cuts) claim (tree_lines t b.named.program.spans) (record { zone = b.named.program.spans; line = line; left = left }) r
    → IsJudgedWithin b (certificate claim zs cuts t) left (verdict_of claim r) × IsTrueIfAccepted b.named.program (verdict_of claim r)
judged_by b formed claim zs cuts t line left (Ok now) place passed judged =
    let valid = all_pass b formed claim zs cuts t
    (both_all (Passes b.named.program (blocking_over b cuts) claim) (heads_of b claim zs cuts) (tree_lines t b.named.program.spans) passed judged.2) in (
      judged_within b (certificate claim zs cuts t) left (Accepted claim) (refl, valid) (all_there b claim zs cuts t left now.left judged.3),
      accepted_true b formed claim zs cuts t valid,
    )
judged_by b formed claim zs cuts t line left (Err found) place passed judged = (
  ended b claim zs cuts t left found.line found.fault (behind_heads b claim zs cuts t left line found.line found.fault place passed judged),
  never_accepted b.named.program found.line found.fault,
)

-- by the point's line, the cuts' lines and the tree's
pub judged_so : (b : BlockedProgram) → IsFormed b → (claim : Claim) (zs : List ℤ) (cuts : List Cut) (t : Tree) (first line : ℕ) (left : Option ℕ) (r : Result NodePlace Stop)
    → JudgesPoint b.named.program b.blocking claim (points_of claim zs) (Ok first) → line ≡ first + length cuts → KeepsCuts b.named.program b.dec cuts
    → JudgesLines b.named.program (blocking_over b cuts) claim (tree_lines t b.named.program.spans) (record { zone = b.named.program.spans; line = line; left = left }) r
    → IsJudgedWithin b (certificate claim zs cuts t) left (verdict_of claim r) × IsTrueIfAccepted b.named.program (verdict_of claim r)
judged_so b formed claim zs cuts t first line left r point behind kept judged =
    judged_by b formed claim zs cuts t line left r (behind ∙ heads_end b claim zs cuts first point.0) (heads_pass b b.blocking claim zs cuts point.1 (kept_pass b.named.program b.dec cuts kept)) judged
