-- The lines in front of a certificate's tree, and all of its lines together.
use Rattle.std.proofs.Common.{◌≡◌, refl, sym, ap, subst, ◌∙◌, ℕ, ◌+◌, ◌<◌, ◌^◌, List, [], ◌∷◌, ◌++◌, length, get_or, Option, Some, None, Result, Ok, Err, arith, inl, inr, append_assoc, length-append}
use Rattle.std.proofs.Math.IntN.{ℤ}
use Rattle.std.specs.Prelude.{◌⊎◌, ◌==◌, true, IfOk}
use Rattle.std.specs.List.{AllByRecursion}
use Rattle.std.specs.Option.{option_map}
use Rattle.std.proofs.lemmas.Bool.{eqb-true}
use Rattle.std.proofs.lemmas.List.{nil_from_length}
use Rattle.std.proofs.lemmas.List.Elements.{recursion_from_All, All-weaker}
use Rattle.bp_theory.specs.Program.{Program}
use Rattle.bp_theory.specs.Blocking.{Blocking}
use Rattle.bp_theory.specs.Bound.{Fits}
use Rattle.bp_theory.specs.Decomposition.{Decomposition, ProofRow, whole_row, link_row, no_row, proof_rows, blocking_of}
use Rattle.bp_theory.specs.Cuts.{cut_row, cut_rows}
use Rattle.bp_theory.specs.Trees.{Tree, Leaf, leaves}
use Rattle.bp_theory.specs.Claims.{IsTrueClaim, IsCertified}
use Rattle.bp_theory.specs.Judgement.{Line, point_line, leaf_line, cut_lines, Passes, HasFault, outside, missed, other_value, cut_sign, large_cut, unsound, leaf_sign, weak, open_there, named_value, point_lines, tree_lines, judged_lines, HasItsPoint, IsFirstFault}
use Rattle.bp_theory.specs.declared.Span.{Span}
use Rattle.bp_theory.specs.declared.Claim.{Claim}
use Rattle.bp_theory.specs.declared.CheckKind.{CheckKind}
use Rattle.bp_theory.specs.declared.Cut.{Cut}
use Rattle.bp_theory.specs.declared.Row.{Row}
use Rattle.bp_theory.proofs.JudgeProof.{judged_lem}
use Rattle.bp_theory.proofs.CutProof.{certified_is_true_lem}
use Rattle.block_program.specs.Blocked.{BlockedProgram, IsFormed}
use Rattle.bp_model.specs.Named.{NamedProgram}
use Rattle.cert_format.specs.Written.{certificate}
use Rattle.cert_text.specs.Programs as texts
use Rattle.cert_text.specs.Programs.{AreOver, GoesWith}
use Rattle.cut_sums.specs.Cutting.{IsWhole}
use Rattle.round_cut.specs.Several.{AreCutsOver, AreRowsOfCuts}
use Rattle.cert_line_check.specs.Visits.{IsLineVisits, AreLineVisits}
use Rattle.cert_line_check.specs.Judging.{ProofsFit, IsFirstBad, IsLeft, IsAfforded, IsEnd, JudgesLines}
use Rattle.cert_line_check.specs.Cutting.{AlwaysPass, blocking_over, HasCuts}
use Rattle.cert_line_check.specs.declared.place.NodePlace.{NodePlace}
use Rattle.cert_line_check.specs.declared.place.Stop.{Stop}
use Rattle.cert_line_check.proofs.Lines.{both_all, second_all, proofs_fit}
use Rattle.cert_line_check.proofs.CutLines.{rows_many, lines_many, cuts_left}
use Rattle.cert_line_check.proofs.LineVisits.{split_visits, both_left, points_left}

-- the lines of a point
abbrev pub points_of : Claim → List ℤ → List Line
points_of claim zs = point_lines (named_value claim) (option_map (λ _. zs) (named_value claim))

-- the lines in front of a certificate's tree
abbrev pub heads_of : BlockedProgram → Claim → List ℤ → List Cut → List Line
heads_of b claim zs cuts = points_of claim zs ++ cut_lines b.named.program b.dec [] cuts

-- a certificate's lines
pub lines_are : (b : BlockedProgram) (claim : Claim) (zs : List ℤ) (cuts : List Cut) (t : Tree)
    → judged_lines b.named.program b.dec (certificate claim zs cuts t) ≡ heads_of b claim zs cuts ++ tree_lines t b.named.program.spans
lines_are b claim zs cuts t = refl

-- ---- programs with cuts

-- a program without cuts is itself with none
pub without_cuts : (b : BlockedProgram) (cuts : List Cut) → IsFormed b → b.cuts ≡ [] → cuts ≡ [] → HasCuts b cuts b
without_cuts b cuts formed uncut none = record { formed = formed; named = refl; dec = refl; cuts = uncut ∙ sym none }

-- the blocking of a program that has a certificate's cuts is the one that the certificate is judged over
pub same_blocking : (b : BlockedProgram) (cuts : List Cut) (other : BlockedProgram) → HasCuts b cuts other → other.blocking ≡ blocking_over b cuts
same_blocking b cuts other h =
    let P : NamedProgram → Type 0 = λ n. other.blocking ≡ blocking_of n.program other.dec (cut_rows n.program other.dec [] other.cuts) in
    let Q : Decomposition → Type 0 = λ d. other.blocking ≡ blocking_of b.named.program d (cut_rows b.named.program d [] other.cuts) in
    subst (λ (cs : List Cut). other.blocking ≡ blocking_over b cs) h.cuts (subst Q h.dec (subst P h.named h.formed.blocking))

-- where no cut has a row there are none
pub no_cuts : (p : Program) (d : Decomposition) (cuts : List Cut) (rows : List Row) → AreRowsOfCuts p d cuts rows → (length rows == 0) ≡ true → cuts ≡ []
no_cuts p d cuts rows h none = nil_from_length cuts (omega (arith, rows_many p d cuts rows h, eqb-true (length rows) 0 none))

-- what is judged over such a program
pub judged_there : (b : BlockedProgram) (cuts : List Cut) (other : BlockedProgram) (claim : Claim) (t : Tree) (line : ℕ) (left : Option ℕ) (r : Result NodePlace Stop)
    → HasCuts b cuts other
    → JudgesLines other.named.program other.blocking claim (tree_lines t other.named.program.spans) (record { zone = other.named.program.spans; line = line; left = left }) r
    → JudgesLines b.named.program (blocking_over b cuts) claim (tree_lines t b.named.program.spans) (record { zone = b.named.program.spans; line = line; left = left }) r
judged_there b cuts other claim t line left r h judged =
    let P : NamedProgram → Type 0 = λ n. JudgesLines n.program other.blocking claim (tree_lines t n.program.spans) (record { zone = n.program.spans; line = line; left = left }) r in
    let Q : Blocking → Type 0 = λ k. JudgesLines b.named.program k claim (tree_lines t b.named.program.spans) (record { zone = b.named.program.spans; line = line; left = left }) r in
    subst Q (same_blocking b cuts other h) (subst P h.named judged)

-- the same of what may want memory
pub judged_there_too : {E : Type 0} (b : BlockedProgram) (cuts : List Cut) (other : BlockedProgram) (claim : Claim) (t : Tree) (line : ℕ) (left : Option ℕ) (r : Result (Result NodePlace Stop) E)
    → HasCuts b cuts other
    → IfOk r (λ x. JudgesLines other.named.program other.blocking claim (tree_lines t other.named.program.spans) (record { zone = other.named.program.spans; line = line; left = left }) x)
    → IfOk r (λ x. JudgesLines b.named.program (blocking_over b cuts) claim (tree_lines t b.named.program.spans) (record { zone = b.named.program.spans; line = line; left = left }) x)
judged_there_too b cuts other claim t line left (Ok x) h judged = judged_there b cuts other claim t line left x h judged
judged_there_too b cuts other claim t line left (Err e) h judged = tt

-- ---- the lines in front of a tree

-- a point's line passes over each blocking alike
pub points_pass : (p : Program) (k l : Blocking) (claim : Claim) (named : Option ℤ) (zs : List ℤ) → AllByRecursion (Passes p k claim) (point_lines named (option_map (λ _. zs) named))
    → AllByRecursion (Passes p l claim) (point_lines named (option_map (λ _. zs) named))
points_pass p k l claim None zs h = tt
points_pass p k l claim (Some v) zs h = h

-- and is at fault alike
pub line_fails : (p : Program) (k l : Blocking) (claim : Claim) (v : ℤ) (zs : List ℤ) (kind : CheckKind) → HasFault p k claim (point_line v zs) kind → HasFault p l claim (point_line v zs) kind
line_fails p k l claim v zs kind (outside w x n) = outside w x n
line_fails p k l claim v zs kind (missed w x inside n) = missed w x inside n
line_fails p k l claim v zs kind (other_value w x feasible n) = other_value w x feasible n

nothing_there : {X : Type 0} (before : List X) (x : X) (after : List X) → [] ≡ before ++ x ∷ after → ⊥
nothing_there [] x after e = cc
nothing_there (y ∷ before) x after e = cc

points_fail : (p : Program) (k l : Blocking) (claim : Claim) (named : Option ℤ) (zs : List ℤ) (number : ℕ) (kind : CheckKind)
    → IsFirstBad p k claim (point_lines named (option_map (λ _. zs) named)) 3 number kind → IsFirstBad p l claim (point_lines named (option_map (λ _. zs) named)) 3 number kind
points_fail p k l claim None zs number kind bad = absurd (nothing_there bad.before bad.line bad.after bad.parts)
points_fail p k l claim (Some v) zs number kind bad = by bad.before bad.parts bad.numbered
  where
    by : (before : List Line) → point_line v zs ∷ [] ≡ before ++ bad.line ∷ bad.after → number ≡ 3 + length before → IsFirstBad p l claim (point_line v zs ∷ []) 3 number kind
    by [] parts numbered =
        let same : point_line v zs ≡ bad.line = cc in
        record {
          before = [];
          line = point_line v zs;
          after = [];
          parts = refl;
          passed = tt;
          has_fault = line_fails p k l claim v zs kind (subst (λ (x : Line). HasFault p k claim x kind) (sym same) bad.has_fault);
          numbered = numbered;
        }
    by (x ∷ before) parts numbered = let rest : [] ≡ before ++ bad.line ∷ bad.after = cc in absurd (nothing_there before bad.line bad.after rest)

-- the lines of a point and of cuts pass together
pub heads_pass : (b : BlockedProgram) (k : Blocking) (claim : Claim) (zs : List ℤ) (cuts : List Cut) → AllByRecursion (Passes b.named.program k claim) (points_of claim zs)
    → AlwaysPass b.named.program (cut_lines b.named.program b.dec [] cuts) → AllByRecursion (Passes b.named.program (blocking_over b cuts) claim) (heads_of b claim zs cuts)
heads_pass b k claim zs cuts points passed =
    both_all (Passes b.named.program (blocking_over b cuts) claim) (points_of claim zs) (cut_lines b.named.program b.dec [] cuts)
    (points_pass b.named.program k (blocking_over b cuts) claim (named_value claim) zs points) (passed (blocking_over b cuts) claim)

-- they take no visits
pub heads_left : (b : BlockedProgram) (k : Blocking) (claim : Claim) (zs : List ℤ) (cuts : List Cut) (left : Option ℕ) → IsLeft b.named.program.spans k (heads_of b claim zs cuts) left left
heads_left b k claim zs cuts left =
    both_left b.named.program.spans k (points_of claim zs) (cut_lines b.named.program b.dec [] cuts) left left left
    (points_left b.named.program.spans k (named_value claim) zs left) (cuts_left b.named.program.spans k b.named.program b.dec cuts left)

-- one of them is at fault
pub bad_points : (b : BlockedProgram) (k : Blocking) (claim : Claim) (zs : List ℤ) (cuts : List Cut) (number : ℕ) (kind : CheckKind)
    → IsFirstBad b.named.program k claim (points_of claim zs) 3 number kind → IsFirstBad b.named.program (blocking_over b cuts) claim (heads_of b claim zs cuts) 3 number kind
bad_points b k claim zs cuts number kind bad =
    let found = points_fail b.named.program k (blocking_over b cuts) claim (named_value claim) zs number kind bad in
    let more : List Line = cut_lines b.named.program b.dec [] cuts in
    record {
      before = found.before;
      line = found.line;
      after = found.after ++ more;
      parts = ap (λ (xs : List Line). xs ++ more) found.parts ∙ append_assoc found.before (found.line ∷ found.after) more;
      passed = found.passed;
      has_fault = found.has_fault;
      numbered = found.numbered;
    }

pub bad_cuts : (b : BlockedProgram) (k : Blocking) (claim : Claim) (zs : List ℤ) (cuts : List Cut) (first number : ℕ) (kind : CheckKind) → first ≡ 3 + length (points_of claim zs)
    → AllByRecursion (Passes b.named.program k claim) (points_of claim zs) → IsFirstBad b.named.program (blocking_over b cuts) claim (cut_lines b.named.program b.dec [] cuts) first number kind
    → IsFirstBad b.named.program (blocking_over b cuts) claim (heads_of b claim zs cuts) 3 number kind
bad_cuts b k claim zs cuts first number kind place points bad =
    let front : List Line = points_of claim zs in
    let P : Line → Type 0 = Passes b.named.program (blocking_over b cuts) claim in
    record {
      before = front ++ bad.before;
      line = bad.line;
      after = bad.after;
      parts = ap (λ (xs : List Line). front ++ xs) bad.parts ∙ sym (append_assoc front bad.before (bad.line ∷ bad.after));
      passed = both_all P front bad.before (points_pass b.named.program k (blocking_over b cuts) claim (named_value claim) zs points) bad.passed;
      has_fault = bad.has_fault;
      numbered = omega (arith, bad.numbered, place, length-append front bad.before);
    }

-- a line of the tree ends the walk over all lines, where those in front of it pass
pub behind_heads : (b : BlockedProgram) (claim : Claim) (zs : List ℤ) (cuts : List Cut) (t : Tree) (left : Option ℕ) (first number : ℕ) (fault : Option CheckKind)
    → first ≡ 3 + length (heads_of b claim zs cuts) → AllByRecursion (Passes b.named.program (blocking_over b cuts) claim) (heads_of b claim zs cuts)
    → IsEnd b.named.program (blocking_over b cuts) claim (tree_lines t b.named.program.spans) left first number fault
    → IsEnd b.named.program (blocking_over b cuts) claim (heads_of b claim zs cuts ++ tree_lines t b.named.program.spans) left 3 number fault
behind_heads b claim zs cuts t left first number fault line passed found =
    let heads : List Line = heads_of b claim zs cuts in
    record {
      before = heads ++ found.before;
      line = found.line;
      after = found.after;
      parts = ap (λ (xs : List Line). heads ++ xs) found.parts ∙ sym (append_assoc heads found.before (found.line ∷ found.after));
      passed = both_all (Passes b.named.program (blocking_over b cuts) claim) heads found.before passed found.passed;
      now = found.now;
      is_left = both_left b.named.program.spans (blocking_over b cuts) heads found.before left left found.now (heads_left b (blocking_over b cuts) claim zs cuts left) found.is_left;
      ends = found.ends;
      numbered = omega (arith, found.numbered, line, length-append heads found.before);
    }

-- a line in front of it ends it, which takes no visits
record HasFreeLine (b : BlockedProgram) (k : Blocking) (before : List Line) (line : Line) (left : Option ℕ) : Type 0 where
  is_left : IsLeft b.named.program.spans k before left left
  is_free : (leaf : Leaf) → line ≡ leaf_line leaf → IsAfforded b.named.program.spans k leaf.zone leaf.proof.picked left

free_line : (b : BlockedProgram) (k : Blocking) (claim : Claim) (zs : List ℤ) (cuts : List Cut) (before : List Line) (line : Line) (after : List Line) (left : Option ℕ)
    → heads_of b claim zs cuts ≡ before ++ line ∷ after → HasFreeLine b k before line left
free_line b k claim zs cuts before line after None parts = record { is_left = refl; is_free = λ leaf e. tt }
free_line b k claim zs cuts before line after (Some most) parts =
    let root : List Span = b.named.program.spans in
    let heads = heads_left b k claim zs cuts (Some most) in
    let same : Some most ≡ Some heads.1 = heads.3 in
    let equal : most ≡ heads.1 = cc in
    let cut = split_visits root k before (line ∷ after) heads.0 (subst (λ (xs : List Line). AreLineVisits root k xs heads.0) parts heads.2) in
    record {
      is_left = (cut.0, most, cut.2, refl, omega (arith, heads.4, equal, cut.4));
      is_free = λ leaf e. (
        cut.3.0,
        subst (λ (l : Line). IsLineVisits root k l cut.3.0) e cut.3.2,
        omega (arith, heads.4, equal, cut.4, cut.3.4),
      );
    }

pub head_ends : (b : BlockedProgram) (claim : Claim) (zs : List ℤ) (cuts : List Cut) (t : Tree) (left : Option ℕ) (number : ℕ) (kind : CheckKind)
    → IsFirstBad b.named.program (blocking_over b cuts) claim (heads_of b claim zs cuts) 3 number kind
    → IsEnd b.named.program (blocking_over b cuts) claim (heads_of b claim zs cuts ++ tree_lines t b.named.program.spans) left 3 number (Some kind)
head_ends b claim zs cuts t left number kind found =
    let nodes : List Line = tree_lines t b.named.program.spans in
    let free = free_line b (blocking_over b cuts) claim zs cuts found.before found.line found.after left found.parts in
    record {
      before = found.before;
      line = found.line;
      after = found.after ++ nodes;
      parts = ap (λ (xs : List Line). xs ++ nodes) found.parts ∙ append_assoc found.before (found.line ∷ found.after) nodes;
      passed = found.passed;
      now = left;
      is_left = free.is_left;
      ends = (found.has_fault, λ leaf e signs. free.is_free leaf e);
      numbered = found.numbered;
    }

-- a line with a fault doesn't pass
pub fault_fails : (p : Program) (b : Blocking) (claim : Claim) (line : Line) (kind : CheckKind) → HasFault p b claim line kind → Passes p b claim line → ⊥
fault_fails p b claim line kind (outside v x n) h = n h.feasible.inside
fault_fails p b claim line kind (missed v x inside n) h = n h.feasible.rows
fault_fails p b claim line kind (other_value v x feasible n) h = n h.has_value
fault_fails p b claim line kind (cut_sign rows cut n) h = n h.0
fault_fails p b claim line kind (large_cut rows cut fits n) h = n h.1
fault_fails p b claim line kind (unsound zone v at n) h = n h
fault_fails p b claim line kind (leaf_sign leaf n) h = n h.0
fault_fails p b claim line kind (weak leaf signs n) h = n h.1
fault_fails p b claim line kind (open_there leaf signs shows e n) h = n (h.2 e)

has_point : (named : Option ℤ) (zs : List ℤ) → HasItsPoint named (option_map (λ _. zs) named)
has_point None zs = tt
has_point (Some v) zs = tt

-- all lines pass
pub all_pass : (b : BlockedProgram) → IsFormed b → (claim : Claim) (zs : List ℤ) (cuts : List Cut) (t : Tree)
    → AllByRecursion (Passes b.named.program (blocking_over b cuts) claim) (heads_of b claim zs cuts ++ tree_lines t b.named.program.spans)
    → IsCertified b.named.program b.dec (certificate claim zs cuts t)
all_pass b formed claim zs cuts t passed =
    by (judged_lem.total b.named.program b.dec (certificate claim zs cuts t) formed.kept.proper (has_point (named_value claim) zs))
  where
    P : Line → Type 0
    P = Passes b.named.program (blocking_over b cuts) claim

    all : AllByRecursion P (judged_lines b.named.program b.dec (certificate claim zs cuts t))
    all = subst (λ (xs : List Line). AllByRecursion P xs) (sym (lines_are b claim zs cuts t)) passed

    by : IsCertified b.named.program b.dec (certificate claim zs cuts t) ⊎ ((number : ℕ) × (kind : CheckKind) × IsFirstFault b.named.program b.dec (certificate claim zs cuts t) number kind)
        → IsCertified b.named.program b.dec (certificate claim zs cuts t)
    by (inl valid) = valid
    by (inr found) =
        let f = found.2 in
        let here = second_all P f.before (f.line ∷ f.after) (subst (λ (xs : List Line). AllByRecursion P xs) f.lines all) in
        absurd (fault_fails b.named.program (blocking_over b cuts) claim f.line found.1 f.has_fault here.0)

-- what is accepted is true
pub accepted_true : (b : BlockedProgram) → IsFormed b → (claim : Claim) (zs : List ℤ) (cuts : List Cut) (t : Tree) → IsCertified b.named.program b.dec (certificate claim zs cuts t)
    → IsTrueClaim b.named.program claim
accepted_true b formed claim zs cuts t valid = certified_is_true_lem b.named.program b.dec (certificate claim zs cuts t) formed.kept.closed valid

-- the lines of a certificate's tree can be counted
pub few_lines : (b : BlockedProgram) (claim : Claim) (zs : List ℤ) (cuts : List Cut) (t : Tree) (first : ℕ) → GoesWith b (certificate claim zs cuts t)
    → first ≡ 3 + length (heads_of b claim zs cuts) → first + length (tree_lines t b.named.program.spans) < 2 ^ 64
few_lines b claim zs cuts t first goes line =
    omega (
      arith,
      goes.lines,
      line,
      ap (λ (xs : List Line). length xs) (lines_are b claim zs cuts t),
      length-append (heads_of b claim zs cuts) (tree_lines t b.named.program.spans),
    )

-- the number of the line behind those in front of a tree
pub heads_end : (b : BlockedProgram) (claim : Claim) (zs : List ℤ) (cuts : List Cut) (first : ℕ) → first ≡ 3 + length (points_of claim zs)
    → first + length cuts ≡ 3 + length (heads_of b claim zs cuts)
heads_end b claim zs cuts first place =
    omega (arith, place, length-append (points_of claim zs) (cut_lines b.named.program b.dec [] cuts), lines_many b.named.program b.dec [] cuts)

whole_row_too : (row : ProofRow) → texts.IsWhole row → IsWhole row
whole_row_too (whole_row row) h = tt
whole_row_too (link_row v k) h = h
whole_row_too no_row h = h

-- the cuts of a certificate are over the rows before them
pub cuts_over : (p : Program) (d : Decomposition) (earlier : List Row) (cuts : List Cut) → AreOver p d earlier cuts → AreCutsOver p d earlier cuts
cuts_over p d earlier [] h = tt
cuts_over p d earlier (cut ∷ cuts) h = (
  record {
    divides = h.0.divides;
    small = h.0.small;
    whole = All-weaker (λ (m : ℕ × ℤ). texts.IsWhole (get_or (proof_rows p d earlier) m.0 no_row)) (λ (m : ℕ × ℤ). IsWhole (get_or (proof_rows p d earlier) m.0 no_row))
        (λ m whole. whole_row_too (get_or (proof_rows p d earlier) m.0 no_row) whole) cut.rows h.0.whole;
  },
  cuts_over p d (earlier ++ cut_row p (proof_rows p d earlier) cut ∷ []) cuts h.1,
)

pub goes_fit : (b : BlockedProgram) (claim : Claim) (zs : List ℤ) (cuts : List Cut) (t : Tree) → GoesWith b (certificate claim zs cuts t) → ProofsFit (blocking_over b cuts) t
goes_fit b claim zs cuts t goes =
    proofs_fit (blocking_over b cuts) t b.named.program.spans
    (recursion_from_All (λ (leaf : Leaf). Fits (blocking_over b cuts) leaf.proof) (leaves t b.named.program.spans) goes.fits)
