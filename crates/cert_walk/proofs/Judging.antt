-- Lines that are judged behind other lines.
use Rattle.std.proofs.Common.{◌≡◌, refl, sym, ap, subst, ◌∙◌, ℕ, ◌+◌, Bool, true, false, List, [], ◌∷◌, ◌++◌, length, Option, Some, None, arith, append_assoc, length-append}
use Rattle.std.proofs.Math.IntN.{ℤ}
use Rattle.std.specs.List.{AllByRecursion}
use Rattle.bp_theory.specs.Program.{Program}
use Rattle.bp_theory.specs.Blocking.{Blocking}
use Rattle.bp_theory.specs.Bound.{Fits}
use Rattle.bp_theory.specs.Trees.{Tree, split}
use Rattle.bp_theory.specs.Judgement.{Line, split_line, leaf_line, tree_lines, Passes}
use Rattle.bp_theory.specs.declared.Span.{Span}
use Rattle.bp_theory.specs.declared.Proof.{Proof}
use Rattle.bp_theory.specs.declared.Claim.{Claim}
use Rattle.bp_theory.specs.declared.CheckKind.{CheckKind}
use Rattle.cert_line_check.specs.Judging.{ProofsFit, IsLeft, IsEnd}
use Rattle.cert_line_check.proofs.Lines.{both_all}
use Rattle.cert_line_check.proofs.LineVisits.{both_left}
use Rattle.cert_walk.specs.Turns.{Turn, to_low, to_high, zone_of, lines_before, turns_behind, root_behind}
use Rattle.cert_walk.specs.Walks.{below, whole, Front, heads_of, lines_to, TurnsFit, leaf_with}
use Rattle.cert_walk.proofs.Coming.{lines_come, roots_come}

-- ---- which lines come

pub split_comes : (p : Program) (claim : Claim) (front : Front) (v : ℕ) (at : ℤ) (ts : List Turn)
    → lines_to p claim front (below (to_low v at ∷ ts)) ≡ lines_to p claim front (below ts) ++ split_line (zone_of p.spans ts) v at ∷ []
split_comes p claim front v at ts = sym (append_assoc (heads_of p claim front) (lines_before p.spans ts) (split_line (zone_of p.spans ts) v at ∷ []))

pub node_comes : (p : Program) (claim : Claim) (front : Front) (ts : List Turn) (t : Tree) → root_behind ts t ≡ None
    → lines_to p claim front (below (turns_behind ts t)) ≡ lines_to p claim front (below ts) ++ tree_lines t (zone_of p.spans ts)
node_comes p claim front ts t none =
    ap (λ (xs : List Line). heads_of p claim front ++ xs) (lines_come p.spans ts t none)
    ∙ sym (append_assoc (heads_of p claim front) (lines_before p.spans ts) (tree_lines t (zone_of p.spans ts)))

pub root_comes : (p : Program) (claim : Claim) (front : Front) (ts : List Turn) (t root : Tree) → root_behind ts t ≡ Some root
    → lines_to p claim front (whole root) ≡ lines_to p claim front (below ts) ++ tree_lines t (zone_of p.spans ts)
root_comes p claim front ts t root is =
    ap (λ (xs : List Line). heads_of p claim front ++ xs) (sym (roots_come p.spans ts t root is))
    ∙ sym (append_assoc (heads_of p claim front) (lines_before p.spans ts) (tree_lines t (zone_of p.spans ts)))

-- ---- what is judged behind lines that pass

-- further lines pass
pub passes_on : (p : Program) (b : Blocking) (claim : Claim) (lines more all : List Line) (visits left now : Option ℕ) (line next : ℕ) → all ≡ lines ++ more
    → line ≡ 3 + length lines → AllByRecursion (Passes p b claim) lines → IsLeft p.spans b lines visits left
    → next ≡ line + length more → AllByRecursion (Passes p b claim) more → IsLeft p.spans b more left now
    → (next ≡ 3 + length all) × AllByRecursion (Passes p b claim) all × IsLeft p.spans b all visits now
passes_on p b claim lines more all visits left now line next is behind passed spent further pass spend =
    let P : List Line → Type 0 = λ xs. (next ≡ 3 + length xs) × AllByRecursion (Passes p b claim) xs × IsLeft p.spans b xs visits now in
    subst P (sym is) (
      omega (arith, behind, further, length-append lines more),
      both_all (Passes p b claim) lines more passed pass,
      both_left p.spans b lines more visits left now spent spend,
    )

-- one of them ends the judgement
pub ends_on : (p : Program) (b : Blocking) (claim : Claim) (lines more all : List Line) (visits left : Option ℕ) (line number : ℕ) (fault : Option CheckKind) → all ≡ lines ++ more
    → line ≡ 3 + length lines → AllByRecursion (Passes p b claim) lines → IsLeft p.spans b lines visits left
    → IsEnd p b claim more left line number fault → IsEnd p b claim all visits 3 number fault
ends_on p b claim lines more all visits left line number fault is behind passed spent end =
    let P : List Line → Type 0 = λ xs. IsEnd p b claim xs visits 3 number fault in
    subst P (sym is) (record {
      before = lines ++ end.before;
      line = end.line;
      after = end.after;
      parts = ap (λ (xs : List Line). lines ++ xs) end.parts ∙ sym (append_assoc lines end.before (end.line ∷ end.after));
      passed = both_all (Passes p b claim) lines end.before passed end.passed;
      now = end.now;
      is_left = both_left p.spans b lines end.before visits left end.now spent end.is_left;
      ends = end.ends;
      numbered = omega (arith, end.numbered, behind, length-append lines end.before);
    })

-- what ended the judgement still does behind further lines
pub still_ends : (p : Program) (b : Blocking) (claim : Claim) (lines more all : List Line) (visits : Option ℕ) (number : ℕ) (fault : Option CheckKind) → all ≡ lines ++ more
    → IsEnd p b claim lines visits 3 number fault → IsEnd p b claim all visits 3 number fault
still_ends p b claim lines more all visits number fault is end =
    let P : List Line → Type 0 = λ xs. IsEnd p b claim xs visits 3 number fault in
    subst P (sym is) (record {
      before = end.before;
      line = end.line;
      after = end.after ++ more;
      parts = ap (λ (xs : List Line). xs ++ more) end.parts ∙ append_assoc end.before (end.line ∷ end.after) more;
      passed = end.passed;
      now = end.now;
      is_left = end.is_left;
      ends = end.ends;
      numbered = end.numbered;
    })

-- ---- proofs that fit

pub node_fits : (b : Blocking) (ts : List Turn) (t : Tree) → root_behind ts t ≡ None → TurnsFit b (turns_behind ts t) → TurnsFit b ts × ProofsFit b t
node_fits b [] t none fits = absurd (cc)
node_fits b (to_low v at ∷ ts) t none fits = (fits.1, fits.0)
node_fits b (to_high v at low ∷ ts) t none fits = let rest = node_fits b ts (split v at low t) none fits in ((rest.1.0, rest.0), rest.1.1)

pub root_fits : (b : Blocking) (ts : List Turn) (t root : Tree) → root_behind ts t ≡ Some root → ProofsFit b root → TurnsFit b ts × ProofsFit b t
root_fits b [] t root is fits = let same : t ≡ root = cc in (tt, subst (ProofsFit b) (sym same) fits)
root_fits b (to_low v at ∷ ts) t root is fits = absurd (cc)
root_fits b (to_high v at low ∷ ts) t root is fits = let rest = root_fits b ts (split v at low t) root is fits in ((rest.1.0, rest.0), rest.1.1)

-- ---- leaves

pub leaf_lines : (proof : Proof) (is_open : Bool) (zone : List Span) → tree_lines (leaf_with is_open proof) zone ≡ leaf_line (record { zone = zone; proof = proof; is_open = is_open }) ∷ []
leaf_lines proof true zone = refl
leaf_lines proof false zone = refl

pub leaf_fits : (b : Blocking) (proof : Proof) (is_open : Bool) → ProofsFit b (leaf_with is_open proof) → Fits b proof
leaf_fits b proof true h = h
leaf_fits b proof false h = h
