-- Lines of cuts, one behind another.
use Rattle.std.proofs.Common.{◌≡◌, refl, sym, ap, subst, ◌∙◌, ℕ, zero, suc, ◌+◌, ◌<◌, List, [], ◌∷◌, ◌++◌, take, length, get_or, Option, None, Some, Ok, Err, arith, append-nil, append_assoc}
use Rattle.std.specs.List.{AllByRecursion}
use Rattle.std.proofs.lemmas.List.{length-take}
use Rattle.std.proofs.lemmas.List.Elements.{recursion_from_All}
use Rattle.bp_theory.specs.Program.{Program, KeepsActivity}
use Rattle.bp_theory.specs.Blocking.{Blocking}
use Rattle.bp_theory.specs.Decomposition.{Decomposition, ProofRow, proof_rows}
use Rattle.bp_theory.specs.Cuts.{IsFitting, AreFitting, cut_row, cut_rows}
use Rattle.bp_theory.specs.Judgement.{Line, cut_line, cut_lines, Passes, cut_sign, large_cut}
use Rattle.bp_theory.specs.declared.CheckKind.TheVariants as kinds
use Rattle.bp_theory.specs.declared.Claim.{Claim}
use Rattle.bp_theory.specs.declared.Cut.{Cut}
use Rattle.bp_theory.specs.declared.Row.{Row}
use Rattle.bp_theory.specs.declared.Span.{Span}
use Rattle.block_program.specs.Cuts.{KeepsCuts}
use Rattle.cut_sums.specs.Cutting.{IsCutOver, IsEarlierCut, HasFittingSigns}
use Rattle.round_cut.specs.Several.{AreCutsOver, AreRowsOfCuts}
use Rattle.round_cut.proofs.SeveralLemmas.{as_many_rows}
use Rattle.cert_line_check.specs.Cutting.{AlwaysPass, JudgesCut, JudgesCuts}
use Rattle.cert_line_check.specs.Judging.{IsLeft}
use Rattle.cert_line_check.specs.Visits.{AreLineVisits}
use Rattle.cert_line_check.specs.declared.place.Rejection.{Rejection}
use Rattle.cert_line_check.proofs.Lines.{second_all}

-- ---- lists of cuts

rows_behind : (p : Program) (d : Decomposition) (earlier : List Row) (xs ys : List Cut) → cut_rows p d earlier (xs ++ ys) ≡ cut_rows p d (cut_rows p d earlier xs) ys
rows_behind p d earlier [] ys = refl
rows_behind p d earlier (x ∷ xs) ys = rows_behind p d (earlier ++ cut_row p (proof_rows p d earlier) x ∷ []) xs ys

lines_behind : (p : Program) (d : Decomposition) (earlier : List Row) (xs ys : List Cut)
    → cut_lines p d earlier (xs ++ ys) ≡ cut_lines p d earlier xs ++ cut_lines p d (cut_rows p d earlier xs) ys
lines_behind p d earlier [] ys = refl
lines_behind p d earlier (x ∷ xs) ys =
    ap (λ (ls : List Line). cut_line (proof_rows p d earlier) x ∷ ls) (lines_behind p d (earlier ++ cut_row p (proof_rows p d earlier) x ∷ []) xs ys)

pub rows_many : (p : Program) (d : Decomposition) (cuts : List Cut) (rows : List Row) → AreRowsOfCuts p d cuts rows → length rows ≡ length cuts
rows_many p d cuts rows h = omega (arith, ap (λ (rs : List Row). length rs) h.are, as_many_rows p d [] cuts)

pub lines_many : (p : Program) (d : Decomposition) (earlier : List Row) (cuts : List Cut) → length (cut_lines p d earlier cuts) ≡ length cuts
lines_many p d earlier [] = refl
lines_many p d earlier (cut ∷ cuts) = ap suc (lines_many p d (earlier ++ cut_row p (proof_rows p d earlier) cut ∷ []) cuts)

-- the line of one cut more
pub line_more : (p : Program) (d : Decomposition) (cuts : List Cut) (cut : Cut) (rows : List Row) → rows ≡ cut_rows p d [] cuts
    → cut_lines p d [] (cuts ++ cut ∷ []) ≡ cut_lines p d [] cuts ++ cut_line (proof_rows p d rows) cut ∷ []
line_more p d cuts cut rows is =
    subst (λ (rs : List Row). cut_lines p d [] (cuts ++ cut ∷ []) ≡ cut_lines p d [] cuts ++ cut_line (proof_rows p d rs) cut ∷ []) (sym is) (lines_behind p d [] cuts (cut ∷ []))

-- what is asked of each cut of a list
pub over_last : (p : Program) (d : Decomposition) (earlier : List Row) (xs : List Cut) (cut : Cut) (ys : List Cut) → AreCutsOver p d earlier (xs ++ cut ∷ ys)
    → IsCutOver (proof_rows p d (cut_rows p d earlier xs)) cut
over_last p d earlier [] cut ys h = h.0
over_last p d earlier (x ∷ xs) cut ys h = over_last p d (earlier ++ cut_row p (proof_rows p d earlier) x ∷ []) xs cut ys h.1

pub over_less : (p : Program) (d : Decomposition) (earlier : List Row) (xs ys : List Cut) → AreCutsOver p d earlier (xs ++ ys) → AreCutsOver p d earlier xs
over_less p d earlier [] ys h = tt
over_less p d earlier (x ∷ xs) ys h = (h.0, over_less p d (earlier ++ cut_row p (proof_rows p d earlier) x ∷ []) xs ys h.1)

-- the parts of a list at a place
parts_at : {X : Type 0} (xs : List X) (i : ℕ) (d : X) → i < length xs → (rest : List X) × (xs ≡ take i xs ++ get_or xs i d ∷ rest)
parts_at [] i d less = absurd (omega (arith, less))
parts_at (y ∷ xs) zero d less = (xs, refl)
parts_at {X} (y ∷ xs) (suc i) d less =
    let more = parts_at xs i d (omega (arith, less)) in
    (more.0, ap (λ (zs : List X). y ∷ zs) more.1)

-- ---- one cut

pub cut_passes : (p : Program) (rows : List ProofRow) (cut : Cut) (line : ℕ) (row : Row) → IsCutOver rows cut → row ≡ cut_row p rows cut → HasFittingSigns rows cut → IsEarlierCut p row
    → JudgesCut p rows cut line (Ok row)
cut_passes p rows cut line row over is signs earlier =
    let fits : IsFitting rows cut = record { divides = over.divides; combines = signs } in
    (is, earlier, signs, λ b claim. ((fits, subst (KeepsActivity p) is earlier.bounded), tt))

pub sign_fails : (p : Program) (rows : List ProofRow) (cut : Cut) (line : ℕ) (found : Rejection) → found ≡ record { line = line; kind = kinds.Sign } → (HasFittingSigns rows cut → ⊥)
    → JudgesCut p rows cut line (Err found)
sign_fails p rows cut line found is none =
    subst (λ (x : Rejection). JudgesCut p rows cut line (Err x)) (sym is) (refl, λ b claim. cut_sign rows cut (λ fits. none fits.combines))

pub size_fails : (p : Program) (rows : List ProofRow) (cut : Cut) (line : ℕ) (found : Rejection) → found ≡ record { line = line; kind = kinds.Cut } → IsCutOver rows cut
    → HasFittingSigns rows cut → (KeepsActivity p (cut_row p rows cut) → ⊥) → JudgesCut p rows cut line (Err found)
size_fails p rows cut line found is over signs large =
    subst (λ (x : Rejection). JudgesCut p rows cut line (Err x)) (sym is)
    (refl, λ b claim. large_cut rows cut (record { divides = over.divides; combines = signs }) large)

-- ---- cuts in order

-- the lines of cuts that are kept pass
rows_begin : (p : Program) (d : Decomposition) (earlier : List Row) (cuts : List Cut) → (more : List Row) × (cut_rows p d earlier cuts ≡ earlier ++ more)
rows_begin p d earlier [] = ([], sym (append-nil earlier))
rows_begin p d earlier (cut ∷ cuts) =
    let row : Row = cut_row p (proof_rows p d earlier) cut in
    let rest = rows_begin p d (earlier ++ row ∷ []) cuts in
    (row ∷ rest.0, rest.1 ∙ append_assoc earlier (row ∷ []) rest.0)

lines_pass : (p : Program) (d : Decomposition) (b : Blocking) (claim : Claim) (earlier : List Row) (cuts : List Cut) → AreFitting p d earlier cuts
    → AllByRecursion (KeepsActivity p) (cut_rows p d earlier cuts) → AllByRecursion (Passes p b claim) (cut_lines p d earlier cuts)
lines_pass p d b claim earlier [] fitting kept = tt
lines_pass p d b claim earlier (cut ∷ cuts) fitting kept =
    let row : Row = cut_row p (proof_rows p d earlier) cut in
    let rest = rows_begin p d (earlier ++ row ∷ []) cuts in
    let all : AllByRecursion (KeepsActivity p) (earlier ++ row ∷ rest.0) =
    subst (λ (rs : List Row). AllByRecursion (KeepsActivity p) rs) (rest.1 ∙ append_assoc earlier (row ∷ []) rest.0) kept in
    ((fitting.0, (second_all (KeepsActivity p) earlier (row ∷ rest.0) all).0), lines_pass p d b claim (earlier ++ row ∷ []) cuts fitting.1 kept)

pub kept_pass : (p : Program) (d : Decomposition) (cuts : List Cut) → KeepsCuts p d cuts → AlwaysPass p (cut_lines p d [] cuts)
kept_pass p d cuts h = λ b claim. lines_pass p d b claim [] cuts h.fitting (recursion_from_All (KeepsActivity p) (cut_rows p d [] cuts) h.bounded)

-- a line behind those of cuts that are kept is at fault
pub fails_at : (p : Program) (d : Decomposition) (cuts : List Cut) (rows : List Row) (i : ℕ) (e : Cut) (first line : ℕ) (found : Rejection) → i < length cuts
    → AreRowsOfCuts p d (take i cuts) rows → line ≡ first + i → JudgesCut p (proof_rows p d rows) (get_or cuts i e) line (Err found) → JudgesCuts p d cuts first (Err found)
fails_at p d cuts rows i e first line found less h place judged = λ b claim.
    let had : List Cut = take i cuts in
    let cut : Cut = get_or cuts i e in
    let rest = parts_at cuts i e less in
    record {
      before = cut_lines p d [] had;
      line = cut_line (proof_rows p d rows) cut;
      after = cut_lines p d (rows ++ cut_row p (proof_rows p d rows) cut ∷ []) rest.0;
      parts = ap (λ (xs : List Cut). cut_lines p d [] xs) rest.1 ∙ lines_behind p d [] had (cut ∷ rest.0)
          ∙ ap (λ (rs : List Row). cut_lines p d [] had ++ cut_lines p d rs (cut ∷ rest.0)) (sym h.are);
      passed = kept_pass p d had h.kept b claim;
      has_fault = judged.1 b claim;
      numbered = omega (arith, judged.0, place, lines_many p d [] had, length-take i cuts, less);
    }

-- ---- visits

no_visits : (root : List Span) (b : Blocking) (p : Program) (d : Decomposition) (earlier : List Row) (cuts : List Cut) → AreLineVisits root b (cut_lines p d earlier cuts) 0
no_visits root b p d earlier [] = refl
no_visits root b p d earlier (cut ∷ cuts) = (0, 0, refl, no_visits root b p d (earlier ++ cut_row p (proof_rows p d earlier) cut ∷ []) cuts, refl)

pub cuts_left : (root : List Span) (b : Blocking) (p : Program) (d : Decomposition) (cuts : List Cut) (left : Option ℕ) → IsLeft root b (cut_lines p d [] cuts) left left
cuts_left root b p d cuts None = refl
cuts_left root b p d cuts (Some most) = (0, most, no_visits root b p d [] cuts, refl, omega arith)

pub cut_left : (root : List Span) (b : Blocking) (rows : List ProofRow) (cut : Cut) (left : Option ℕ) → IsLeft root b (cut_line rows cut ∷ []) left left
cut_left root b rows cut None = refl
cut_left root b rows cut (Some most) = (0, most, (0, 0, refl, refl, refl), refl, omega arith)
