-- The rows of cuts, cut by cut.
use Rattle.std.proofs.Common.{◌≡◌, ℕ, zero, suc, ◌+◌, ◌<◌, ◌≤◌, List, [], ◌∷◌, ◌++◌, take, drop, length, get_or, All, refl, sym, ap, subst, ◌∙◌, arith, append_assoc, length-append}
use Rattle.std.specs.Prelude.{ℤ, Contains}
use Rattle.std.proofs.lemmas.List.{length-take, take_more}
use Rattle.std.proofs.lemmas.List.Elements.{All-nil, All-push, All-contains, Contains-append_left, Contains-push}
use Rattle.bp_theory.specs.Limits.{most_cuts}
use Rattle.bp_theory.specs.Program.{Program, KeepsActivity}
use Rattle.bp_theory.specs.Decomposition.{Decomposition, proof_rows, HasVariablesBelow, IsTidyFrom}
use Rattle.bp_theory.specs.Cuts.{cut_row, cut_rows, rounded, AreFitting, IsFitting}
use Rattle.bp_theory.specs.declared.Sense.TheVariants.{Ge}
use Rattle.bp_theory.specs.declared.Row.{Row}
use Rattle.bp_theory.specs.declared.Cut.{Cut}
use Rattle.block_program.specs.Cuts.{KeepsCuts, IsSmallCut}
use Rattle.cut_sums.specs.Cutting.{HasCutFault, HasFittingSigns, IsCutOver, IsEarlierCut}
use Rattle.round_cut.specs.Several.{AreCutsOver, AreRowsOfCuts, HasCutsFault}
use Rattle.cut_sums.specs.declared.fault.CutFault.{CutFault}
use Rattle.cut_sums.specs.declared.fault.CutFault.TheVariants.{Sign, Large, NoMemory}
use Rattle.cut_sums.proofs.RoundLemmas.{closed_terms, tidy_within}

-- the rows of one cut more
pub cut_rows_push : (p : Program) (d : Decomposition) (earlier : List Row) (cuts : List Cut) (cut : Cut)
    → cut_rows p d earlier (cuts ++ cut ∷ []) ≡ cut_rows p d earlier cuts ++ cut_row p (proof_rows p d (cut_rows p d earlier cuts)) cut ∷ []
cut_rows_push p d earlier [] cut = refl
cut_rows_push p d earlier (c ∷ cs) cut = cut_rows_push p d (earlier ++ cut_row p (proof_rows p d earlier) c ∷ []) cs cut

-- one fitting cut more
pub fitting_push : (p : Program) (d : Decomposition) (earlier : List Row) (cuts : List Cut) (cut : Cut) → AreFitting p d earlier cuts
    → IsFitting (proof_rows p d (cut_rows p d earlier cuts)) cut → AreFitting p d earlier (cuts ++ cut ∷ [])
fitting_push p d earlier [] cut h fits = (fits, tt)
fitting_push p d earlier (c ∷ cs) cut h fits = (h.0, fitting_push p d (earlier ++ cut_row p (proof_rows p d earlier) c ∷ []) cs cut h.1 fits)

-- no cuts have no rows
pub no_rows : (p : Program) (d : Decomposition) → AreRowsOfCuts p d [] []
no_rows p d = record {
  kept = record { few = omega arith; small = All-nil IsSmallCut; fitting = tt; bounded = All-nil (KeepsActivity p) };
  are = refl;
  earlier = All-nil (IsEarlierCut p);
}

pub no_rows_yet : (p : Program) (d : Decomposition) (cuts : List Cut) → AreRowsOfCuts p d (take 0 cuts) []
no_rows_yet p d [] = no_rows p d
no_rows_yet p d (cut ∷ cuts) = no_rows p d

-- the row of a cut behind the rows of others
pub one_row_more : (p : Program) (d : Decomposition) (cuts : List Cut) (rows : List Row) (cut : Cut) (row : Row) → AreRowsOfCuts p d cuts rows
    → length cuts < most_cuts → IsCutOver (proof_rows p d rows) cut → HasFittingSigns (proof_rows p d rows) cut
    → row ≡ cut_row p (proof_rows p d rows) cut → IsEarlierCut p row → AreRowsOfCuts p d (cuts ++ cut ∷ []) (rows ++ row ∷ [])
one_row_more p d cuts rows cut row h room over signs is earlier =
    let all : cut_rows p d [] (cuts ++ cut ∷ []) ≡ rows ++ row ∷ [] =
    cut_rows_push p d [] cuts cut
    ∙ ap (λ (rs : List Row). rs ++ cut_row p (proof_rows p d rs) cut ∷ []) (sym h.are)
    ∙ ap (λ (r : Row). rows ++ r ∷ []) (sym is) in
    let fits : IsFitting (proof_rows p d (cut_rows p d [] cuts)) cut =
    subst (λ (rs : List Row). IsFitting (proof_rows p d rs) cut) h.are (record { divides = over.divides; combines = signs }) in
    record {
      kept = record {
        few = omega (arith, room, length-append cuts (cut ∷ []));
        small = All-push IsSmallCut cuts cut h.kept.small over.small;
        fitting = fitting_push p d [] cuts cut h.kept.fitting fits;
        bounded = subst (All (KeepsActivity p)) (sym all)
            (All-push (KeepsActivity p) rows row (subst (All (KeepsActivity p)) (sym h.are) h.kept.bounded) earlier.bounded);
      };
      are = sym all;
      earlier = All-push (IsEarlierCut p) rows row h.earlier earlier;
    }

-- the rules of the cut at a place
pub over_at : (p : Program) (d : Decomposition) (earlier : List Row) (cuts : List Cut) (i : ℕ) (e : Cut) → AreCutsOver p d earlier cuts → i < length cuts
    → IsCutOver (proof_rows p d (cut_rows p d earlier (take i cuts))) (get_or cuts i e)
over_at p d earlier [] i e h l = absurd (omega (arith, l))
over_at p d earlier (c ∷ cs) zero e h l = h.0
over_at p d earlier (c ∷ cs) (suc i) e h l = over_at p d (earlier ++ cut_row p (proof_rows p d earlier) c ∷ []) cs i e h.1 (omega (arith, l))

-- how many rows cuts have
pub as_many_rows : (p : Program) (d : Decomposition) (earlier : List Row) (cuts : List Cut) → length (cut_rows p d earlier cuts) ≡ length earlier + length cuts
as_many_rows p d earlier [] = omega arith
as_many_rows p d earlier (cut ∷ cuts) =
    omega (
      arith,
      as_many_rows p d (earlier ++ cut_row p (proof_rows p d earlier) cut ∷ []) cuts,
      length-append earlier (cut_row p (proof_rows p d earlier) cut ∷ []),
    )

-- what a cut finds behind the rows of those before it
pub next_few : (p : Program) (d : Decomposition) (cuts : List Cut) (rows : List Row) (i : ℕ) → i < length cuts → length cuts ≤ most_cuts
    → AreRowsOfCuts p d (take i cuts) rows → length rows ≤ 255
next_few p d cuts rows i l few h =
    omega (arith, l, few, ap (λ (rs : List Row). length rs) h.are, as_many_rows p d [] (take i cuts), length-take i cuts)

pub next_over : (p : Program) (d : Decomposition) (cuts : List Cut) (rows : List Row) (i : ℕ) (e : Cut) → i < length cuts → AreCutsOver p d [] cuts
    → AreRowsOfCuts p d (take i cuts) rows → IsCutOver (proof_rows p d rows) (get_or cuts i e)
next_over p d cuts rows i e l over h =
    subst (λ (rs : List Row). IsCutOver (proof_rows p d rs) (get_or cuts i e)) (sym h.are) (over_at p d [] cuts i e over l)

pub next_rows : (p : Program) (d : Decomposition) (cuts : List Cut) (rows : List Row) (i : ℕ) (e : Cut) (row : Row) → i < length cuts → length cuts ≤ most_cuts
    → AreRowsOfCuts p d (take i cuts) rows → IsCutOver (proof_rows p d rows) (get_or cuts i e) → HasFittingSigns (proof_rows p d rows) (get_or cuts i e)
    → row ≡ cut_row p (proof_rows p d rows) (get_or cuts i e) → IsEarlierCut p row → AreRowsOfCuts p d (take (i + 1) cuts) (rows ++ row ∷ [])
next_rows p d cuts rows i e row l few h over signs is earlier =
    subst (λ (cs : List Cut). AreRowsOfCuts p d cs (rows ++ row ∷ [])) (sym (take_more cuts i e l))
    (one_row_more p d (take i cuts) rows (get_or cuts i e) row h (omega (arith, l, few, length-take i cuts)) over signs is earlier)

parts_at : (cuts : List Cut) (i : ℕ) (e : Cut) → i < length cuts → cuts ≡ take i cuts ++ get_or cuts i e ∷ drop (suc i) cuts
parts_at [] i e l = absurd (omega (arith, l))
parts_at (c ∷ cs) zero e l = refl
parts_at (c ∷ cs) (suc i) e l = ap (λ (rest : List Cut). c ∷ rest) (parts_at cs i e (omega (arith, l)))

-- the fault of a cut is that of the cuts where those before it have their rows
pub fault_at : (p : Program) (d : Decomposition) (cuts : List Cut) (rows : List Row) (i : ℕ) (e : Cut) (fault : CutFault) → i < length cuts
    → AreRowsOfCuts p d (take i cuts) rows → HasCutFault p (proof_rows p d rows) (get_or cuts i e) fault → HasCutsFault p d cuts fault
fault_at p d cuts rows i e Sign l h f = record {
  before = take i cuts;
  cut = get_or cuts i e;
  after = drop (suc i) cuts;
  parts = parts_at cuts i e l;
  kept = h.kept;
  at_fault = subst (λ (rs : List Row). HasCutFault p (proof_rows p d rs) (get_or cuts i e) Sign) h.are f;
}
fault_at p d cuts rows i e Large l h f = record {
  before = take i cuts;
  cut = get_or cuts i e;
  after = drop (suc i) cuts;
  parts = parts_at cuts i e l;
  kept = h.kept;
  at_fault = subst (λ (rs : List Row). HasCutFault p (proof_rows p d rs) (get_or cuts i e) Large) h.are f;
}
fault_at p d cuts rows i e NoMemory l h f = tt

-- ---- cuts that are kept have no fault

fitting_front : (p : Program) (d : Decomposition) (earlier : List Row) (before : List Cut) (cut : Cut) (after : List Cut)
    → AreFitting p d earlier (before ++ cut ∷ after) → IsFitting (proof_rows p d (cut_rows p d earlier before)) cut
fitting_front p d earlier [] cut after h = h.0
fitting_front p d earlier (c ∷ cs) cut after h = fitting_front p d (earlier ++ cut_row p (proof_rows p d earlier) c ∷ []) cs cut after h.1

append_nil : (rows : List Row) → rows ++ [] ≡ rows
append_nil [] = refl
append_nil (row ∷ rows) = ap (λ (rs : List Row). row ∷ rs) (append_nil rows)

-- earlier rows stand in front of those of cuts
rows_front : (p : Program) (d : Decomposition) (earlier : List Row) (cuts : List Cut) → (rest : List Row) × (cut_rows p d earlier cuts ≡ earlier ++ rest)
rows_front p d earlier [] = ([], sym (append_nil earlier))
rows_front p d earlier (cut ∷ cuts) =
    let row : Row = cut_row p (proof_rows p d earlier) cut in
    let rest = rows_front p d (earlier ++ row ∷ []) cuts in
    (row ∷ rest.0, rest.1 ∙ append_assoc earlier (row ∷ []) rest.0)

-- the row of a cut is among those of all
row_among : (p : Program) (d : Decomposition) (earlier : List Row) (before : List Cut) (cut : Cut) (after : List Cut)
    → Contains (cut_rows p d earlier (before ++ cut ∷ after)) (cut_row p (proof_rows p d (cut_rows p d earlier before)) cut)
row_among p d earlier [] cut after =
    let row : Row = cut_row p (proof_rows p d earlier) cut in
    let rest = rows_front p d (earlier ++ row ∷ []) after in
    subst (λ (rs : List Row). Contains rs row) (sym rest.1) (Contains-append_left (earlier ++ row ∷ []) rest.0 row (Contains-push earlier row))
row_among p d earlier (c ∷ cs) cut after = row_among p d (earlier ++ cut_row p (proof_rows p d earlier) c ∷ []) cs cut after

-- where cuts keep the limits, nothing but want of memory refuses them
pub kept_is_not_at_fault : (p : Program) (d : Decomposition) (cuts : List Cut) (fault : CutFault) → KeepsCuts p d cuts → HasCutsFault p d cuts fault
    → fault ≡ NoMemory
kept_is_not_at_fault p d cuts Sign kept h =
    absurd (h.at_fault (fitting_front p d [] h.before h.cut h.after (subst (AreFitting p d []) h.parts kept.fitting)).combines)
kept_is_not_at_fault p d cuts Large kept h =
    let row : Row = cut_row p (proof_rows p d (cut_rows p d [] h.before)) h.cut in
    let bounded : All (KeepsActivity p) (cut_rows p d [] (h.before ++ h.cut ∷ h.after)) =
    subst (λ (cs : List Cut). All (KeepsActivity p) (cut_rows p d [] cs)) h.parts kept.bounded in
    absurd (h.at_fault.1 (All-contains (KeepsActivity p) (cut_rows p d [] (h.before ++ h.cut ∷ h.after)) row bounded (row_among p d [] h.before h.cut h.after)))
kept_is_not_at_fault p d cuts NoMemory kept h = refl

-- ---- the rows of cuts that keep the limits

-- an at least row of the program's variables, in order and without zeros
abbrev HasForm : Program → Row → Type 0
HasForm p row = (row.sense ≡ Ge) × (row.rhs ≡ row.low) × HasVariablesBelow (length p.spans) row.terms × IsTidyFrom 0 row.terms

rows_formed : (p : Program) (d : Decomposition) (earlier : List Row) (cuts : List Cut) → All (HasForm p) earlier → All (HasForm p) (cut_rows p d earlier cuts)
rows_formed p d earlier [] h = h
rows_formed p d earlier (cut ∷ cuts) h =
    let row : Row = cut_row p (proof_rows p d earlier) cut in
    let f : ℕ → ℤ = rounded (proof_rows p d earlier) cut in
    rows_formed p d (earlier ++ row ∷ []) cuts (All-push (HasForm p) earlier row h (refl, refl, closed_terms p f, tidy_within f 0 (length p.spans)))

pub rows_of_kept : (p : Program) (d : Decomposition) (cuts : List Cut) → KeepsCuts p d cuts → AreRowsOfCuts p d cuts (cut_rows p d [] cuts)
rows_of_kept p d cuts h = record {
  kept = h;
  are = refl;
  earlier = λ k e l.
      let form = rows_formed p d [] cuts (All-nil (HasForm p)) k e l in
      record { sense = form.0; same = form.1; below = form.2; tidy = form.3; bounded = h.bounded k e l };
}
