-- Cuts that are taken, one by one.
use Rattle.std.proofs.Common.{◌≡◌, ◌∙◌, ◌<◌, ◌≤◌, ◌+◌, ⊎_elim, inl, inr, ℕ, List, [], ◌∷◌, ◌++◌, length, get_or, take, refl, sym, ap, subst, arith, length-append, append-nil}
use Rattle.std.proofs.lemmas.List.{take_more}
use Rattle.std.proofs.Math.Seq.{get_or-append_seam, take-append_seam}
use Rattle.bp_theory.specs.Cuts.{cut_row}
use Rattle.bp_theory.specs.Program.{Program, KeepsActivity}
use Rattle.bp_theory.specs.Decomposition.{Decomposition, proof_rows}
use Rattle.bp_theory.specs.declared.Row.{Row}
use Rattle.bp_theory.specs.declared.Cut.{Cut}
use Rattle.block_program.specs.Cuts.{KeepsCuts}
use Rattle.round_cut.specs.Several.{AreRowsOfCuts}
use Rattle.cut_sums.specs.declared.fault.CutFault.TheVariants.{Sign, Large, NoMemory}
use Rattle.cut_sums.specs.Cutting.{HasFittingSigns, IsCutOver}
use Rattle.cut_sums.proofs.CutLemmas.{later_cut}
use Rattle.round_cut.proofs.PlainCuts.{kept_over}
use Rattle.round_cut.proofs.SeveralLemmas.{as_many_rows, fault_at, kept_is_not_at_fault, next_few, next_over, one_row_more}
use Rattle.round_cut.specs.Taken.{GoNoFurther, GoesOn, HasFirstOf, IsRefused, IsTaken}

-- a cut more with its row
pub taken_more : (p : Program) (d : Decomposition) (cuts : List Cut) (rows : List Row) (cut : Cut) (row : Row) → AreRowsOfCuts p d cuts rows
    → IsTaken p d rows cut row → AreRowsOfCuts p d (cuts ++ cut ∷ []) (rows ++ row ∷ [])
taken_more p d cuts rows cut row h t =
    let many : length rows ≡ length cuts = omega (arith, ap (λ (rs : List Row). length rs) h.are, as_many_rows p d [] cuts) in
    one_row_more p d cuts rows cut row h (omega (arith, t.room, many)) t.over t.signs t.is t.kept

-- a cut more of those at hand
pub next_taken : (p : Program) (d : Decomposition) (cuts : List Cut) (rows : List Row) (i : ℕ) (e : Cut) (row : Row) → i < length cuts
    → AreRowsOfCuts p d (take i cuts) rows → IsTaken p d rows (get_or cuts i e) row → AreRowsOfCuts p d (take (i + 1) cuts) (rows ++ row ∷ [])
next_taken p d cuts rows i e row l h t =
    subst (λ (cs : List Cut). AreRowsOfCuts p d cs (rows ++ row ∷ [])) (sym (take_more cuts i e l)) (taken_more p d (take i cuts) rows (get_or cuts i e) row h t)

-- ---- cuts that go no further

pub full : (p : Program) (d : Decomposition) (most : ℕ) (cuts left : List Cut) → most ≤ length cuts → GoNoFurther p d most cuts left
full p d most cuts [] h = tt
full p d most cuts (next ∷ left) h = inl h

pub at_the_end : (p : Program) (d : Decomposition) (most : ℕ) (cuts left : List Cut) → length left ≡ 0 → GoNoFurther p d most cuts left
at_the_end p d most cuts [] h = tt
at_the_end p d most cuts (next ∷ left) h = absurd (omega (arith, h))

-- ---- cuts that a program may have hold none that is refused

other_than_sign : Sign ≡ NoMemory → ⊥
other_than_sign e = cc

other_than_large : Large ≡ NoMemory → ⊥
other_than_large e = cc

pub refused_for_sign : (p : Program) (d : Decomposition) (earlier : List Row) (cut : Cut) → (HasFittingSigns (proof_rows p d earlier) cut → ⊥)
    → IsRefused p d earlier cut
refused_for_sign p d earlier cut h row taken = h taken.signs

pub refused_for_size : (p : Program) (d : Decomposition) (earlier : List Row) (cut : Cut) → (KeepsActivity p (cut_row p (proof_rows p d earlier) cut) → ⊥)
    → IsRefused p d earlier cut
refused_for_size p d earlier cut h row taken = h (subst (KeepsActivity p) taken.is taken.kept.bounded)

pub refused_at : (p : Program) (d : Decomposition) (cuts : List Cut) (rows : List Row) (i : ℕ) (e : Cut) → i < length cuts
    → AreRowsOfCuts p d (take i cuts) rows → IsRefused p d rows (get_or cuts i e) → KeepsCuts p d cuts → ⊥
refused_at p d cuts rows i e l h refused kept =
    let cut : Cut = get_or cuts i e in
    let over : IsCutOver (proof_rows p d rows) cut = next_over p d cuts rows i e l (kept_over p d cuts kept) h in
    let few : length rows ≤ 255 = next_few p d cuts rows i l kept.few h in
    let no_size : HasFittingSigns (proof_rows p d rows) cut → KeepsActivity p (cut_row p (proof_rows p d rows) cut) → ⊥ =
    λ signs bounded. refused (cut_row p (proof_rows p d rows) cut)
    (record { room = omega (arith, few); over = over; signs = signs; is = refl; kept = later_cut p (proof_rows p d rows) cut bounded }) in
    let no_signs : HasFittingSigns (proof_rows p d rows) cut → ⊥ =
    λ signs. other_than_large (kept_is_not_at_fault p d cuts Large kept (fault_at p d cuts rows i e Large l h (signs, no_size signs))) in
    other_than_sign (kept_is_not_at_fault p d cuts Sign kept (fault_at p d cuts rows i e Sign l h no_signs))

pub refused_behind : (p : Program) (d : Decomposition) (cuts : List Cut) (rows : List Row) (cut : Cut) → AreRowsOfCuts p d cuts rows
    → IsRefused p d rows cut → KeepsCuts p d (cuts ++ cut ∷ []) → ⊥
refused_behind p d cuts rows cut h refused =
    refused_at p d (cuts ++ cut ∷ []) rows (length cuts) cut (omega (arith, length-append cuts (cut ∷ [])))
    (subst (λ (cs : List Cut). AreRowsOfCuts p d cs rows) (sym (take-append_seam cuts (cut ∷ []))) h)
    (subst (IsRefused p d rows) (sym (get_or-append_seam cuts cut [] cut)) refused)

-- ---- a program's cuts and the first of others

pub none_taken : (p : Program) (d : Decomposition) (given others : List Cut) (most : ℕ) (cuts : List Cut) → KeepsCuts p d given → cuts ≡ given
    → most ≤ length cuts → HasFirstOf p d given others most cuts
none_taken p d given others most cuts kept same h = record {
  taken = [];
  left = others;
  parts = refl;
  is = same ∙ sym (append-nil given);
  kept = subst (KeepsCuts p d) (sym same) kept;
  few = inl refl;
  ends = full p d most cuts others h;
}

-- they go on from the program's
pub goes_on : (p : Program) (d : Decomposition) (given others : List Cut) (most : ℕ) (cuts : List Cut) → HasFirstOf p d given others most cuts
    → GoesOn p d given most cuts
goes_on p d given others most cuts h = record {
  kept = h.kept;
  begins = (h.taken, h.is);
  few = ⊎_elim (λ none. inl (h.is ∙ ap (λ (cs : List Cut). given ++ cs) none ∙ append-nil given)) (λ few. inr few) h.few;
}
