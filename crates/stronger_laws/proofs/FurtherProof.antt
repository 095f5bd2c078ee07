-- Further cuts leave the rows that a proof names.
use Rattle.std.proofs.Common.{◌≡◌, refl, sym, ap, subst, ◌∙◌, ℕ, List, [], ◌∷◌, ◌++◌, map, length, get_or, Option, ⊎_elim}
use Rattle.std.proofs.Math.IntN.{ℤ}
use Rattle.std.specs.Prelude.{option_map}
use Rattle.std.specs.List.{zip, flat_map, range_with_len}
use Rattle.std.proofs.lemmas.Bool.{cases_lt}
use Rattle.std.proofs.lemmas.List.{append_assoc, map-append, get_or_append_left, get_or_past}
use Rattle.bp_theory.specs.Program.{Program}
use Rattle.bp_theory.specs.Blocking.{row_at, sides_of}
use Rattle.bp_theory.specs.Decomposition.{Decomposition, ProofRow, whole_row, no_row, links_of, full_row}
use Rattle.bp_theory.specs.Bound.{SignFits, SignsFit}
use Rattle.bp_theory.specs.declared.Row.{Row}
use Rattle.bp_theory.specs.declared.MasterRow.{MasterRow}
use Rattle.bp_theory.specs.declared.Proof.{Proof}
use Rattle.stronger_laws.specs.WideRows.{wide_rows, wide_blocking}
use Rattle.stronger_laws.specs.AllCuts.{any_row, any_rows}
use Rattle.stronger_laws.specs.Laws.{NamesStay, FurtherCutsStay}
use Rattle.stronger_laws.specs.declared.AnyCut.{AnyCut}
use Rattle.stronger_laws.proofs.KeepProof.{row_at_by}

-- rows with further cuts are the former ones and more
more_rows : (p : Program) (d : Decomposition) (cuts more : List Row) → wide_rows p d (cuts ++ more) ≡ wide_rows p d cuts ++ map whole_row more
more_rows p d cuts more =
    let own : List ProofRow = map (λ e. whole_row e.0) (zip p.rows d.places) ++ flat_map (links_of p d) (range_with_len 0 (length p.spans)) in
    ap (λ (rs : List ProofRow). own ++ rs) (map-append whole_row cuts more) ∙ sym (append_assoc own (map whole_row cuts) (map whole_row more))

-- a row that is named is there, and stays
named_stays : (p : Program) (d : Decomposition) (cuts more : List Row) (i : ℕ) (u : ℤ) → SignFits (row_at (wide_blocking p d cuts) i) u
    → get_or (wide_rows p d cuts) i no_row ≡ get_or (wide_rows p d (cuts ++ more)) i no_row
named_stays p d cuts more i u fits = ⊎_elim
    (λ there. sym (ap (λ (rs : List ProofRow). get_or rs i no_row) (more_rows p d cuts more)
    ∙ get_or_append_left (wide_rows p d cuts) (map whole_row more) no_row i there))
    (λ past. absurd (subst (λ (o : Option MasterRow). SignFits o u)
    (row_at_by p d (wide_rows p d cuts) i
    ∙ ap (λ (r : ProofRow). option_map sides_of (full_row r)) (get_or_past (wide_rows p d cuts) i no_row past)) fits))
    (cases_lt i (length (wide_rows p d cuts)))

names_stay : (p : Program) (d : Decomposition) (cuts more : List Row) (proof : Proof) → SignsFit (wide_blocking p d cuts) proof
    → NamesStay (wide_rows p d cuts) (wide_rows p d (cuts ++ more)) proof
names_stay p d cuts more proof signs = λ k m l. named_stays p d cuts more (get_or proof.mults k m).0 (get_or proof.mults k m).1 (signs k m l)

-- the rows of further cuts come behind
further_rows : (p : Program) (d : Decomposition) (earlier : List Row) (further : List AnyCut)
    → (more : List Row) × (any_rows p d earlier further ≡ earlier ++ more)
further_rows p d earlier [] = ([], sym (none earlier))
  where
    none : (rs : List Row) → rs ++ [] ≡ rs
    none [] = refl
    none (r ∷ rs) = ap (λ (qs : List Row). r ∷ qs) (none rs)
further_rows p d earlier (cut ∷ further) =
    let row : Row = any_row p d earlier cut in
    let found = further_rows p d (earlier ++ row ∷ []) further in
    (row ∷ found.0, found.1 ∙ append_assoc earlier (row ∷ []) found.0)

all_rows : (p : Program) (d : Decomposition) (earlier : List Row) (cuts further : List AnyCut)
    → (more : List Row) × (any_rows p d earlier (cuts ++ further) ≡ any_rows p d earlier cuts ++ more)
all_rows p d earlier [] further = further_rows p d earlier further
all_rows p d earlier (cut ∷ cuts) further = all_rows p d (earlier ++ any_row p d earlier cut ∷ []) cuts further

pub further_cuts_stay_lem : FurtherCutsStay
further_cuts_stay_lem = record { names = names_stay; rows = λ p d cuts further. all_rows p d [] cuts further }
