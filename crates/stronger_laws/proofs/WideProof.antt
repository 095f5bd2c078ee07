-- The blocking in which proofs may name rows of blocks adds up to the program.
use Rattle.std.proofs.Common.{◌≡◌, refl, sym, subst, ◌∙◌, ℕ, ◌<◌, Bool, true, false, List, [], ◌∷◌, ◌++◌, map, length, get_or, Option}
use Rattle.std.proofs.Math.IntN.{ℤ}
use Rattle.std.specs.Prelude.{All, Contains, filter, if◌then◌else◌}
use Rattle.std.specs.List.{AllByRecursion, range_with_len, zip, flat_map}
use Rattle.std.proofs.lemmas.List.Elements.{recursion_from_All, All-from_recursion, All-map, All-nil, All-contains, All-contains_itself}
use Rattle.bp_theory.specs.Program.{Program, IsFeasible, MeetsRow}
use Rattle.bp_theory.specs.Blocking.{Copy, Mirrors, AreImplied, AddsUp}
use Rattle.bp_theory.specs.Decomposition.{Decomposition, ProofRow, whole_row, link_row, no_row, proof_row, proof_rows, links_of, full_row, is_block, rows_of, members, is_in, is_first, copy_of, row_with_places, block_of, lone_block, HasVariablesBelow, IsClosed}
use Rattle.bp_theory.specs.declared.Row.{Row}
use Rattle.bp_theory.proofs.FaithProof.{adding_up_lem}
use Rattle.bp_theory.proofs.DecompositionProof.{IsKept, IsMetBy, kept_all, all_met, kept_at, known_members, all_blocks, mirrored_row, costs_add_up, coefs_add_up, get_or-map_past}
use Rattle.stronger_laws.specs.WideRows.{wide_rows, blocking_over, wide_blocking, HasKnownVariables, IsMet}
use Rattle.stronger_laws.specs.Laws.{WideIsFaithful}
use Rattle.stronger_laws.proofs.MirProof.{join}

-- a fact about the parts of a joined list
pub left_part : {X : Type 0} (P : X → Type 0) (xs ys : List X) → AllByRecursion P (xs ++ ys) → AllByRecursion P xs
left_part P [] ys h = tt
left_part P (x ∷ xs) ys h = (h.0, left_part P xs ys h.1)

pub right_part : {X : Type 0} (P : X → Type 0) (xs ys : List X) → AllByRecursion P (xs ++ ys) → AllByRecursion P ys
right_part P [] ys h = h
right_part P (x ∷ xs) ys h = right_part P xs ys h.1

weaker : {X : Type 0} (P Q : X → Type 0) → ((x : X) → P x → Q x) → (xs : List X) → AllByRecursion P xs → AllByRecursion Q xs
weaker P Q f [] h = tt
weaker P Q f (x ∷ xs) h = (f x h.0, weaker P Q f xs h.1)

-- the rows of the program, each by its number
whole_rows : (P : ProofRow → Type 0) (Q : Row → Type 0) → ((row : Row) → Q row → P (whole_row row)) → (rows : List Row) (places : List (Option ℕ))
    → AllByRecursion Q rows → AllByRecursion P (map (λ (e : Row × Option ℕ). whole_row e.0) (zip rows places))
whole_rows P Q f [] places h = tt
whole_rows P Q f (row ∷ rows) [] h = tt
whole_rows P Q f (row ∷ rows) (place ∷ places) h = (f row h.0, whole_rows P Q f rows places h.1)

-- from a fact about rows beside master rows alone, one about wide rows
widen : (p : Program) (d : Decomposition) (cuts : List Row) (P : ProofRow → Type 0) (Q : Row → Type 0)
    → ((row : Row) → Q row → P (whole_row row)) → AllByRecursion Q p.rows → AllByRecursion P (proof_rows p d cuts)
    → AllByRecursion P (wide_rows p d cuts)
widen p d cuts P Q f own all =
    let masters : List ProofRow = map (λ e. proof_row e.0 e.1) (zip p.rows d.places) in
    let wholes : List ProofRow = map (λ e. whole_row e.0) (zip p.rows d.places) in
    let links : List ProofRow = flat_map (links_of p d) (range_with_len 0 (length p.spans)) in
    let last : List ProofRow = map whole_row cuts in
    join P (wholes ++ links) last
    (join P wholes links (whole_rows P Q f p.rows d.places own) (right_part P masters links (left_part P (masters ++ links) last all)))
    (right_part P (masters ++ links) last all)

pub wide_kept : (p : Program) (d : Decomposition) (cuts : List Row) → IsClosed p
    → All (λ cut. HasVariablesBelow (length p.spans) cut.terms) cuts → AllByRecursion (IsKept p d) (wide_rows p d cuts)
wide_kept p d cuts closed closed_cuts =
    widen p d cuts (IsKept p d) (λ row. HasVariablesBelow (length p.spans) row.terms)
    (λ row h. recursion_from_All (λ t. t.var < length p.spans) row.terms h)
    (recursion_from_All (λ row. HasVariablesBelow (length p.spans) row.terms) p.rows closed.rows)
    (kept_all p d cuts closed closed_cuts)

pub wide_known : (p : Program) (d : Decomposition) (cuts : List Row) → IsClosed p
    → All (λ cut. HasVariablesBelow (length p.spans) cut.terms) cuts → AllByRecursion (HasKnownVariables p) (wide_rows p d cuts)
wide_known p d cuts closed closed_cuts = weaker (IsKept p d) (HasKnownVariables p) known (wide_rows p d cuts) (wide_kept p d cuts closed closed_cuts)
  where
    known : (row : ProofRow) → IsKept p d row → HasKnownVariables p row
    known (whole_row row) h = All-from_recursion (λ t. t.var < length p.spans) row.terms h
    known (link_row v k) h = tt
    known no_row h = tt

wide_met_by : (p : Program) (d : Decomposition) (cuts : List Row) (x : List ℤ) → IsFeasible p x → All (MeetsRow x) cuts
    → AllByRecursion (IsMetBy x) (wide_rows p d cuts)
wide_met_by p d cuts x feasible met =
    widen p d cuts (IsMetBy x) (MeetsRow x) (λ row h full e. let same : row ≡ full = cc in subst (MeetsRow x) same h)
    (recursion_from_All (MeetsRow x) p.rows feasible.rows)
    (all_met p d cuts x feasible met)

pub wide_met : (p : Program) (d : Decomposition) (cuts : List Row) (x : List ℤ) → IsFeasible p x → All (MeetsRow x) cuts
    → AllByRecursion (IsMet x) (wide_rows p d cuts)
wide_met p d cuts x feasible cuts_met = weaker (IsMetBy x) (IsMet x) met (wide_rows p d cuts) (wide_met_by p d cuts x feasible cuts_met)
  where
    met : (row : ProofRow) → IsMetBy x row → IsMet x row
    met (whole_row row) h = h row refl
    met (link_row v k) h = tt
    met no_row h = tt

-- the rows of a block are rows of the program
rows_chosen : (Q : Row → Type 0) (q : Row × Option ℕ → Bool) (rows : List Row) (places : List (Option ℕ)) → AllByRecursion Q rows
    → AllByRecursion Q (map (λ (e : Row × Option ℕ). e.0) (filter q (zip rows places)))
rows_chosen Q q [] places h = tt
rows_chosen Q q (row ∷ rows) [] h = tt
rows_chosen Q q (row ∷ rows) (place ∷ places) h = by (q (row, place)) (rows_chosen Q q rows places h.1)
  where
    by : (t : Bool) → AllByRecursion Q (map (λ (e : Row × Option ℕ). e.0) (filter q (zip rows places)))
        → AllByRecursion Q (map (λ (e : Row × Option ℕ). e.0) (if t then (row, place) ∷ filter q (zip rows places) else filter q (zip rows places)))
    by true rest = (h.0, rest)
    by false rest = rest

-- a blocking over rows that are kept adds up to the program
pub over_adds_up : (p : Program) (d : Decomposition) (rows : List ProofRow) → IsClosed p → AllByRecursion (IsKept p d) rows
    → AddsUp p (map full_row rows) (blocking_over p d rows)
over_adds_up p d rows closed kept = record {
  known = all_blocks p d rows (λ k. All (λ c. c.var < length p.spans) k.copies)
      (λ k. All-map (λ c. c.var < length p.spans) (λ v. copy_of p rows (is_first p d v k) v k) (members p d k)
      (known_members p (λ v. is_in p d v k)))
      (λ v l. All-from_recursion (λ (c : Copy). c.var < length p.spans) (copy_of p rows true v d.blocks ∷ []) (l, tt));
  mirrored = all_blocks p d rows (λ k. All (λ row. (full : Row) × Contains p.rows full × Mirrors k row full) k.rows)
      (λ k. All-map (λ row. (full : Row) × Contains p.rows full × Mirrors (block_of p d rows k) row full) (row_with_places (members p d k)) (rows_of p d k)
      (λ i e l.
      let there = All-from_recursion (Contains p.rows) (rows_of p d k)
      (rows_chosen (Contains p.rows) (λ e. is_block k e.1) p.rows d.places
      (recursion_from_All (Contains p.rows) p.rows (All-contains_itself p.rows))) i e l in (
        get_or (rows_of p d k) i e,
        there,
        mirrored_row p d rows k i e l
            (All-contains (λ row. HasVariablesBelow (length p.spans) row.terms) p.rows (get_or (rows_of p d k) i e) closed.rows there),
      )))
      (λ v l. All-nil (λ row. (full : Row) × Contains p.rows full × Mirrors (lone_block p d rows v) row full));
  constant = refl;
  costs = costs_add_up p d rows closed.costs;
  sides = refl;
  coefs = coefs_add_up p d rows kept;
}

-- rows that each feasible point meets are implied
pub over_implied : (p : Program) (rows : List ProofRow) → ((x : List ℤ) → IsFeasible p x → AllByRecursion (IsMetBy x) rows)
    → AreImplied p (map full_row rows)
over_implied p rows met x feasible i full e =
    kept_at (IsMetBy x) rows no_row (met x feasible) (λ full e. absurd (cc)) i full (sym (get_or-map_past full_row rows i no_row) ∙ e)

pub wide_is_faithful_lem : WideIsFaithful
wide_is_faithful_lem = record {
  adds_up = λ p d cuts closed closed_cuts. over_adds_up p d (wide_rows p d cuts) closed (wide_kept p d cuts closed closed_cuts);
  implied = λ p d cuts met. over_implied p (wide_rows p d cuts) (λ x feasible. wide_met_by p d cuts x feasible (met x feasible));
  faithful = λ p d cuts closed closed_cuts met. adding_up_lem p (map full_row (wide_rows p d cuts)) (wide_blocking p d cuts)
      (over_implied p (wide_rows p d cuts) (λ x feasible. wide_met_by p d cuts x feasible (met x feasible)))
      (over_adds_up p d (wide_rows p d cuts) closed (wide_kept p d cuts closed closed_cuts));
}
