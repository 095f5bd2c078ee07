-- The blocking of a decomposition has each row and each variable of its program.
use Rattle.std.proofs.Common.{◌≡◌, ◌⊎◌, refl, sym, ap, subst, ◌∙◌, ℕ, zero, suc, ◌<◌, Bool, true, false, List, [], ◌∷◌, ◌++◌, map, length, get_or, Option, Some, None, arith, inl, inr, length-append}
use Rattle.std.specs.Prelude.{Contains, filter, if◌then◌else◌}
use Rattle.std.specs.List.{zip, flat_map, range_with_len}
use Rattle.std.proofs.lemmas.List.{get_or_append_left, get_or-map, length-map}
use Rattle.std.proofs.lemmas.List.FromFn.{length-map-range_with_len, get_or-map-range_with_len}
use Rattle.bp_theory.specs.Program.{Program}
use Rattle.bp_theory.specs.Blocking.{Block, Blocking, Mirrors}
use Rattle.bp_theory.specs.Decomposition.{Decomposition, ProofRow, whole_row, no_row, proof_row, links_of, proof_rows, full_row, is_block, rows_of, members, row_with_places, block_of, lone_block, lone_variables, blocking_of, HasVariablesBelow, IsClosed, IsPlace, HasPlaces}
use Rattle.bp_theory.specs.declared.Row.{Row}
use Rattle.bp_theory.proofs.DecompositionProof.{get_or-map_past, mirrored_row, eqb_itself}
use Rattle.bp_theory.proofs.CopyProof.{copies_of_each_lem}
use Rattle.search_laws.specs.Spread.{block_at}
use Rattle.search_laws.specs.Laws.{DecompositionHasAll}

-- the row of proofs of a row, by its place
row_in_proofs : (rows : List Row) (places : List (Option ℕ)) (i : ℕ) (d : Row) → i < length rows → length places ≡ length rows
    → get_or (map (λ e. proof_row e.0 e.1) (zip rows places)) i no_row ≡ proof_row (get_or rows i d) (get_or places i None)
row_in_proofs [] places i d l e = absurd (omega arith)
row_in_proofs (row ∷ rows) [] i d l e = absurd (omega arith)
row_in_proofs (row ∷ rows) (place ∷ places) zero d l e = refl
row_in_proofs (row ∷ rows) (place ∷ places) (suc i) d l e = row_in_proofs rows places i d (omega arith) (omega arith)

long_enough : (rows : List Row) (places : List (Option ℕ)) → length places ≡ length rows
    → length (map (λ e. proof_row e.0 e.1) (zip rows places)) ≡ length rows
long_enough [] places e = refl
long_enough (row ∷ rows) [] e = absurd (omega arith)
long_enough (row ∷ rows) (place ∷ places) e = ap suc (long_enough rows places (omega arith))

-- a row with a block's place is among the block's rows
row_in_block : (k : ℕ) (rows : List Row) (places : List (Option ℕ)) (i : ℕ) (d : Row) → i < length rows → length places ≡ length rows
    → get_or places i None ≡ Some k
    → (j : ℕ) × (j < length (map (λ (e : Row × Option ℕ). e.0) (filter (λ e. is_block k e.1) (zip rows places))))
    × (get_or (map (λ (e : Row × Option ℕ). e.0) (filter (λ e. is_block k e.1) (zip rows places))) j d ≡ get_or rows i d)
row_in_block k [] places i d l e at = absurd (omega arith)
row_in_block k (row ∷ rows) [] i d l e at = absurd (omega arith)
row_in_block k (row ∷ rows) (place ∷ places) zero d l e at =
    let rest : List (Row × Option ℕ) = filter (λ e. is_block k e.1) (zip rows places) in
    let kept : is_block k place ≡ true = ap (is_block k) at ∙ eqb_itself k in (
      0,
      subst (λ t. 0 < length (map (λ (e : Row × Option ℕ). e.0) (if t then (row, place) ∷ rest else rest))) (sym kept) (omega arith),
      ap (λ t. get_or (map (λ (e : Row × Option ℕ). e.0) (if t then (row, place) ∷ rest else rest)) 0 d) kept,
    )
row_in_block k (row ∷ rows) (place ∷ places) (suc i) d l e at =
    by (is_block k place) (row_in_block k rows places i d (omega arith) (omega arith) at)
  where
    by : (t : Bool)
        → (j : ℕ) × (j < length (map (λ (e : Row × Option ℕ). e.0) (filter (λ e. is_block k e.1) (zip rows places))))
        × (get_or (map (λ (e : Row × Option ℕ). e.0) (filter (λ e. is_block k e.1) (zip rows places))) j d ≡ get_or rows i d)
        → (j : ℕ)
        × (j < length (map (λ (e : Row × Option ℕ). e.0)
        (if t then (row, place) ∷ filter (λ e. is_block k e.1) (zip rows places) else filter (λ e. is_block k e.1) (zip rows places))))
        × (get_or (map (λ (e : Row × Option ℕ). e.0)
        (if t then (row, place) ∷ filter (λ e. is_block k e.1) (zip rows places) else filter (λ e. is_block k e.1) (zip rows places))) j d
        ≡ get_or rows i d)
    by true found = (suc found.0, omega (arith, found.1), found.2)
    by false found = found

each_row : (p : Program) (d : Decomposition) (cuts : List Row) → IsClosed p → HasPlaces p d
    → (i : ℕ) (r : Row) → i < length p.rows → (place : Option ℕ) → get_or d.places i None ≡ place
    → ((j : ℕ) × (row : Row) × (j < length (blocking_of p d cuts).blocks) × Contains (block_at (blocking_of p d cuts) j).rows row
    × Mirrors (block_at (blocking_of p d cuts) j) row (get_or p.rows i r))
    ⊎ (get_or (map full_row (proof_rows p d cuts)) i None ≡ Some (get_or p.rows i r))
each_row p d cuts closed placed i r l None e =
    let own : List ProofRow = map (λ e. proof_row e.0 e.1) (zip p.rows d.places) in
    let links : List ProofRow = flat_map (links_of p d) (range_with_len 0 (length p.spans)) in
    let long : length own ≡ length p.rows = long_enough p.rows d.places placed.each in
    let kind : get_or (proof_rows p d cuts) i no_row ≡ whole_row (get_or p.rows i r) =
    get_or_append_left (own ++ links) (map whole_row cuts) no_row i (omega (arith, l, long, length-append own links))
    ∙ get_or_append_left own links no_row i (omega (arith, l, long))
    ∙ row_in_proofs p.rows d.places i r l placed.each
    ∙ ap (proof_row (get_or p.rows i r)) e in
    inr (get_or-map_past full_row (proof_rows p d cuts) i no_row ∙ ap full_row kind)
each_row p d cuts closed placed i r l (Some k) e =
    let rows : List ProofRow = proof_rows p d cuts in
    let b : Blocking = blocking_of p d cuts in
    let none : Block = record { copies = []; rows = [] } in
    let first : List Block = map (block_of p d rows) (range_with_len 0 d.blocks) in
    let second : List Block = map (lone_block p d rows) (lone_variables p d) in
    let there : k < d.blocks = subst (IsPlace d.blocks) e (placed.known i None (omega (arith, l, placed.each))) in
    let inside : k < length first = omega (arith, there, length-map-range_with_len (block_of p d rows) 0 d.blocks) in
    let at : block_of p d rows k ≡ block_at b k = sym (get_or_append_left first second none k inside
    ∙ get_or-map-range_with_len (block_of p d rows) 0 d.blocks k k none there (omega arith)) in
    let found = row_in_block k p.rows d.places i r l placed.each e in
    let row : Row = get_or (rows_of p d k) found.0 r in
    let mirror : Row = row_with_places (members p d k) row in
    let listed : get_or (block_of p d rows k).rows found.0 mirror ≡ mirror =
    get_or-map (row_with_places (members p d k)) (rows_of p d k) found.0 r mirror found.1 in
    let mirrors : Mirrors (block_of p d rows k) mirror row = mirrored_row p d rows k found.0 r found.1
    (subst (λ (q : Row). HasVariablesBelow (length p.spans) q.terms) (sym found.2) (closed.rows i r l)) in
    inl (
      k,
      mirror,
      omega (arith, inside, length-append first second),
      subst (λ (c : Block). Contains c.rows mirror) at
          (found.0, omega (arith, found.1, length-map (rows_of p d k) (row_with_places (members p d k))), listed),
      subst (λ (c : Block). Mirrors c mirror (get_or p.rows i r)) at (subst (λ (q : Row). Mirrors (block_of p d rows k) mirror q) found.2 mirrors),
    )

pub decomposition_has_all_lem : DecompositionHasAll
decomposition_has_all_lem = record {
  rows = λ p d cuts closed placed. record { placed = λ i r l. each_row p d cuts closed placed i r l (get_or d.places i None) refl };
  variables = λ p d cuts v l. copies_of_each_lem.there p d cuts v l;
}
