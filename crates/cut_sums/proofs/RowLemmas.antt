-- The rows that proofs may name, by number: the program's, the link rows, the rows of cuts.
use Rattle.std.proofs.Common.{◌≡◌, ℕ, zero, suc, ◌+◌, ◌-◌, ◌<◌, ◌≤◌, List, [], ◌∷◌, ◌++◌, map, length, get_or, Option, Some, None, refl, sym, ap, subst, ◌∙◌, ⊎_elim, inl, inr, arith, length-append}
use Rattle.std.specs.Prelude.{option_map, slice_get, All, ◌↔◌, ◌⊎◌}
use Rattle.std.specs.List.{range_with_len, AllByRecursion, flat_map}
use Rattle.std.proofs.Math.ListN.{get_or-append}
use Rattle.std.proofs.lemmas.Bool.{cases_lt}
use Rattle.std.proofs.lemmas.List.{get_or-append_right, length-map}
use Rattle.std.proofs.lemmas.List.Elements.{recursion_from_All}
use Rattle.bp_theory.specs.Program.{Program}
use Rattle.bp_theory.specs.Blocking.{Blocking, sides_of}
use Rattle.bp_theory.specs.Decomposition.{Decomposition, ProofRow, whole_row, link_row, no_row, proof_rows, links_of, link_count, full_row, HasPlaces}
use Rattle.bp_theory.specs.Cuts.{cut_row, cut_rows}
use Rattle.bp_theory.specs.declared.Cut.{Cut}
use Rattle.bp_theory.specs.declared.Row.{Row}
use Rattle.bp_theory.proofs.DecompositionProof.{kept_at}
use Rattle.block_program.specs.Blocked.{BlockedProgram, IsFormed}
use Rattle.block_program.proofs.NamedRows.{own_rows, own_long}
use Rattle.cut_sums.specs.Cutting.{IsWhole, IsEarlierCut, IsCutOver}
use Rattle.cut_sums.specs.Rows.{program_of, rows_in, IsRows, IsBounded, IsBoundedRow, IsBoundedEntry}
use Rattle.cut_sums.specs.declared.rows.Rows.{Rows}

-- the link rows
abbrev pub all_links : Program → Decomposition → List ProofRow
all_links p d = flat_map (links_of p d) (range_with_len 0 (length p.spans))

pub append_each : {X : Type 0} (P : X → Type 0) (xs ys : List X) → AllByRecursion P xs → AllByRecursion P ys → AllByRecursion P (xs ++ ys)
append_each P [] ys h g = g
append_each P (x ∷ xs) ys h g = (h.0, append_each P xs ys h.1 g)

links_each : (P : ProofRow → Type 0) → ((v k : ℕ) → P (link_row v k)) → (v : ℕ) (ks : List ℕ) → AllByRecursion P (map (link_row v) ks)
links_each P f v [] = tt
links_each P f v (k ∷ ks) = (f v k, links_each P f v ks)

-- what holds of each link row
all_links_each : (P : ProofRow → Type 0) → ((v k : ℕ) → P (link_row v k)) → (p : Program) (d : Decomposition) (vs : List ℕ)
    → AllByRecursion P (flat_map (links_of p d) vs)
all_links_each P f p d [] = tt
all_links_each P f p d (v ∷ vs) =
    append_each P (links_of p d v) (flat_map (links_of p d) vs) (links_each P f v _) (all_links_each P f p d vs)

-- how many rows stand before the cuts
before_long : (p : Program) (d : Decomposition) → HasPlaces p d → length (own_rows p.rows d.places ++ all_links p d) ≡ length p.rows + link_count p d
before_long p d places = omega (arith, length-append (own_rows p.rows d.places) (all_links p d), own_long p.rows d.places places.each)

-- ---- a row of the program

own_whole : (rows : List Row) (places : List (Option ℕ)) (i : ℕ) (row : Row) → slice_get rows i ≡ Some row
    → IsWhole (get_or (own_rows rows places) i no_row) → get_or (own_rows rows places) i no_row ≡ whole_row row
own_whole [] places i row e w = absurd w
own_whole (r ∷ rs) [] i row e w = absurd w
own_whole (r ∷ rs) (None ∷ ps) zero row e w =
    let is : Some r ≡ Some row = e in
    let same : r ≡ row = cc in
    ap whole_row same
own_whole (r ∷ rs) (Some k ∷ ps) zero row e w = absurd w
own_whole (r ∷ rs) (place ∷ ps) (suc i) row e w = own_whole rs ps i row e w

pub row_before : (p : Program) (d : Decomposition) (cuts : List Row) (i : ℕ) (row : Row) → HasPlaces p d → i < length p.rows
    → slice_get p.rows i ≡ Some row → IsWhole (get_or (proof_rows p d cuts) i no_row)
    → get_or (proof_rows p d cuts) i no_row ≡ whole_row row
row_before p d cuts i row places l e w =
    let own : List ProofRow = own_rows p.rows d.places in
    let long = own_long p.rows d.places places.each in
    let at : get_or (proof_rows p d cuts) i no_row ≡ get_or own i no_row =
    get_or-append (own ++ all_links p d) (map whole_row cuts) no_row i (omega (arith, l, before_long p d places))
    ∙ get_or-append own (all_links p d) no_row i (omega (arith, l, long)) in
    at ∙ own_whole p.rows d.places i row e (subst IsWhole at w)

-- ---- a row of a cut

cut_whole : (cuts : List Row) (i : ℕ) → IsWhole (get_or (map whole_row cuts) i no_row)
    → (i < length cuts) × ((e : Row) → get_or (map whole_row cuts) i no_row ≡ whole_row (get_or cuts i e))
cut_whole [] i w = absurd w
cut_whole (cut ∷ cuts) zero w = (omega arith, λ e. refl)
cut_whole (cut ∷ cuts) (suc i) w = let rest = cut_whole cuts i w in (omega (arith, rest.0), rest.1)

-- the row of a number among those of cuts
pub record IsOfCut (p : Program) (d : Decomposition) (cuts : List Row) (i : ℕ) : Type 0 where
  pub behind : length p.rows + link_count p d ≤ i
  pub there : i - (length p.rows + link_count p d) < length cuts
  pub row : (e : Row) → get_or (proof_rows p d cuts) i no_row ≡ whole_row (get_or cuts (i - (length p.rows + link_count p d)) e)

pub row_behind : (p : Program) (d : Decomposition) (cuts : List Row) (i : ℕ) → HasPlaces p d → length p.rows ≤ i
    → IsWhole (get_or (proof_rows p d cuts) i no_row) → IsOfCut p d cuts i
row_behind p d cuts i places past w = ⊎_elim
    (λ less.
    let own : List ProofRow = own_rows p.rows d.places in
    let at : get_or (proof_rows p d cuts) i no_row ≡ get_or (all_links p d) (i - length p.rows) no_row =
    get_or-append (own ++ all_links p d) (map whole_row cuts) no_row i (omega (arith, less, long))
    ∙ get_or-append_right own (all_links p d) (length p.rows) i no_row (own_long p.rows d.places places.each) past in
    absurd (kept_at (λ row. IsWhole row → ⊥) (all_links p d) no_row (all_links_each (λ row. IsWhole row → ⊥) (λ v k w. w) p d (range_with_len 0 (length p.spans))) (λ w. w) (i - length p.rows) (subst IsWhole at w)))
    (λ more.
    let at : get_or (proof_rows p d cuts) i no_row ≡ get_or (map whole_row cuts) (i - (length p.rows + link_count p d)) no_row =
    get_or-append_right (own_rows p.rows d.places ++ all_links p d) (map whole_row cuts) (length p.rows + link_count p d) i no_row long more in
    let of = cut_whole cuts (i - (length p.rows + link_count p d)) (subst IsWhole at w) in
    record { behind = more; there = of.0; row = λ e. at ∙ of.1 e })
    (cases_lt i (length p.rows + link_count p d))
  where
    long : length (own_rows p.rows d.places ++ all_links p d) ≡ length p.rows + link_count p d
    long = before_long p d places

-- ---- the number of the first cut

as_many_rows : (p : Program) (d : Decomposition) (earlier : List Row) (cuts : List Cut) → length (cut_rows p d earlier cuts) ≡ length earlier + length cuts
as_many_rows p d earlier [] = omega arith
as_many_rows p d earlier (cut ∷ cuts) =
    let row : Row = cut_row p (proof_rows p d earlier) cut in
    omega (arith, as_many_rows p d (earlier ++ row ∷ []) cuts, length-append earlier (row ∷ []))

-- a program's cuts are the last rows that proofs may name
pub first_behind : (b : BlockedProgram) → IsFormed b
    → length b.blocking.rows ≡ length b.named.program.rows + link_count b.named.program b.dec + length b.cuts
first_behind b formed =
    let p = b.named.program in
    let d = b.dec in
    let cuts : List Row = cut_rows p d [] b.cuts in
    let named : List ProofRow = proof_rows p d cuts in
    omega (
      arith,
      ap (λ (k : Blocking). length k.rows) formed.blocking,
      length-map (map full_row named) (option_map sides_of),
      length-map named full_row,
      length-append (own_rows p.rows d.places ++ all_links p d) (map whole_row cuts),
      length-map cuts whole_row,
      as_many_rows p d [] b.cuts,
      before_long p d formed.places,
    )

-- ---- rows are bounded

own_bounded : (p : Program) (rows : List Row) (places : List (Option ℕ)) → AllByRecursion (IsBounded p) rows
    → AllByRecursion (λ row. IsWhole row → IsBoundedRow p row) (own_rows rows places)
own_bounded p [] places h = tt
own_bounded p (row ∷ rows) [] h = tt
own_bounded p (row ∷ rows) (None ∷ ps) h = ((λ w. h.0), own_bounded p rows ps h.1)
own_bounded p (row ∷ rows) (Some k ∷ ps) h = ((λ w. absurd w), own_bounded p rows ps h.1)

cuts_bounded : (p : Program) (cuts : List Row) → AllByRecursion (IsEarlierCut p) cuts
    → AllByRecursion (λ row. IsWhole row → IsBoundedRow p row) (map whole_row cuts)
cuts_bounded p [] h = tt
cuts_bounded p (cut ∷ cuts) h = ((λ w. record { below = h.0.below; activity = h.0.bounded }), cuts_bounded p cuts h.1)

rows_bounded : (s : Rows) → IsRows s → AllByRecursion (λ row. IsWhole row → IsBoundedRow (program_of s) row) (rows_in s)
rows_bounded s h =
    let p = program_of s in
    let d = s.b.now.dec in
    let P : ProofRow → Type 0 = λ row. IsWhole row → IsBoundedRow p row in
    let kept = h.formed.kept in
    append_each P (own_rows p.rows d.places ++ all_links p d) (map whole_row s.earlier.now)
    (append_each P (own_rows p.rows d.places) (all_links p d)
    (own_bounded p p.rows d.places (recursion_from_All (IsBounded p) p.rows (λ k e l. record { below = kept.closed.rows k e l; activity = kept.row_activity k e l })))
    (all_links_each P (λ v k w. absurd w) p d (range_with_len 0 (length p.spans))))
    (cuts_bounded p s.earlier.now (recursion_from_All (IsEarlierCut p) s.earlier.now h.earlier))

pub bounded_there : (s : Rows) (number : ℕ) → IsRows s → IsWhole (get_or (rows_in s) number no_row) → IsBoundedRow (program_of s) (get_or (rows_in s) number no_row)
bounded_there s number h w = kept_at (λ row. IsWhole row → IsBoundedRow (program_of s) row) (rows_in s) no_row (rows_bounded s h) (λ w. w) number w

-- the entries of a cut are small multipliers of bounded rows
pub entries_bounded : (s : Rows) (cut : Cut) → IsRows s → IsCutOver (rows_in s) cut → All (IsBoundedEntry (program_of s) (rows_in s)) cut.rows
entries_bounded s cut h over = λ k e l. record {
  size = over.small.sizes k e l;
  row = kept_at (λ row. IsWhole row → IsBoundedRow (program_of s) row) (rows_in s) no_row (rows_bounded s h) (λ w. w) (get_or cut.rows k e).0 (over.whole k e l);
}

-- a row that is one of the rows
pub bounded_at : (p : Program) (row : ProofRow) (r : Row) → row ≡ whole_row r → IsBoundedRow p row → IsBounded p r
bounded_at p row r e h = subst (IsBoundedRow p) e h

-- a bounded row is a whole one
pub whole_of : (p : Program) (row : ProofRow) → IsBoundedRow p row → IsWhole row
whole_of p (whole_row row) h = tt
whole_of p (link_row v k) h = absurd h
whole_of p no_row h = absurd h

-- ---- which rows are whole

own_place : (rows : List Row) (places : List (Option ℕ)) (i : ℕ) → i < length rows → length places ≡ length rows
    → IsWhole (get_or (own_rows rows places) i no_row) ↔ (slice_get places i ≡ Some None)
own_place [] places i l e = absurd (omega (arith, l))
own_place (r ∷ rs) [] i l e = absurd (omega (arith, e))
own_place (r ∷ rs) (None ∷ ps) zero l e = ((λ w. refl), (λ is. tt))
own_place (r ∷ rs) (Some k ∷ ps) zero l e = ((λ w. absurd w), (λ is. let other : Some (Some k) ≡ Some None = is in absurd (cc)))
own_place (r ∷ rs) (place ∷ ps) (suc i) l e = own_place rs ps i (omega (arith, l)) (omega (arith, e))

-- a row of the program is whole where it is a master row
pub master_whole : (p : Program) (d : Decomposition) (cuts : List Row) (i : ℕ) → HasPlaces p d → i < length p.rows
    → IsWhole (get_or (proof_rows p d cuts) i no_row) ↔ (slice_get d.places i ≡ Some None)
master_whole p d cuts i places l =
    let own : List ProofRow = own_rows p.rows d.places in
    let long = own_long p.rows d.places places.each in
    let at : get_or (proof_rows p d cuts) i no_row ≡ get_or own i no_row =
    get_or-append (own ++ all_links p d) (map whole_row cuts) no_row i (omega (arith, l, before_long p d places))
    ∙ get_or-append own (all_links p d) no_row i (omega (arith, l, long)) in
    let is = own_place p.rows d.places i l places.each in
    ((λ w. is.0 (subst IsWhole at w)), λ e. subst IsWhole (sym at) (is.1 e))

-- behind the link rows each earlier cut is
pub cut_there : (p : Program) (d : Decomposition) (cuts : List Row) (i : ℕ) → HasPlaces p d → length p.rows + link_count p d ≤ i
    → i - (length p.rows + link_count p d) < length cuts → IsWhole (get_or (proof_rows p d cuts) i no_row)
cut_there p d cuts i places behind there =
    let at : get_or (proof_rows p d cuts) i no_row ≡ get_or (map whole_row cuts) (i - (length p.rows + link_count p d)) no_row =
    get_or-append_right (own_rows p.rows d.places ++ all_links p d) (map whole_row cuts) (length p.rows + link_count p d) i no_row (before_long p d places) behind in
    subst IsWhole (sym at) (each cuts (i - (length p.rows + link_count p d)) there)
  where
    each : (cuts : List Row) (k : ℕ) → k < length cuts → IsWhole (get_or (map whole_row cuts) k no_row)
    each [] k l = absurd (omega (arith, l))
    each (cut ∷ cuts) zero l = tt
    each (cut ∷ cuts) (suc k) l = each cuts k (omega (arith, l))

-- the rows that a cut may name, of parts that are the same
pub same_rows : (s : Rows) (b : BlockedProgram) (earlier : List Row) → s.b.now ≡ b → s.earlier.now ≡ earlier → rows_in s ≡ proof_rows b.named.program b.dec earlier
same_rows s b earlier e f =
    ap (λ (k : BlockedProgram). proof_rows k.named.program k.dec s.earlier.now) e ∙ ap (λ (rows : List Row). proof_rows b.named.program b.dec rows) f

-- which rows cuts may combine: the master rows, and behind the link rows those of earlier cuts
pub whole_is : (p : Program) (d : Decomposition) (cuts : List Row) (i : ℕ) → HasPlaces p d
    → IsWhole (get_or (proof_rows p d cuts) i no_row)
    ↔ (((i < length p.rows) × (slice_get d.places i ≡ Some None)) ⊎ ((length p.rows + link_count p d ≤ i) × (i < length p.rows + link_count p d + length cuts)))
whole_is p d cuts i places = (
  (λ w. ⊎_elim
      (λ less. inl (less, (master_whole p d cuts i places less).0 w))
      (λ past.
      let of = row_behind p d cuts i places past w in
      inr (of.behind, omega (arith, of.behind, of.there)))
      (cases_lt i (length p.rows))),
  λ either. ⊎_elim
      (λ own. (master_whole p d cuts i places own.0).1 own.1)
      (λ behind. cut_there p d cuts i places behind.0 (omega (arith, behind.0, behind.1)))
      either,
)
