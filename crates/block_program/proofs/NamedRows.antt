-- The rows that proofs may name: those of the program itself, and how many there are.
use Rattle.std.proofs.Common.{◌≡◌, ℕ, suc, ◌+◌, ◌≤◌, List, [], ◌∷◌, ◌++◌, map, length, Option, refl, ap, ⊎_elim, inl, arith, length-append}
use Rattle.std.specs.Prelude.{option_map}
use Rattle.std.specs.List.{range_with_len, zip, flat_map}
use Rattle.std.proofs.lemmas.Bool.{cases_lt}
use Rattle.std.proofs.lemmas.List.{length-map}
use Rattle.bp_theory.specs.Limits.{most_lines}
use Rattle.bp_theory.specs.Program.{Program}
use Rattle.bp_theory.specs.Blocking.{Blocking, sides_of}
use Rattle.bp_theory.specs.Decomposition.{Decomposition, ProofRow, whole_row, proof_row, links_of, proof_rows, full_row, HasLargeLinks, link_count}
use Rattle.bp_theory.specs.Cuts.{cut_row, cut_rows}
use Rattle.bp_theory.specs.declared.Limits.TheVariants.{Large}
use Rattle.bp_theory.specs.declared.Row.{Row}
use Rattle.bp_theory.specs.declared.Cut.{Cut}
use Rattle.bp_theory.proofs.LimitLaws.{few_lines}
use Rattle.block_program.specs.Blocked.{BlockedProgram, IsFormed}

-- the rows of the program itself
abbrev pub own_rows : List Row → List (Option ℕ) → List ProofRow
own_rows rows places = map (λ (e : Row × Option ℕ). proof_row e.0 e.1) (zip rows places)

pub own_long : (rows : List Row) (places : List (Option ℕ)) → length places ≡ length rows → length (own_rows rows places) ≡ length rows
own_long [] places each = refl
own_long (row ∷ rows) [] each = absurd (omega (arith, each))
own_long (row ∷ rows) (place ∷ places) each = ap suc (own_long rows places (omega (arith, each)))

few_own : (rows : List Row) (places : List (Option ℕ)) → length (map (λ (e : Row × Option ℕ). proof_row e.0 e.1) (zip rows places)) ≤ length rows
few_own [] places = omega arith
few_own (row ∷ rows) [] = omega arith
few_own (row ∷ rows) (place ∷ places) = omega (arith, few_own rows places)

few_links : (p : Program) (d : Decomposition) → (HasLargeLinks p d → ⊥) → length p.rows + link_count p d ≤ most_lines Large
few_links p d moderate = ⊎_elim (λ large. absurd (moderate (inl large))) (λ few. omega (arith, few, few_lines p.limits)) (cases_lt (most_lines p.limits) (length p.rows + link_count p d))

as_many_cuts : (p : Program) (d : Decomposition) (earlier : List Row) (cuts : List Cut) → length (cut_rows p d earlier cuts) ≡ length earlier + length cuts
as_many_cuts p d earlier [] = omega arith
as_many_cuts p d earlier (cut ∷ cuts) =
    let row : Row = cut_row p (proof_rows p d earlier) cut in
    omega (arith, as_many_cuts p d (earlier ++ row ∷ []) cuts, length-append earlier (row ∷ []))

-- at most those of 1,048,576 rows and links, and of 256 cuts
pub few_named : (b : BlockedProgram) → IsFormed b → length b.blocking.rows ≤ 1048832
few_named b formed =
    let p : Program = b.named.program in
    let cuts : List Row = cut_rows p b.dec [] b.cuts in
    let own : List ProofRow = map (λ (e : Row × Option ℕ). proof_row e.0 e.1) (zip p.rows b.dec.places) in
    let links : List ProofRow = flat_map (links_of p b.dec) (range_with_len 0 (length p.spans)) in
    omega (
      arith,
      ap (λ (x : Blocking). length x.rows) formed.blocking,
      length-map (map full_row (proof_rows p b.dec cuts)) (option_map sides_of),
      length-map (proof_rows p b.dec cuts) full_row,
      length-append own (links ++ map whole_row cuts),
      length-append links (map whole_row cuts),
      length-append (own ++ links) (map whole_row cuts),
      length-append own links,
      length-map cuts whole_row,
      few_own p.rows b.dec.places,
      few_links p b.dec formed.moderate,
      as_many_cuts p b.dec [] b.cuts,
      formed.cuts_kept.few,
    )
