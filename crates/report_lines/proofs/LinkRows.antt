-- How many rows proofs may name: the program's rows, the link rows and the cuts.
use Rattle.std.proofs.Common.{◌≡◌, ◌+◌, List, [], ◌∷◌, ◌++◌, map, length, ap, arith, length-append}
use Rattle.std.specs.Prelude.{option_map}
use Rattle.std.specs.List.{range_with_len, flat_map}
use Rattle.std.proofs.lemmas.List.{length-map}
use Rattle.bp_theory.specs.Program.{Program}
use Rattle.bp_theory.specs.Blocking.{Blocking, sides_of}
use Rattle.bp_theory.specs.Cuts.{cut_row, cut_rows}
use Rattle.bp_theory.specs.Decomposition.{Decomposition, ProofRow, whole_row, links_of, proof_rows, full_row, link_count}
use Rattle.bp_theory.specs.declared.Cut.{Cut}
use Rattle.bp_theory.specs.declared.Row.{Row}
use Rattle.block_program.specs.Blocked.{BlockedProgram, IsFormed}
use Rattle.block_program.proofs.NamedRows.{own_rows, own_long}

as_many_cuts : (p : Program) (d : Decomposition) (earlier : List Row) (cuts : List Cut) → length (cut_rows p d earlier cuts) ≡ length earlier + length cuts
as_many_cuts p d earlier [] = omega arith
as_many_cuts p d earlier (cut ∷ cuts) =
    let row : Row = cut_row p (proof_rows p d earlier) cut in
    omega (arith, as_many_cuts p d (earlier ++ row ∷ []) cuts, length-append earlier (row ∷ []))

pub rows_counted : (b : BlockedProgram) → IsFormed b
    → length b.blocking.rows ≡ length b.named.program.rows + link_count b.named.program b.dec + length b.cuts
rows_counted b formed =
    let p : Program = b.named.program in
    let cuts : List Row = cut_rows p b.dec [] b.cuts in
    let own : List ProofRow = own_rows p.rows b.dec.places in
    let links : List ProofRow = flat_map (links_of p b.dec) (range_with_len 0 (length p.spans)) in
    omega (
      arith,
      ap (λ (x : Blocking). length x.rows) formed.blocking,
      length-map (map full_row (proof_rows p b.dec cuts)) (option_map sides_of),
      length-map (proof_rows p b.dec cuts) full_row,
      length-append own (links ++ map whole_row cuts),
      length-append links (map whole_row cuts),
      length-append (own ++ links) (map whole_row cuts),
      length-append own links,
      length-map cuts whole_row,
      own_long p.rows b.dec.places formed.places.each,
      as_many_cuts p b.dec [] b.cuts,
    )
