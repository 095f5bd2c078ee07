-- What the texts of certificates may name hangs on no cut.
use Rattle.std.proofs.Common.{◌≡◌, ◌∙◌, refl, sym, ap, ℕ, zero, suc, ◌+◌, ◌<◌, Bool, List, [], ◌∷◌, ◌++◌, map, length, get_or, Option, None, arith, length-append}
use Rattle.std.specs.Prelude.{is_some, option_map}
use Rattle.std.specs.List.{range_with_len, flat_map}
use Rattle.std.proofs.lemmas.List.{length-map, get_or_append_left}
use Rattle.bp_theory.specs.Program.{Program}
use Rattle.bp_theory.specs.Blocking.{Blocking, row_at, sides_of}
use Rattle.bp_theory.specs.Decomposition.{Decomposition, ProofRow, whole_row, proof_rows, links_of, full_row, block_of, lone_block, lone_variables, blocking_of}
use Rattle.bp_theory.specs.Cuts.{cut_row, cut_rows}
use Rattle.bp_theory.specs.declared.Limits.{Limits}
use Rattle.bp_theory.specs.declared.Row.{Row}
use Rattle.bp_theory.specs.declared.MasterRow.{MasterRow}
use Rattle.bp_theory.specs.declared.Cut.{Cut}
use Rattle.block_program.specs.Blocked.{BlockedProgram, IsFormed}
use Rattle.block_program.proofs.NamedRows.{own_rows, own_long}
use Rattle.cert_text.specs.Programs.{frame_by, frame_for, masters_of, links_behind}
use Rattle.cert_load.specs.Recut.{with_cuts}

abbrev sides : List ProofRow → List (Option MasterRow)
sides rows = map (option_map sides_of) (map full_row rows)

sides_append : (xs ys : List ProofRow) → sides (xs ++ ys) ≡ sides xs ++ sides ys
sides_append [] ys = refl
sides_append (x ∷ xs) ys = ap (λ (rows : List (Option MasterRow)). option_map sides_of (full_row x) ∷ rows) (sides_append xs ys)

sides_long : (rows : List ProofRow) → length (sides rows) ≡ length rows
sides_long rows = length-map (map full_row rows) (option_map sides_of) ∙ length-map rows full_row

links : Program → Decomposition → List ProofRow
links p d = flat_map (links_of p d) (range_with_len 0 (length p.spans))

-- the program's own rows stand in front, whatever the cuts
own_row : (p : Program) (d : Decomposition) (rows : List Row) (r : ℕ) → length d.places ≡ length p.rows → r < length p.rows
    → row_at (blocking_of p d rows) r ≡ get_or (sides (own_rows p.rows d.places)) r None
unfolding links
own_row p d rows r each there =
    let own : List ProofRow = own_rows p.rows d.places in
    let within : r < length (sides own) = omega (arith, there, sides_long own, own_long p.rows d.places each) in
    ap (λ (rs : List (Option MasterRow)). get_or rs r None) (sides_append (own ++ links p d) (map whole_row rows))
    ∙ get_or_append_left (sides (own ++ links p d)) (sides (map whole_row rows)) None r
    (omega (arith, within, ap (λ (rs : List (Option MasterRow)). length rs) (sides_append own (links p d)), length-append (sides own) (sides (links p d))))
    ∙ ap (λ (rs : List (Option MasterRow)). get_or rs r None) (sides_append own (links p d))
    ∙ get_or_append_left (sides own) (sides (links p d)) None r within

-- how many rows proofs may name
rows_long : (p : Program) (d : Decomposition) (rows : List Row) → length d.places ≡ length p.rows
    → length (blocking_of p d rows).rows ≡ length p.rows + length (links p d) + length rows
unfolding links
rows_long p d rows each =
    let own : List ProofRow = own_rows p.rows d.places in
    omega (
      arith,
      sides_long ((own ++ links p d) ++ map whole_row rows),
      length-append (own ++ links p d) (map whole_row rows),
      length-append own (links p d),
      length-map rows whole_row,
      own_long p.rows d.places each,
    )

-- how many rows cuts have
rows_of_cuts : (p : Program) (d : Decomposition) (earlier : List Row) (cuts : List Cut) → length (cut_rows p d earlier cuts) ≡ length earlier + length cuts
rows_of_cuts p d earlier [] = omega arith
rows_of_cuts p d earlier (cut ∷ cuts) =
    let row : Row = cut_row p (proof_rows p d earlier) cut in
    omega (arith, rows_of_cuts p d (earlier ++ row ∷ []) cuts, length-append earlier (row ∷ []))

-- how many blocks there are
blocks_long : (p : Program) (d : Decomposition) (rows : List Row)
    → length (blocking_of p d rows).blocks ≡ length (range_with_len 0 d.blocks) + length (lone_variables p d)
blocks_long p d rows =
    length-append (map (block_of p d (proof_rows p d rows)) (range_with_len 0 d.blocks)) (map (lone_block p d (proof_rows p d rows)) (lone_variables p d))
    ∙ ap (λ (n : ℕ). n + length (map (lone_block p d (proof_rows p d rows)) (lone_variables p d))) (length-map (range_with_len 0 d.blocks) (block_of p d (proof_rows p d rows)))
    ∙ ap (λ (n : ℕ). length (range_with_len 0 d.blocks) + n) (length-map (lone_variables p d) (lone_block p d (proof_rows p d rows)))

map_alike : (f g : ℕ → Bool) (a n : ℕ) → ((k : ℕ) → k < a + n → f k ≡ g k) → map f (range_with_len a n) ≡ map g (range_with_len a n)
map_alike f g a zero alike = refl
map_alike f g a (suc n) alike =
    let first : f a ≡ g a = alike a (omega arith) in
    let rest : map f (range_with_len (a + 1) n) ≡ map g (range_with_len (a + 1) n) = map_alike f g (a + 1) n (λ k l. alike k (omega (arith, l))) in
    rw (first, rest) refl

frames_by : (v : ℕ) (ms ns : List Bool) (l m j k : ℕ) (limits : Limits) → ms ≡ ns → l ≡ m → j ≡ k → frame_by v ms l j limits ≡ frame_by v ns m k limits
frames_by v ms ns l m j k limits p q r = rw (p, q, r) refl

-- the frame of a program with other cuts
pub same_frame : (b : BlockedProgram) (cuts : List Cut) → IsFormed b → frame_for (with_cuts b cuts) ≡ frame_for b
same_frame b cuts formed =
    let p : Program = b.named.program in
    let mine : List Row = cut_rows p b.dec [] b.cuts in
    let theirs : List Row = cut_rows p b.dec [] cuts in
    let masters : masters_of (with_cuts b cuts) ≡ masters_of b =
    map_alike (λ (row : ℕ). is_some (row_at (blocking_of p b.dec theirs) row)) (λ (row : ℕ). is_some (row_at b.blocking row)) 0 (length p.rows)
    (λ k l. let there : k < length p.rows = omega (arith, l) in ap is_some (own_row p b.dec theirs k formed.places.each there ∙ sym (own_row p b.dec mine k formed.places.each there)
    ∙ ap (λ (x : Blocking). row_at x k) (sym formed.blocking))) in
    let behind : links_behind (with_cuts b cuts) ≡ links_behind b =
    omega (
      arith,
      rows_long p b.dec theirs formed.places.each,
      rows_long p b.dec mine formed.places.each,
      ap (λ (x : Blocking). length x.rows) formed.blocking,
      rows_of_cuts p b.dec [] cuts,
      rows_of_cuts p b.dec [] b.cuts,
    ) in
    let blocks : length (blocking_of p b.dec theirs).blocks ≡ length b.blocking.blocks =
    blocks_long p b.dec theirs ∙ sym (blocks_long p b.dec mine) ∙ ap (λ (x : Blocking). length x.blocks) (sym formed.blocking) in
    frames_by (length p.spans) (masters_of (with_cuts b cuts)) (masters_of b) (links_behind (with_cuts b cuts)) (links_behind b)
    (length (blocking_of p b.dec theirs).blocks) (length b.blocking.blocks) p.limits masters behind blocks
