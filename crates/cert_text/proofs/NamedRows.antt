-- The rows that proofs may name are those that a text may name: the model's rows but those of blocks, the link rows behind them, and then the cuts.
use Rattle.std.proofs.Common.{◌≡◌, ℕ, zero, suc, ◌+◌, ◌-◌, ◌<◌, ◌≤◌, Bool, true, false, ◌&&◌, ◌||◌, List, [], ◌∷◌, ◌++◌, map, length, get_or, Option, None, refl, sym, ap, subst, ◌∙◌, inl, ⊎_elim, arith, true≢false, length-append, append_assoc}
use Rattle.std.specs.Prelude.{is_some, option_map, IsSome, nat_lt, nat_le}
use Rattle.std.specs.List.{range_with_len, flat_map}
use Rattle.std.proofs.lemmas.Bool.{ltb-true, leb-true, lt-ltb, le-leb, cases_lt}
use Rattle.std.proofs.lemmas.List.{length-map, get_or_append_left}
use Rattle.std.proofs.lemmas.List.FromFn.{length-map-range_with_len, get_or-map-range_with_len}
use Rattle.bp_theory.specs.Limits.{most_lines}
use Rattle.bp_theory.specs.Program.{Program}
use Rattle.bp_theory.specs.Blocking.{Blocking, row_at, sides_of}
use Rattle.bp_theory.specs.Decomposition.{Decomposition, ProofRow, whole_row, link_row, links_of, proof_rows, full_row, link_count, block_of, lone_block, lone_variables, blocking_of}
use Rattle.bp_theory.specs.Cuts.{cut_row, cut_rows}
use Rattle.bp_theory.specs.declared.Limits.TheVariants.{Large}
use Rattle.bp_theory.specs.declared.Row.{Row}
use Rattle.bp_theory.specs.declared.Cut.{Cut}
use Rattle.bp_theory.specs.declared.MasterRow.{MasterRow}
use Rattle.bp_theory.proofs.LimitLaws.{few_lines}
use Rattle.block_program.specs.Blocked.{BlockedProgram, IsFormed}
use Rattle.block_program.proofs.NamedRows.{own_rows, own_long}
use Rattle.cert_format.specs.Text.{may_name}
use Rattle.cert_text.specs.Programs.{masters_of, links_behind, frame_for}

-- ---- lists

-- a place of a list where something stands is within it
some_within : {X : Type 0} (xs : List (Option X)) (r : ℕ) → IsSome (get_or xs r None) → r < length xs
some_within [] r is = absurd (true≢false (sym is))
some_within (x ∷ xs) zero is = omega arith
some_within (x ∷ xs) (suc r) is = let rest = some_within xs r is in omega (arith, rest)

-- where something stands at each place of a list, it stands behind the places of another in front
some_behind : {X : Type 0} (xs ys : List (Option X)) → ((r : ℕ) → r < length ys → IsSome (get_or ys r None)) → (r : ℕ) → length xs ≤ r → r < length (xs ++ ys) → IsSome (get_or (xs ++ ys) r None)
some_behind [] ys all r past there = all r there
some_behind (x ∷ xs) ys all zero past there = absurd (let none : ⊥ = omega (arith, past) in none)
some_behind (x ∷ xs) ys all (suc r) past there = some_behind xs ys all r (omega (arith, past)) (omega (arith, there))

some_of_both : {X : Type 0} (xs ys : List (Option X)) → ((r : ℕ) → r < length xs → IsSome (get_or xs r None)) → ((r : ℕ) → r < length ys → IsSome (get_or ys r None))
    → (r : ℕ) → r < length (xs ++ ys) → IsSome (get_or (xs ++ ys) r None)
some_of_both [] ys one other r there = other r there
some_of_both (x ∷ xs) ys one other zero there = one zero (omega arith)
some_of_both (x ∷ xs) ys one other (suc r) there = some_of_both xs ys (λ k l. one (suc k) (omega (arith, l))) other r (omega (arith, there))

-- ---- the rows that proofs may name

abbrev pub sides : List ProofRow → List (Option MasterRow)
sides rows = map (option_map sides_of) (map full_row rows)

-- each link row may be named
links_named : (v : ℕ) (ks : List ℕ) (r : ℕ) → r < length (sides (map (link_row v) ks)) → IsSome (get_or (sides (map (link_row v) ks)) r None)
links_named v [] r there = absurd (let none : ⊥ = omega (arith, there) in none)
links_named v (k ∷ ks) zero there = refl
links_named v (k ∷ ks) (suc r) there = links_named v ks r (omega (arith, there))

sides_append : (xs ys : List ProofRow) → sides (xs ++ ys) ≡ sides xs ++ sides ys
sides_append [] ys = refl
sides_append (x ∷ xs) ys = ap (λ (rows : List (Option MasterRow)). option_map sides_of (full_row x) ∷ rows) (sides_append xs ys)

all_links_named : (p : Program) (d : Decomposition) (vs : List ℕ) (r : ℕ) → r < length (sides (flat_map (links_of p d) vs)) → IsSome (get_or (sides (flat_map (links_of p d) vs)) r None)
all_links_named p d [] r there = absurd (let none : ⊥ = omega (arith, there) in none)
all_links_named p d (v ∷ vs) r there =
    let one : List ProofRow = links_of p d v in
    let rest : List ProofRow = flat_map (links_of p d) vs in
    let P : List (Option MasterRow) → Type 0 = λ rows. (r : ℕ) → r < length rows → IsSome (get_or rows r None) in
    subst P (sym (sides_append one rest)) (some_of_both (sides one) (sides rest) (links_named v _) (all_links_named p d vs)) r there

-- the link rows
unfoldable pub links : BlockedProgram → List ProofRow
links b = flat_map (links_of b.named.program b.dec) (range_with_len 0 (length b.named.program.spans))

-- the rows of cuts
abbrev rows_of : BlockedProgram → List Cut → List ProofRow
rows_of b cuts = map whole_row (cut_rows b.named.program b.dec [] cuts)

-- the blocking of a program's decomposition with these cuts
abbrev pub blocking_over : BlockedProgram → List Cut → Blocking
blocking_over b cuts = blocking_of b.named.program b.dec (cut_rows b.named.program b.dec [] cuts)

-- the rows that proofs may name where there are these cuts
abbrev pub rows_with : BlockedProgram → List Cut → List (Option MasterRow)
rows_with b cuts = (blocking_over b cuts).rows

-- the model's rows, behind them the link rows, and then the cuts
rows_are : (b : BlockedProgram) (cuts : List Cut) → rows_with b cuts ≡ sides (own_rows b.named.program.rows b.dec.places) ++ (sides (links b) ++ sides (rows_of b cuts))
unfolding links
rows_are b cuts =
    let own : List ProofRow = own_rows b.named.program.rows b.dec.places in
    sides_append (own ++ links b) (rows_of b cuts)
    ∙ ap (λ (rows : List (Option MasterRow)). rows ++ sides (rows_of b cuts)) (sides_append own (links b))
    ∙ append_assoc (sides own) (sides (links b)) (sides (rows_of b cuts))

sides_long : (rows : List ProofRow) → length (sides rows) ≡ length rows
sides_long rows = length-map (map full_row rows) (option_map sides_of) ∙ length-map rows full_row

own_sides_long : (b : BlockedProgram) → IsFormed b → length (sides (own_rows b.named.program.rows b.dec.places)) ≡ length b.named.program.rows
own_sides_long b formed = sides_long (own_rows b.named.program.rows b.dec.places) ∙ own_long b.named.program.rows b.dec.places formed.places.each

as_many_cuts : (p : Program) (d : Decomposition) (earlier : List Row) (cuts : List Cut) → length (cut_rows p d earlier cuts) ≡ length earlier + length cuts
as_many_cuts p d earlier [] = omega arith
as_many_cuts p d earlier (cut ∷ cuts) =
    let row : Row = cut_row p (proof_rows p d earlier) cut in
    omega (arith, as_many_cuts p d (earlier ++ row ∷ []) cuts, length-append earlier (row ∷ []))

cuts_long : (b : BlockedProgram) (cuts : List Cut) → length (sides (rows_of b cuts)) ≡ length cuts
cuts_long b cuts =
    omega (arith, sides_long (rows_of b cuts), length-map (cut_rows b.named.program b.dec [] cuts) whole_row, as_many_cuts b.named.program b.dec [] cuts)

-- as many as the model's rows, the link rows and the cuts
rows_counted : (b : BlockedProgram) → IsFormed b → (cuts : List Cut) → length (rows_with b cuts) ≡ length b.named.program.rows + link_count b.named.program b.dec + length cuts
unfolding links
rows_counted b formed cuts =
    let own : List (Option MasterRow) = sides (own_rows b.named.program.rows b.dec.places) in
    let behind : List (Option MasterRow) = sides (links b) ++ sides (rows_of b cuts) in
    omega (
      arith,
      ap (λ (rs : List (Option MasterRow)). length rs) (rows_are b cuts),
      length-append own behind,
      length-append (sides (links b)) (sides (rows_of b cuts)),
      own_sides_long b formed,
      sides_long (links b),
      cuts_long b cuts,
    )

-- those of a program with its own cuts
own_blocking : (b : BlockedProgram) → IsFormed b → b.blocking.rows ≡ rows_with b b.cuts
own_blocking b formed = ap (λ (x : Blocking). x.rows) formed.blocking

all_counted : (b : BlockedProgram) → IsFormed b → length b.blocking.rows ≡ length b.named.program.rows + link_count b.named.program b.dec + length b.cuts
all_counted b formed = ap (λ (rs : List (Option MasterRow)). length rs) (own_blocking b formed) ∙ rows_counted b formed b.cuts

-- the model's rows and the cuts are among them
pub rows_within : (b : BlockedProgram) → IsFormed b → length b.named.program.rows + length b.cuts ≤ length b.blocking.rows
rows_within b formed = omega (arith, all_counted b formed)

links_counted : (b : BlockedProgram) → IsFormed b → links_behind b ≡ link_count b.named.program b.dec
links_counted b formed = omega (arith, all_counted b formed)

pub links_long : (b : BlockedProgram) → IsFormed b → length (links b) ≡ links_behind b
unfolding links
links_long b formed = sym (links_counted b formed)

-- without the cuts they are few
pub rows_few : (b : BlockedProgram) → IsFormed b → length b.named.program.rows + links_behind b ≤ most_lines Large
rows_few b formed = ⊎_elim
    (λ many. absurd (formed.moderate (inl (omega (arith, many, links_counted b formed)))))
    (λ few. omega (arith, few, few_lines b.named.program.limits))
    (cases_lt (most_lines b.named.program.limits) (length b.named.program.rows + links_behind b))

-- with these cuts there are as many
with_counted : (b : BlockedProgram) → IsFormed b → (cuts : List Cut) → length (rows_with b cuts) ≡ length b.named.program.rows + links_behind b + length cuts
with_counted b formed cuts = omega (arith, rows_counted b formed cuts, links_counted b formed)

link_named : (b : BlockedProgram) (r : ℕ) → r < length (sides (links b)) → IsSome (get_or (sides (links b)) r None)
unfolding links
link_named b r there = all_links_named b.named.program b.dec (range_with_len 0 (length b.named.program.spans)) r there

cut_named : (rows : List Row) (r : ℕ) → r < length (sides (map whole_row rows)) → IsSome (get_or (sides (map whole_row rows)) r None)
cut_named [] r there = absurd (let none : ⊥ = omega (arith, there) in none)
cut_named (row ∷ rows) zero there = refl
cut_named (row ∷ rows) (suc r) there = cut_named rows r (omega (arith, there))

-- behind the model's rows each may be named
named_behind : (b : BlockedProgram) → IsFormed b → (cuts : List Cut) (r : ℕ) → length b.named.program.rows ≤ r → r < length (rows_with b cuts) → IsSome (get_or (rows_with b cuts) r None)
named_behind b formed cuts r past there =
    let own : List (Option MasterRow) = sides (own_rows b.named.program.rows b.dec.places) in
    let behind : List (Option MasterRow) = sides (links b) ++ sides (rows_of b cuts) in
    subst (λ (rs : List (Option MasterRow)). IsSome (get_or rs r None)) (sym (rows_are b cuts))
    (some_behind own behind (some_of_both (sides (links b)) (sides (rows_of b cuts)) (link_named b) (cut_named (cut_rows b.named.program b.dec [] cuts))) r
    (omega (arith, past, own_sides_long b formed)) (omega (arith, there, ap (λ (rs : List (Option MasterRow)). length rs) (rows_are b cuts))))

-- the model's rows are the same whatever the cuts
own_at : (b : BlockedProgram) → IsFormed b → (cuts : List Cut) (r : ℕ) → r < length b.named.program.rows
    → get_or (rows_with b cuts) r None ≡ get_or (sides (own_rows b.named.program.rows b.dec.places)) r None
own_at b formed cuts r there =
    let own : List (Option MasterRow) = sides (own_rows b.named.program.rows b.dec.places) in
    ap (λ (rs : List (Option MasterRow)). get_or rs r None) (rows_are b cuts)
    ∙ get_or_append_left own (sides (links b) ++ sides (rows_of b cuts)) None r (omega (arith, there, own_sides_long b formed))

pub own_side : (b : BlockedProgram) → IsFormed b → (r : ℕ) → r < length b.named.program.rows
    → row_at b.blocking r ≡ get_or (sides (own_rows b.named.program.rows b.dec.places)) r None
own_side b formed r there = ap (λ (rs : List (Option MasterRow)). get_or rs r None) (own_blocking b formed) ∙ own_at b formed b.cuts r there

own_same : (b : BlockedProgram) → IsFormed b → (cuts : List Cut) (r : ℕ) → r < length b.named.program.rows → row_at b.blocking r ≡ get_or (rows_with b cuts) r None
own_same b formed cuts r there = own_side b formed r there ∙ sym (own_at b formed cuts r there)

-- ---- the rows that a text may name

pub masters_long : (b : BlockedProgram) → length (masters_of b) ≡ length b.named.program.rows
masters_long b = length-map-range_with_len (λ row. is_some (row_at b.blocking row)) 0 (length b.named.program.rows)

pub master_at : (b : BlockedProgram) (r : ℕ) → r < length b.named.program.rows → get_or (masters_of b) r false ≡ is_some (row_at b.blocking r)
master_at b r there = get_or-map-range_with_len (λ row. is_some (row_at b.blocking row)) 0 (length b.named.program.rows) r r false there (omega arith)

-- what may be named of a list of the model's rows, of so many link rows and of so many cuts
abbrev names : List Bool → ℕ → ℕ → ℕ → Bool
names masters links cuts row =
    (nat_le row (length masters) && (nat_lt 0 row && get_or masters (row - 1) false)) || (nat_lt (length masters) row && nat_le row (length masters + links + cuts))

own_name : (masters : List Bool) (links cuts r : ℕ) → r < length masters → names masters links cuts (r + 1) ≡ get_or masters r false
own_name masters links cuts r there =
    let same : r + 1 - 1 ≡ r = omega arith in
    by (nat_le (r + 1) (length masters)) (nat_lt 0 (r + 1)) (get_or masters (r + 1 - 1) false) (nat_lt (length masters) (r + 1)) (nat_le (r + 1) (length masters + links + cuts))
    (le-leb (r + 1) (length masters) (omega (arith, there))) (lt-ltb 0 (r + 1) (omega arith))
    (not_past (nat_lt (length masters) (r + 1)) refl)
    ∙ ap (λ (n : ℕ). get_or masters n false) same
  where
    by : (w x y u v : Bool) → w ≡ true → x ≡ true → u ≡ false → ((w && (x && y)) || (u && v)) ≡ y
    by true true true false v p q e = refl
    by true true false false v p q e = refl
    by true true y true v p q e = absurd (true≢false e)
    by true false y u v p q e = absurd (true≢false (sym q))
    by false x y u v p q e = absurd (true≢false (sym p))

    not_past : (u : Bool) → nat_lt (length masters) (r + 1) ≡ u → u ≡ false
    not_past true e = absurd (let less : length masters < r + 1 = ltb-true (length masters) (r + 1) e in let none : ⊥ = omega (arith, less, there) in none)
    not_past false e = refl

link_name : (masters : List Bool) (links cuts r : ℕ) → length masters ≤ r → names masters links cuts (r + 1) ≡ nat_le (r + 1) (length masters + links + cuts)
link_name masters links cuts r past =
    by (nat_le (r + 1) (length masters)) (nat_lt 0 (r + 1) && get_or masters (r + 1 - 1) false) (nat_lt (length masters) (r + 1)) (nat_le (r + 1) (length masters + links + cuts))
    (not_own (nat_le (r + 1) (length masters)) refl) (lt-ltb (length masters) (r + 1) (omega (arith, past)))
  where
    by : (w x u v : Bool) → w ≡ false → u ≡ true → ((w && x) || (u && v)) ≡ v
    by false x true v p q = refl
    by false x false v p q = absurd (true≢false (sym q))
    by true x u v p q = absurd (true≢false p)

    not_own : (w : Bool) → nat_le (r + 1) (length masters) ≡ w → w ≡ false
    not_own true e = absurd (let low : r + 1 ≤ length masters = leb-true (r + 1) (length masters) e in let none : ⊥ = omega (arith, low, past) in none)
    not_own false e = refl

-- what a text with so many cuts may name, proofs may
pub named_of_text : (b : BlockedProgram) → IsFormed b → (cuts : List Cut) (r : ℕ) → may_name (frame_for b) (length cuts) (r + 1) ≡ true → IsSome (get_or (rows_with b cuts) r None)
named_of_text b formed cuts r is = ⊎_elim
    (λ own.
    subst (λ (row : Option MasterRow). IsSome row) (own_same b formed cuts r own)
    (sym (master_at b r own) ∙ sym (own_name (masters_of b) (links_behind b) (length cuts) r (omega (arith, own, masters_long b))) ∙ is))
    (λ past.
    let within = leb-true (r + 1) (length (masters_of b) + links_behind b + length cuts) (sym (link_name (masters_of b) (links_behind b) (length cuts) r (omega (arith, past, masters_long b))) ∙ is) in
    named_behind b formed cuts r past (omega (arith, within, masters_long b, with_counted b formed cuts)))
    (cases_lt r (length b.named.program.rows))

-- what proofs may name, a text may
pub text_of_named : (b : BlockedProgram) → IsFormed b → (cuts : List Cut) (r : ℕ) → IsSome (get_or (rows_with b cuts) r None) → may_name (frame_for b) (length cuts) (r + 1) ≡ true
text_of_named b formed cuts r is = ⊎_elim
    (λ own.
    own_name (masters_of b) (links_behind b) (length cuts) r (omega (arith, own, masters_long b))
    ∙ master_at b r own ∙ subst (λ (row : Option MasterRow). IsSome row) (sym (own_same b formed cuts r own)) is)
    (λ past.
    link_name (masters_of b) (links_behind b) (length cuts) r (omega (arith, past, masters_long b))
    ∙ le-leb (r + 1) (length (masters_of b) + links_behind b + length cuts) (omega (arith, some_within (rows_with b cuts) r is, masters_long b, with_counted b formed cuts)))
    (cases_lt r (length b.named.program.rows))

-- whatever the cuts, the blocks are as many
pub blocks_same : (b : BlockedProgram) → IsFormed b → (cuts : List Cut) → length (blocking_over b cuts).blocks ≡ length b.blocking.blocks
blocks_same b formed cuts = many (cut_rows b.named.program b.dec [] cuts) ∙ sym (ap (λ (x : Blocking). length x.blocks) formed.blocking ∙ many (cut_rows b.named.program b.dec [] b.cuts))
  where
    many : (rows : List Row) → length (blocking_of b.named.program b.dec rows).blocks ≡ length (range_with_len 0 b.dec.blocks) + length (lone_variables b.named.program b.dec)
    many rows =
        let all : List ProofRow = proof_rows b.named.program b.dec rows in
        length-append (map (block_of b.named.program b.dec all) (range_with_len 0 b.dec.blocks)) (map (lone_block b.named.program b.dec all) (lone_variables b.named.program b.dec))
        ∙ ap (λ n. n + length (map (lone_block b.named.program b.dec all) (lone_variables b.named.program b.dec))) (length-map (range_with_len 0 b.dec.blocks) (block_of b.named.program b.dec all))
        ∙ ap (λ n. length (range_with_len 0 b.dec.blocks) + n) (length-map (lone_variables b.named.program b.dec) (lone_block b.named.program b.dec all))
