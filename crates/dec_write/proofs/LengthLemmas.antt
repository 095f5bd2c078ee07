-- The text of a decomposition is no longer than a text may be.
use Rattle.std.proofs.Common.{◌≡◌, ◌⊎◌, ℕ, zero, suc, ◌+◌, ◌*◌, ◌<◌, ◌≤◌, ◌^◌, ◌==◌, Bool, true, false, if◌then◌else◌, List, [], ◌∷◌, ◌++◌, length, get_or, map, filter, Option, Some, None, refl, sym, ap, subst, ◌∙◌, ⊎_elim, inl, inr, arith, length-append}
use Rattle.std.specs.Prelude.{codes, decimal, All}
use Rattle.std.specs.List.{AllByRecursion, range_with_len, zip, flat_map}
use Rattle.std.proofs.lemmas.Bool.{cases_lt}
use Rattle.std.proofs.lemmas.Bool.Decides.{eqb_tells}
use Rattle.std.proofs.lemmas.Fmt.{length-decimal-le}
use Rattle.bp_theory.specs.Decomposition.{Decomposition, HasPlaces, is_block}
use Rattle.bp_theory.specs.Limits.{most_blocks, most_bytes, most_lines, most_rows}
use Rattle.bp_theory.specs.declared.Limits.{Limits}
use Rattle.bp_theory.specs.declared.Limits.TheVariants.{Usual, Large}
use Rattle.bp_theory.proofs.LimitLaws.{few_blocks}
use Rattle.bp_model.specs.Named.{NamedProgram, IsKept}
use Rattle.dec_write.specs.Text.{IsRowName, Line, same_place, names_among, names_of, spaced, block_line, master_line, lines_of, line_bytes, text_of}
use Rattle.dec_write.proofs.TextLemmas.{names_by, names_step}

-- the sum of what f gives
abbrev total : {X : Type 0} → (X → ℕ) → List X → ℕ
total f [] = 0
total f (x ∷ xs) = f x + total f xs

-- how many bytes names take with the spaces before them
abbrev size : List (List ℕ) → ℕ
size names = length (spaced names)

-- the bytes that a row's name takes in any line
abbrev row_size : List (List ℕ × Option ℕ) → ℕ
row_size rows = total (λ (x : List ℕ × Option ℕ). suc (length x.0)) rows

size_by : (b : Bool) (name : List ℕ) (names : List (List ℕ)) → size (names_by b name names) ≡ (if b then suc (length name) else 0) + size names
size_by true name names = let l = length-append (32 ∷ name) (spaced names) in omega (arith, l)
size_by false name names = omega arith

size_step : (place : Option ℕ) (x : List ℕ × Option ℕ) (rows : List (List ℕ × Option ℕ)) → size (names_among place (x ∷ rows)) ≡ (if same_place place x.1 then suc (length x.0) else 0) + size (names_among place rows)
size_step place x rows = ap size (names_step place x rows) ∙ size_by (same_place place x.1) x.0 (names_among place rows)

-- the bytes that the names of blocks take
abbrev blocks_size : (a len : ℕ) → List (List ℕ × Option ℕ) → ℕ
blocks_size a len rows = total (λ (k : ℕ). size (names_among (Some k) rows)) (range_with_len a len)

blocks_step : (a len : ℕ) (rows : List (List ℕ × Option ℕ)) → blocks_size a (suc len) rows ≡ size (names_among (Some a) rows) + blocks_size (a + 1) len rows
blocks_step a len rows = refl

-- a row of the master adds nothing to blocks
master_adds : (a len : ℕ) (name : List ℕ) (rows : List (List ℕ × Option ℕ)) → blocks_size a len ((name, None) ∷ rows) ≡ blocks_size a len rows
master_adds a zero name rows = refl
master_adds a (suc len) name rows =
    let here : size (names_among (Some a) ((name, None) ∷ rows)) ≡ 0 + size (names_among (Some a) rows) = size_step (Some a) (name, None) rows in
    let rest = master_adds (a + 1) len name rows in
    omega (arith, here, rest, blocks_step a len ((name, None) ∷ rows), blocks_step a len rows)

-- nor does a row of an earlier block
earlier_adds : (a len j : ℕ) (name : List ℕ) (rows : List (List ℕ × Option ℕ)) → j < a → blocks_size a len ((name, Some j) ∷ rows) ≡ blocks_size a len rows
earlier_adds a zero j name rows l = refl
earlier_adds a (suc len) j name rows l =
    let other : (j == a) ≡ false = ⊎_elim (λ same. absurd (omega (arith, same.1, l))) (λ other. other.0) (eqb_tells j a) in
    let here : size (names_among (Some a) ((name, Some j) ∷ rows)) ≡ 0 + size (names_among (Some a) rows) =
    size_step (Some a) (name, Some j) rows ∙ ap (λ (b : Bool). (if b then suc (length name) else 0) + size (names_among (Some a) rows)) other in
    let rest = earlier_adds (a + 1) len j name rows (omega (arith, l)) in
    omega (arith, here, rest, blocks_step a len ((name, Some j) ∷ rows), blocks_step a len rows)

-- a row of a block adds to one block at most
block_adds : (a len j : ℕ) (name : List ℕ) (rows : List (List ℕ × Option ℕ)) → blocks_size a len ((name, Some j) ∷ rows) ≤ suc (length name) + blocks_size a len rows
block_adds a zero j name rows = omega arith
block_adds a (suc len) j name rows = ⊎_elim
    (λ same.
    let here : size (names_among (Some a) ((name, Some j) ∷ rows)) ≡ suc (length name) + size (names_among (Some a) rows) =
    size_step (Some a) (name, Some j) rows ∙ ap (λ (b : Bool). (if b then suc (length name) else 0) + size (names_among (Some a) rows)) same.0 in
    let rest = earlier_adds (a + 1) len j name rows (omega (arith, same.1)) in
    omega (arith, here, rest, blocks_step a len ((name, Some j) ∷ rows), blocks_step a len rows))
    (λ other.
    let here : size (names_among (Some a) ((name, Some j) ∷ rows)) ≡ 0 + size (names_among (Some a) rows) =
    size_step (Some a) (name, Some j) rows ∙ ap (λ (b : Bool). (if b then suc (length name) else 0) + size (names_among (Some a) rows)) other.0 in
    let rest = block_adds (a + 1) len j name rows in
    omega (arith, here, rest, blocks_step a len ((name, Some j) ∷ rows), blocks_step a len rows))
    (eqb_tells j a)

-- all names together
names_size : (a len : ℕ) (rows : List (List ℕ × Option ℕ)) → blocks_size a len rows + size (names_among None rows) ≤ row_size rows
names_size a len [] = omega (arith, nothing a len)
  where
    nothing : (a len : ℕ) → blocks_size a len [] ≡ 0
    nothing a zero = refl
    nothing a (suc len) = omega (arith, nothing (a + 1) len)
names_size a len ((label, at) ∷ rows) = by at label (names_size a len rows)
  where
    by : (place : Option ℕ) (name : List ℕ) → blocks_size a len rows + size (names_among None rows) ≤ row_size rows
        → blocks_size a len ((name, place) ∷ rows) + size (names_among None ((name, place) ∷ rows)) ≤ suc (length name) + row_size rows
    by None name rest =
        let here : size (names_among None ((name, None) ∷ rows)) ≡ suc (length name) + size (names_among None rows) = size_step None (name, None) rows in
        omega (arith, master_adds a len name rows, here, rest)
    by (Some j) name rest =
        let here : size (names_among None ((name, Some j) ∷ rows)) ≡ 0 + size (names_among None rows) = size_step None (name, Some j) rows in
        omega (arith, block_adds a len j name rows, here, rest)

rows_small : (names : List (List ℕ)) (places : List (Option ℕ)) → ((i : ℕ) → i < length names → length (get_or names i []) ≤ 255) → row_size (zip names places) ≤ 256 * length names
rows_small [] places h = omega arith
rows_small (n ∷ names) [] h = omega arith
rows_small (n ∷ names) (p ∷ places) h =
    let here : length n ≤ 255 = h 0 (omega arith) in
    let rest = rows_small names places (λ i l. h (suc i) (omega (arith, l))) in
    let step : row_size (zip (n ∷ names) (p ∷ places)) ≡ suc (length n) + row_size (zip names places) = refl in
    omega (arith, here, rest, step)

line_size : (line : Line) → length (line_bytes line) ≡ length line.first + size line.words + 1
line_size line = let a = length-append (line.first ++ spaced line.words) (10 ∷ []) in let b = length-append line.first (spaced line.words) in omega (arith, a, b)

number_size : (n : ℕ) → n < 10 ^ 6 → length (decimal n) ≤ 6
number_size n l = let small : n < 2 ^ 64 = omega (arith, l) in let some : 0 < 6 = omega arith in length-decimal-le 6 n some l small

block_size : (m : NamedProgram) (d : Decomposition) (a : ℕ) → a < most_blocks Large → length (line_bytes (block_line m d a)) ≤ 13 + size (names_of m d (Some a))
block_size m d a l =
    let low : a + 1 < 10 ^ 6 = omega (arith, l) in
    let line = line_size (block_line m d a) in
    let words = length-append (32 ∷ decimal (a + 1)) (spaced (names_of m d (Some a))) in
    let number = number_size (a + 1) low in
    omega (arith, line, words, number)

lines_size : (m : NamedProgram) (d : Decomposition) (len a : ℕ) → a + len ≤ most_blocks Large
    → length (flat_map line_bytes (map (block_line m d) (range_with_len a len) ++ (master_line m d ∷ [])))
    ≤ 13 * len + blocks_size a len (zip m.row_names d.places) + (12 + size (names_of m d None))
lines_size m d zero a few =
    let all = length-append (line_bytes (master_line m d)) [] in
    let line = line_size (master_line m d) in
    omega (arith, all, line)
lines_size m d (suc len) a few =
    let all : length (flat_map line_bytes (map (block_line m d) (range_with_len a (suc len)) ++ (master_line m d ∷ [])))
    ≡ length (line_bytes (block_line m d a)) + length (flat_map line_bytes (map (block_line m d) (range_with_len (a + 1) len) ++ (master_line m d ∷ []))) =
    length-append (line_bytes (block_line m d a)) (flat_map line_bytes (map (block_line m d) (range_with_len (a + 1) len) ++ (master_line m d ∷ []))) in
    let line = block_size m d a (omega (arith, few)) in
    let rest = lines_size m d len (a + 1) (omega (arith, few)) in
    omega (arith, all, line, rest, blocks_step a len (zip m.row_names d.places))

-- so many lines of so many rows together are within the limits
within : (limits : Limits) (blocks rows bytes : ℕ) → blocks ≤ most_blocks limits → rows ≤ most_lines limits → rows ≤ most_rows Large → bytes ≤ 13 * blocks + 256 * rows + 64 → bytes ≤ most_bytes limits
within Usual blocks rows bytes a b c few = omega (arith, a, b, few)
within Large blocks rows bytes a b c few = omega (arith, a, c, few)

pub text_short : (m : NamedProgram) (d : Decomposition) → IsKept m → All IsRowName m.row_names → d.blocks ≤ most_blocks m.program.limits → length (text_of m d) ≤ most_bytes m.program.limits
unfolding text_of
text_short m d kept names few =
    let large : d.blocks ≤ most_blocks Large = omega (arith, few, few_blocks m.program.limits) in
    let low : d.blocks < 10 ^ 6 = omega (arith, large) in
    let first : Line = record { first = codes "NBLOCKS"; words = decimal d.blocks ∷ [] } in
    let rest = flat_map line_bytes (map (block_line m d) (range_with_len 0 d.blocks) ++ (master_line m d ∷ [])) in
    let all = length-append (line_bytes (record { first = codes "NBLOCKS"; words = decimal d.blocks ∷ [] })) (flat_map line_bytes (map (block_line m d) (range_with_len 0 d.blocks) ++ (master_line m d ∷ []))) in
    let line = line_size (record { first = codes "NBLOCKS"; words = decimal d.blocks ∷ [] }) in
    let words = length-append (32 ∷ decimal d.blocks) [] in
    let number = number_size d.blocks low in
    let lines = lines_size m d d.blocks 0 (omega (arith, large)) in
    let sizes = names_size 0 d.blocks (zip m.row_names d.places) in
    let rows = rows_small m.row_names d.places (λ i l. (names i [] l).short) in
    within m.program.limits d.blocks (length m.program.rows) (length (text_of m d)) few kept.lines kept.rows
    (omega (arith, all, line, words, number, lines, sizes, rows, kept.row_named))
