-- The variables and the rows that blocks have.
use Rattle.std.proofs.Common.{◌≡◌, ℕ, suc, ◌+◌, ◌<◌, Bool, true, false, ◌||◌, if◌then◌else◌, List, [], ◌∷◌, ◌++◌, map, filter, take, length, get_or, set, Option, Some, None, All, refl, sym, ap, subst, ◌∙◌, ⊎_elim, inl, inr, arith, zero-add}
use Rattle.std.specs.Prelude.{◌==◌, ◌⊎◌}
use Rattle.std.specs.List.{range_with_len, list_any, zip}
use Rattle.std.specs.List.Sorted.{IsStrictlyIncreasing}
use Rattle.std.proofs.lemmas.Bool.Decides.{eqb_tells}
use Rattle.std.proofs.lemmas.List.{take_more, get_or-set_same, get_or-set_other, get_or-take, length-take-le}
use Rattle.std.proofs.lemmas.List.Folds.{Any-from_list_any}
use Rattle.bp_theory.specs.Program.{Program}
use Rattle.bp_theory.specs.Decomposition.{Decomposition, is_block, is_in, rows_of, row_with_places, HasPlaces}
use Rattle.bp_theory.specs.declared.Row.{Row}
use Rattle.block_program.proofs.StandLemmas.{passing_more, passing_rise, rising}
use Rattle.block_build.specs.Homes.{homes_in, AreHomes}
use Rattle.block_build.specs.Shares.{placed_in}
use Rattle.block_build.proofs.GatherLemmas.{passing_below, any_default}
use Rattle.block_build.proofs.HomeLemmas.{any_more}
use Rattle.block_build.proofs.RangeLemmas.{false_by}

-- ---- a number more in lists

-- at the end of the list of a place's block
pub row_pushed : (old : List (List ℕ)) (place : Option ℕ) (block row k : ℕ) → place ≡ Some block → block < length old
    → get_or (set old block (get_or old block [] ++ row ∷ [])) k [] ≡ (if is_block k place then get_or old k [] ++ row ∷ [] else get_or old k [])
row_pushed old place block row k is there =
    subst (λ (p : Option ℕ). get_or (set old block (get_or old block [] ++ row ∷ [])) k [] ≡ (if is_block k p then get_or old k [] ++ row ∷ [] else get_or old k [])) (sym is)
    (⊎_elim
    (λ same. ap (λ i. get_or (set old i (get_or old i [] ++ row ∷ [])) k []) same.1
    ∙ get_or-set_same old k (get_or old k [] ++ row ∷ []) [] (omega (arith, there, same.1))
    ∙ ap (λ t. if t then get_or old k [] ++ row ∷ [] else get_or old k []) (sym same.0))
    (λ other. get_or-set_other old block k (get_or old block [] ++ row ∷ []) [] (λ e. other.1 (sym e))
    ∙ ap (λ t. if t then get_or old k [] ++ row ∷ [] else get_or old k []) (sym other.0))
    (eqb_tells block k))

-- a number isn't among those before it, where they rise
none_before : (blocks : List ℕ) (i : ℕ) → IsStrictlyIncreasing blocks → i < length blocks → list_any (λ j. j == get_or blocks i 0) (take i blocks) ≡ false
none_before blocks i rise l = false_by (list_any (λ j. j == get_or blocks i 0) (take i blocks)) (λ has.
    let found = Any-from_list_any (λ j. j == get_or blocks i 0) (take i blocks) has in
    let short : length (take i blocks) ≡ i = length-take-le i blocks (omega (arith, l)) in
    let before : found.0 < i = omega (arith, found.2, short) in
    let at : get_or blocks found.0 0 ≡ found.1 = sym (get_or-take i blocks found.0 0 before) ∙ any_default (take i blocks) found.0 0 found.1 found.2 ∙ found.3 in
    let less = rising blocks rise found.0 i before l in
    ⊎_elim
    (λ same. let none : ⊥ = omega (arith, same.1, at, less) in none)
    (λ other. let none : true ≡ false = sym found.4 ∙ other.0 in absurd (cc))
    (eqb_tells found.1 (get_or blocks i 0)))

-- a loop's step: at the end of one list more
pub deal_more : (before now new : List (List ℕ)) (blocks : List ℕ) (i number k : ℕ) → IsStrictlyIncreasing blocks → i < length blocks → get_or blocks i 0 < length now
    → get_or now k [] ≡ (if list_any (λ j. j == k) (take i blocks) then get_or before k [] ++ number ∷ [] else get_or before k [])
    → new ≡ set now (get_or blocks i 0) (get_or now (get_or blocks i 0) [] ++ number ∷ [])
    → get_or new k [] ≡ (if list_any (λ j. j == k) (take (i + 1) blocks) then get_or before k [] ++ number ∷ [] else get_or before k [])
deal_more before now new blocks i number k rise l there had is = ap (λ (lists : List (List ℕ)). get_or lists k []) is ∙ changed (eqb_tells block k)
  where
    block : ℕ
    block = get_or blocks i 0

    chosen : Bool → List ℕ
    chosen t = if t then get_or before k [] ++ number ∷ [] else get_or before k []

    step : list_any (λ j. j == k) (take (i + 1) blocks) ≡ (list_any (λ j. j == k) (take i blocks) || (block == k))
    step = ap (list_any (λ j. j == k)) (take_more blocks i 0 l) ∙ any_more (λ j. j == k) (take i blocks) block

    or_false : (b : Bool) → (b || false) ≡ b
    or_false true = refl
    or_false false = refl

    changed : (((block == k) ≡ true) × (block ≡ k)) ⊎ (((block == k) ≡ false) × (block ≡ k → ⊥))
        → get_or (set now block (get_or now block [] ++ number ∷ [])) k [] ≡ chosen (list_any (λ j. j == k) (take (i + 1) blocks))
    changed (inl same) =
        let none : list_any (λ j. j == k) (take i blocks) ≡ false = ap (λ m. list_any (λ j. j == m) (take i blocks)) (sym same.1) ∙ none_before blocks i rise l in
        ap (λ j. get_or (set now j (get_or now j [] ++ number ∷ [])) k []) same.1
        ∙ get_or-set_same now k (get_or now k [] ++ number ∷ []) [] (omega (arith, there, same.1))
        ∙ ap (λ (list : List ℕ). list ++ number ∷ []) (had ∙ ap chosen none)
        ∙ sym (ap chosen (step ∙ ap (λ t. t || (block == k)) none ∙ same.0))
    changed (inr other) =
        get_or-set_other now block k (get_or now block [] ++ number ∷ []) [] (λ e. other.1 (sym e)) ∙ had
        ∙ sym (ap chosen (step ∙ ap (λ t. list_any (λ j. j == k) (take i blocks) || t) other.0 ∙ or_false (list_any (λ j. j == k) (take i blocks))))

-- a loop's step: a number more of those that pass
pub share_more : (q : ℕ → Bool) (n : ℕ) (b : Bool) (old new : List ℕ) → b ≡ q n → old ≡ filter q (range_with_len 0 n)
    → new ≡ (if b then old ++ n ∷ [] else old) → new ≡ filter q (range_with_len 0 (n + 1))
share_more q n b old new is was now = now ∙ ap (λ (list : List ℕ). if b then list ++ n ∷ [] else list) was ∙ passing_more q n b is

-- ---- homes are dealt to

home_at : (p : Program) (d : Decomposition) (homes : List (List ℕ)) (v : ℕ) (own : List ℕ) → AreHomes p d homes → v < length homes → get_or homes v own ≡ homes_in p d v
home_at p d homes v own h l = any_default homes v own [] l ∙ h.1 v (omega (arith, l, h.0))

pub homes_there : (p : Program) (d : Decomposition) (homes : List (List ℕ)) → AreHomes p d homes → All (All (λ k. k < d.blocks)) homes
homes_there p d homes h = λ v own l. subst (All (λ k. k < d.blocks)) (sym (home_at p d homes v own h l)) (passing_below (is_in p d v) d.blocks)

pub homes_once : (p : Program) (d : Decomposition) (homes : List (List ℕ)) → AreHomes p d homes → All IsStrictlyIncreasing homes
homes_once p d homes h = λ v own l. subst IsStrictlyIncreasing (sym (home_at p d homes v own h l)) (passing_rise (is_in p d v) d.blocks)

-- ---- the rows of a block

-- the rows that are read by number are those that are placed in the block
rows_read : (k : ℕ) (made : Row → Row) (at : ℕ → Row) (place : ℕ → Option ℕ) (d : Row) (a : ℕ) (rows : List Row) (places : List (Option ℕ)) → length places ≡ length rows
    → ((i : ℕ) → i < length rows → at (a + i) ≡ get_or rows i d) → ((i : ℕ) → i < length places → place (a + i) ≡ get_or places i None)
    → map (λ i. made (at i)) (filter (λ i. is_block k (place i)) (range_with_len a (length places)))
    ≡ map made (map (λ (e : Row × Option ℕ). e.0) (filter (λ (e : Row × Option ℕ). is_block k e.1) (zip rows places)))
rows_read k made at place d a [] [] each reads placed = refl
rows_read k made at place d a [] (p ∷ places) each reads placed = absurd (let none : ⊥ = omega (arith, each) in none)
rows_read k made at place d a (row ∷ rows) [] each reads placed = refl
rows_read k made at place d a (row ∷ rows) (p ∷ places) each reads placed =
    ap (λ t. map (λ i. made (at i)) (if t then a ∷ behind else behind)) (ap (is_block k) first_place)
    ∙ by (is_block k p)
    (rows_read k made at place d (a + 1) rows places (omega (arith, each))
    (λ i l. ap at (later i) ∙ reads (suc i) (omega (arith, l)))
    (λ i l. ap place (later i) ∙ placed (suc i) (omega (arith, l))))
  where
    behind : List ℕ
    behind = filter (λ i. is_block k (place i)) (range_with_len (a + 1) (length places))

    es : List (Row × Option ℕ)
    es = filter (λ (e : Row × Option ℕ). is_block k e.1) (zip rows places)

    first_place : place a ≡ p
    first_place = ap place (let e : a ≡ a + 0 = omega arith in e) ∙ placed 0 (omega arith)

    first : at a ≡ row
    first = ap at (let e : a ≡ a + 0 = omega arith in e) ∙ reads 0 (omega arith)

    later : (i : ℕ) → (a + 1) + i ≡ a + suc i
    later i = omega arith

    by : (t : Bool) → map (λ i. made (at i)) behind ≡ map made (map (λ (e : Row × Option ℕ). e.0) es)
        → map (λ i. made (at i)) (if t then a ∷ behind else behind)
        ≡ map made (map (λ (e : Row × Option ℕ). e.0) (if t then (row, p) ∷ es else es))
    by true rest = ap (λ r. made r ∷ map (λ i. made (at i)) behind) first ∙ ap (λ rs. made row ∷ rs) rest
    by false rest = rest

pub rows_placed : (p : Program) (d : Decomposition) (k : ℕ) (vars : List ℕ) (row : Row) → HasPlaces p d
    → map (λ i. row_with_places vars (get_or p.rows i row)) (placed_in k d.places) ≡ map (row_with_places vars) (rows_of p d k)
rows_placed p d k vars row places =
    rows_read k (row_with_places vars) (λ i. get_or p.rows i row) (λ i. get_or d.places i None) row 0 p.rows d.places places.each
    (λ i l. ap (λ n. get_or p.rows n row) (zero-add i)) (λ i l. ap (λ n. get_or d.places n None) (zero-add i))

pub rows_there : (p : Program) (d : Decomposition) (k : ℕ) → HasPlaces p d → All (λ i. i < length p.rows) (placed_in k d.places)
rows_there p d k places =
    subst (λ n. All (λ i. i < n) (placed_in k d.places)) places.each (passing_below (λ row. is_block k (get_or d.places row None)) (length d.places))

-- ---- the list of a block

pub share_at : (f : ℕ → List ℕ) (blocks k : ℕ) (lists : List (List ℕ)) (own d : List ℕ) → length lists ≡ blocks → k < blocks
    → ((j : ℕ) → j < blocks → get_or lists j [] ≡ f j) → own ≡ get_or lists k d → own ≡ f k
share_at f blocks k lists own d each l are is = is ∙ any_default lists k d [] (omega (arith, each, l)) ∙ are k l
