-- The rows and the variables of blocks, and their lines.
use Rattle.std.proofs.Common.{◌≡◌, ℕ, ◌+◌, ◌<◌, ◌≤◌, if◌then◌else◌, filter, map, length, take, get_or, set, Option, None, Some, List, [], ◌∷◌, ◌++◌, All, refl, sym, ap, subst, ◌∙◌, ⊎_elim, arith, append_assoc, length-append}
use Rattle.std.specs.Prelude.{codes, decimal, slice_get}
use Rattle.std.specs.List.{range_with_len}
use Rattle.std.proofs.lemmas.Bool.Decides.{eqb_tells}
use Rattle.std.proofs.lemmas.List.{take_all, take_more, map-append, flat_map_more, get_or-set_same, get_or-set_other}
use Rattle.std.proofs.lemmas.List.Elements.{All-map}
use Rattle.std.proofs.lemmas.List.FromFn.{fill_by_all, length-map-range_with_len, get_or-map-range_with_len}
use Rattle.std.proofs.lemmas.Option.{get_or_from_slice_get}
use Rattle.bp_theory.specs.Blocking.{Copy, Block, Blocking}
use Rattle.bp_theory.specs.Decomposition.{IsPlace, is_block, proof_rows, block_of, lone_block, lone_variables}
use Rattle.bp_theory.specs.Cuts.{cut_rows}
use Rattle.bp_theory.proofs.CutProof.{cuts_are_met_lem}
use Rattle.bp_theory.proofs.DecompositionProof.{decomposition_lem}
use Rattle.bp_model.specs.Named.{NamedProgram}
use Rattle.block_program.specs.Blocked.{BlockedProgram, IsFormed}
use Rattle.block_build.proofs.GatherLemmas.{passing_below}
use Rattle.block_program.proofs.StandLemmas.{passing_more}
use Rattle.dec_write.specs.Text.{spaced}
use Rattle.search_laws.specs.Spread.{block_at}
use Rattle.report_lines.specs.Blocks.{rows_of_block, name_of, counted_names, shown_block}

-- ---- rows

-- the rows in a block among the first ones
abbrev pub rows_below : List (Option ℕ) → ℕ → ℕ → List ℕ
rows_below places n k = filter (λ row. is_block k (get_or places row None)) (range_with_len 0 n)

-- a row more at the end of its block
pub row_pushed : (old : List (List ℕ)) (place : Option ℕ) (block row k : ℕ) → place ≡ Some block → block < length old
    → get_or (set old block (get_or old block [] ++ row ∷ [])) k [] ≡ (if is_block k place then get_or old k [] ++ row ∷ [] else get_or old k [])
row_pushed old place block row k is there =
    subst (λ (p : Option ℕ). get_or (set old block (get_or old block [] ++ row ∷ [])) k [] ≡ (if is_block k p then get_or old k [] ++ row ∷ [] else get_or old k [])) (sym is)
    (⊎_elim
    (λ same. ap (λ i. get_or (set old i (get_or old i [] ++ row ∷ [])) k []) same.1
    ∙ get_or-set_same old k (get_or old k [] ++ row ∷ []) [] (omega (arith, there, same.1))
    ∙ ap (λ t. if t then get_or old k [] ++ row ∷ [] else get_or old k []) (sym same.0))
    (λ other. get_or-set_other old block k (get_or old block [] ++ row ∷ []) [] (λ e. other.1 (sym e))
    ∙ ap (λ t. if t then get_or old k [] ++ row ∷ [] else get_or old k []) (sym other.0))
    (eqb_tells block k))

-- a block's rows among those of one row more
pub rows_more : (places : List (Option ℕ)) (n k : ℕ) (place : Option ℕ) (old new : List ℕ) → place ≡ get_or places n None → old ≡ rows_below places n k
    → new ≡ (if is_block k place then old ++ n ∷ [] else old) → new ≡ rows_below places (n + 1) k
rows_more places n k place old new place_is old_is new_is =
    new_is ∙ ap (λ (rows : List ℕ). if is_block k place then rows ++ n ∷ [] else rows) old_is
    ∙ passing_more (λ row. is_block k (get_or places row None)) n (is_block k place) (ap (is_block k) place_is)

-- the rows of all blocks
pub rows_all : (places : List (Option ℕ)) (blocks : ℕ) (all : List (List ℕ)) → length all ≡ blocks
    → ((k : ℕ) → k < blocks → get_or all k [] ≡ rows_below places (length places) k) → all ≡ map (rows_of_block places) (range_with_len 0 blocks)
rows_all places blocks all each h = fill_by_all (rows_of_block places) all blocks [] each h

pub rows_count : (places : List (Option ℕ)) (blocks : ℕ) (all : List (List ℕ)) → all ≡ map (rows_of_block places) (range_with_len 0 blocks) → length all ≡ blocks
rows_count places blocks all are = ap length are ∙ length-map-range_with_len (rows_of_block places) 0 blocks

-- a block's rows at its place
pub rows_at : (places : List (Option ℕ)) (blocks block : ℕ) (all : List (List ℕ)) (rows d : List ℕ) → all ≡ map (rows_of_block places) (range_with_len 0 blocks)
    → block < blocks → rows ≡ get_or all block d → rows ≡ rows_of_block places block
rows_at places blocks block all rows d are there is =
    is ∙ ap (λ (rs : List (List ℕ)). get_or rs block d) are ∙ get_or-map-range_with_len (rows_of_block places) 0 blocks block block d there (omega arith)

-- a block's rows are there
pub rows_known : (places : List (Option ℕ)) (rows : List ℕ) (block n : ℕ) → length places ≡ n → rows ≡ rows_of_block places block → All (λ row. row < n) rows
rows_known places rows block n each is =
    subst (λ (rs : List ℕ). All (λ row. row < n) rs) (sym is)
    (subst (λ (m : ℕ). All (λ row. row < m) (rows_of_block places block)) each (passing_below (λ row. is_block block (get_or places row None)) (length places)))

-- there are no fewer blocks than the decomposition has
blocks_there : (b : BlockedProgram) → IsFormed b → b.dec.blocks ≤ length b.blocking.blocks
blocks_there b formed =
    let p = b.named.program in
    let d = b.dec in
    let rows = proof_rows p d (cut_rows p d [] b.cuts) in
    let own : List Block = map (block_of p d rows) (range_with_len 0 d.blocks) in
    let lone : List Block = map (lone_block p d rows) (lone_variables p d) in
    let all : length b.blocking.blocks ≡ length own + length lone = ap (λ (bl : Blocking). length bl.blocks) formed.blocking ∙ length-append own lone in
    let count : length own ≡ d.blocks = length-map-range_with_len (block_of p d rows) 0 d.blocks in
    omega (arith, all, count)

wider : (n m : ℕ) (place : Option ℕ) → n ≤ m → IsPlace n place → IsPlace m place
wider n m None more h = tt
wider n m (Some k) more h = omega (arith, more, h)

-- the rows' places are among all blocks
pub all_places : (b : BlockedProgram) → IsFormed b → All (IsPlace (length b.blocking.blocks)) b.dec.places
all_places b formed = λ k d l. wider b.dec.blocks (length b.blocking.blocks) (get_or b.dec.places k d) (blocks_there b formed) (formed.places.known k d l)

-- ---- variables

-- a block's variables are there
pub vars_known : (b : BlockedProgram) (block : Block) (n : ℕ) (vars : List ℕ) → IsFormed b → n < length b.blocking.blocks → block ≡ get_or b.blocking.blocks n block
    → vars ≡ map (λ (c : Copy). c.var) block.copies → All (λ var. var < length b.named.program.spans) vars
vars_known b block n vars formed there is vars_are =
    let known = subst (λ (bl : Blocking). All (λ (e : Block). All (λ (c : Copy). c.var < length b.named.program.spans) e.copies) bl.blocks) (sym formed.blocking)
    (decomposition_lem.adds_up b.named.program b.dec (cut_rows b.named.program b.dec [] b.cuts) formed.kept.closed (cuts_are_met_lem.closed b.named.program b.dec b.cuts)).known in
    subst (λ (vs : List ℕ). All (λ var. var < length b.named.program.spans) vs) (sym vars_are)
    (All-map (λ var. var < length b.named.program.spans) (λ (c : Copy). c.var) block.copies
    (subst (λ (e : Block). All (λ (c : Copy). c.var < length b.named.program.spans) e.copies) (sym is) (known n block there)))

-- ---- names

-- the names so far, and one more
pub names_more : (names : List (List ℕ)) (numbers : List ℕ) (i : ℕ) (start text longer name : List ℕ) → i < length numbers
    → text ≡ start ++ spaced (map (name_of names) (take i numbers)) → longer ≡ text ++ 32 ∷ name → slice_get names (get_or numbers i 0) ≡ Some name
    → longer ≡ start ++ spaced (map (name_of names) (take (i + 1) numbers))
names_more names numbers i start text longer name there was more is =
    let named : get_or names (get_or numbers i 0) [] ≡ name = get_or_from_slice_get names (get_or numbers i 0) name [] is in
    more ∙ ap (λ (xs : List ℕ). xs ++ 32 ∷ name) was
    ∙ ap (λ (n : List ℕ). (start ++ spaced (map (name_of names) (take i numbers))) ++ 32 ∷ n) (sym named)
    ∙ flat_map_more (λ (n : List ℕ). 32 ∷ n) start (map (name_of names) (take i numbers)) (name_of names (get_or numbers i 0))
    ∙ ap (λ (ns : List (List ℕ)). start ++ spaced ns)
    (sym (ap (map (name_of names)) (take_more numbers i 0 there) ∙ map-append (name_of names) (take i numbers) (get_or numbers i 0 ∷ [])))

behind : (old word number rest mid : List ℕ) → mid ≡ old ++ word ++ number → mid ++ rest ≡ old ++ (word ++ number ++ rest)
behind old word number rest mid is = rw is (simp append_assoc)

-- all names behind their number
pub names_all : (names : List (List ℕ)) (numbers : List ℕ) (i : ℕ) (old mid text word : List ℕ) → length numbers ≤ i
    → mid ≡ old ++ word ++ decimal (length numbers) → text ≡ mid ++ spaced (map (name_of names) (take i numbers)) → text ≡ old ++ counted_names word names numbers
names_all names numbers i old mid text word all mid_is was =
    let rest : List ℕ = spaced (map (name_of names) numbers) in
    was ∙ ap (λ (xs : List ℕ). mid ++ spaced (map (name_of names) xs)) (take_all i numbers all) ∙ behind old word (decimal (length numbers)) rest mid mid_is

-- the parts of a block's line
parts : (old word number rows vars end x y z : List ℕ) → x ≡ old ++ word ++ number → y ≡ x ++ rows → z ≡ y ++ vars → z ++ end ≡ old ++ (word ++ number ++ rows ++ vars ++ end)
parts old word number rows vars end x y z first second third = rw (third, second, first) (simp append_assoc)

pub line_of_parts : (b : BlockedProgram) (block : ℕ) (m n : NamedProgram) (rows vars old x y z : List ℕ) → m ≡ b.named → n ≡ b.named
    → rows ≡ rows_of_block b.dec.places block → vars ≡ map (λ (c : Copy). c.var) (block_at b.blocking block).copies
    → x ≡ old ++ codes "block " ++ decimal (block + 1) → y ≡ x ++ counted_names (codes " rows ") m.row_names rows
    → z ≡ y ++ counted_names (codes " variables ") n.names vars → z ++ codes "\n" ≡ old ++ shown_block b block
line_of_parts b block m n rows vars old x y z m_is n_is rows_are vars_are first second third =
    parts old (codes "block ") (decimal (block + 1)) (counted_names (codes " rows ") b.named.row_names (rows_of_block b.dec.places block))
    (counted_names (codes " variables ") b.named.names (map (λ (c : Copy). c.var) (block_at b.blocking block).copies)) (codes "\n") x y z first
    (second ∙ ap (λ (k : NamedProgram). x ++ counted_names (codes " rows ") k.row_names rows) m_is
    ∙ ap (λ (rs : List ℕ). x ++ counted_names (codes " rows ") b.named.row_names rs) rows_are)
    (third ∙ ap (λ (k : NamedProgram). y ++ counted_names (codes " variables ") k.names vars) n_is
    ∙ ap (λ (vs : List ℕ). y ++ counted_names (codes " variables ") b.named.names vs) vars_are)
