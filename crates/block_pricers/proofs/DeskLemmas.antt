-- Lists of desks and of the seats at them, place by place.
use Rattle.std.proofs.Common.{◌≡◌, refl, sym, ap, subst, ◌∙◌, ℕ, ◌+◌, ◌<◌, ◌≤◌, List, [], ◌∷◌, ◌++◌, map, take, length, get_or, arith}
use Rattle.std.proofs.lemmas.List.{get_or-map, length-map, map-append, take_more}
use Rattle.std.specs.Prelude.{◌↔◌, All, IsTrue}
use Rattle.bp_theory.specs.Blocking.{Block}
use Rattle.block_pricers.specs.Desks.{form_of}
use Rattle.block_pricers.specs.declared.desk.Desk.{Desk}
use Rattle.bp_theory.specs.Bound.{spans_of}
use Rattle.block_program.specs.Blocked.{BlockedProgram}
use Rattle.block_pricers.specs.Forms.{BlockForm, no_form, form_at, form_with, forms_in}
use Rattle.knapsack_table.specs.Taken.{IsTaken}
use Rattle.search_laws.specs.Spread.{block_at}
use Rattle.block_pricers.specs.Pricers.{IsEnough, AreEnough, IsFitting, is_table, rows_of as pricer_rows, spans_of as pricer_spans}
use Rattle.block_pricers.specs.declared.pricers.BlockPricer.{BlockPricer}
use Rattle.block_pricers.specs.declared.pricers.BlockPricer.TheVariants.{Table, States, Search}
use Rattle.block_pricers.proofs.FormLemmas.{all_more}

-- one desk more
pub one_desk_more : (forms : List BlockForm) (blocks : List ℕ) (n : ℕ) (desks all : List Desk) (desk : Desk) → n < length blocks → all ≡ desks ++ desk ∷ []
    → form_of desk ≡ form_at forms (get_or blocks n 0) → map form_of desks ≡ map (form_at forms) (take n blocks)
    → map form_of all ≡ map (form_at forms) (take (n + 1) blocks)
one_desk_more forms blocks n desks all desk l e form had =
    ap (λ (ds : List Desk). map form_of ds) e
    ∙ map-append form_of desks (desk ∷ [])
    ∙ ap (λ (fs : List BlockForm). fs ++ form_of desk ∷ []) had
    ∙ ap (λ (f : BlockForm). map (form_at forms) (take n blocks) ++ f ∷ []) form
    ∙ sym (map-append (form_at forms) (take n blocks) (get_or blocks n 0 ∷ []))
    ∙ ap (λ (ks : List ℕ). map (form_at forms) ks) (sym (take_more blocks n 0 l))

-- one desk more, and as many cells as it takes
pub enough_more : (most now own : ℕ) (desks all : List Desk) (desk : Desk) → all ≡ desks ++ desk ∷ [] → most ≤ now → own ≤ now
    → AreEnough most (map form_of desks) → IsEnough own (form_of desk).rows (form_of desk).spans → AreEnough now (map form_of all)
enough_more most now own desks all desk e l m had more =
    subst (AreEnough now) (sym (ap (λ (ds : List Desk). map form_of ds) e ∙ map-append form_of desks (desk ∷ [])))
    (all_more (λ (f : BlockForm). IsEnough now f.rows f.spans) (map form_of desks) (form_of desk)
    (λ k d h taken. omega (arith, had k d h taken, l))
    (λ taken. omega (arith, more taken, m)))

-- the cells are enough for each desk
pub enough_at : (cells : ℕ) (desks : List Desk) (k : ℕ) (desk : Desk) → k < length desks → desk ≡ get_or desks k desk
    → AreEnough cells (map form_of desks) → IsEnough cells (form_of desk).rows (form_of desk).spans
enough_at cells desks k desk l is enough =
    let same : form_of desk ≡ get_or (map form_of desks) k no_form =
    ap form_of is ∙ sym (get_or-map form_of desks k desk no_form l) in
    subst (λ (f : BlockForm). IsEnough cells f.rows f.spans) (sym same) (enough k no_form (omega (arith, l, length-map desks form_of)))

-- each block has a seat
pub seats_many : (b : BlockedProgram) (desks : List Desk) (seats : List ℕ) → map (form_at (map form_of desks)) seats ≡ forms_in b
    → length seats ≡ length b.blocking.blocks
seats_many b desks seats e =
    let many : length (map (form_at (map form_of desks)) seats) ≡ length (forms_in b) = ap (λ (fs : List BlockForm). length fs) e in
    omega (arith, many, length-map seats (form_at (map form_of desks)), length-map b.blocking.blocks (form_with b.named.program.spans))

-- the form of a block's desk is that of the block
pub seat_form : (desks : List Desk) (seats : List ℕ) (k : ℕ) → k < length seats
    → form_at (map form_of desks) (get_or seats k 0) ≡ form_at (map (form_at (map form_of desks)) seats) k
seat_form desks seats k l = sym (get_or-map (form_at (map form_of desks)) seats k 0 no_form l)

table_where_taken : (pricer : BlockPricer) → IsFitting pricer → IsTrue (is_table pricer) ↔ IsTaken (pricer_rows pricer) (pricer_spans pricer)
table_where_taken (Table plan) taken = (λ _. taken, λ _. refl)
table_where_taken (States states) other = (λ same. absurd (cc), λ taken. absurd (other taken))
table_where_taken (Search search') other = (λ same. absurd (cc), λ taken. absurd (other taken))

pub tables_where_taken : (b : BlockedProgram) (desks : List Desk) (seats : List ℕ) → map (form_at (map form_of desks)) seats ≡ forms_in b
    → All (λ seat. seat < length desks) seats → All (λ (desk : Desk). IsFitting desk.pricer) desks
    → (k : ℕ) (desk : Desk) → k < length b.blocking.blocks
    → IsTrue (is_table (get_or desks (get_or seats k 0) desk).pricer) ↔ IsTaken (block_at b.blocking k).rows (spans_of b.named.program.spans (block_at b.blocking k))
tables_where_taken b desks seats e seated fitting k desk l =
    let many : length seats ≡ length b.blocking.blocks = seats_many b desks seats e in
    let own : k < length seats = omega (arith, l, many) in
    let there : get_or seats k 0 < length desks = seated k 0 own in
    let none : Block = record { copies = []; rows = [] } in
    let form : form_of (get_or desks (get_or seats k 0) desk) ≡ form_with b.named.program.spans (block_at b.blocking k) =
    sym (get_or-map form_of desks (get_or seats k 0) desk no_form there)
    ∙ sym (get_or-map (form_at (map form_of desks)) seats k 0 no_form own)
    ∙ ap (λ (fs : List BlockForm). get_or fs k no_form) e
    ∙ get_or-map (form_with b.named.program.spans) b.blocking.blocks k none no_form l in
    subst (λ (f : BlockForm). IsTrue (is_table (get_or desks (get_or seats k 0) desk).pricer) ↔ IsTaken f.rows f.spans) form
    (table_where_taken (get_or desks (get_or seats k 0) desk).pricer (fitting (get_or seats k 0) desk there))
