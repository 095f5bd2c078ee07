-- The desks of all blocks, and what is kept for each block.
use Rattle.std.proofs.Common.{◌≡◌, sym, ap, subst, ◌∙◌, ℕ, ◌<◌, List, [], map, length, get_or, All, arith}
use Rattle.std.proofs.lemmas.List.{get_or_default, get_or-map, length-map}
use Rattle.block_pricers.specs.Forms.{BlockForm, form_at, span_count, forms_in}
use Rattle.block_pricers.specs.Desks.{form_of, priced_point}
use Rattle.block_pricers.specs.Told.{room_of, told_point}
use Rattle.block_pricers.specs.declared.desk.Desk.{Desk}
use Rattle.block_pricers.specs.Seats.{AreSeated}
use Rattle.block_program.specs.Blocked.{BlockedProgram}
use Rattle.block_pricers.specs.Works.{forms_of}
use Rattle.block_pricers.specs.declared.work.Work.{Work}
use Rattle.block_pricers.proofs.SeatLemmas.{seated_forms, seats_there}
use Rattle.block_pricers.proofs.DeskLemmas.{seats_many}

-- the forms of the desks that blocks sit at
pub made_forms : (forms : List BlockForm) (k : ℕ) (seats firsts : List ℕ) (desks : List Desk) → k ≡ length forms → AreSeated forms k seats firsts
    → map form_of desks ≡ map (form_at forms) firsts → map (form_at (map form_of desks)) seats ≡ forms
made_forms forms k seats firsts desks e had made =
    ap (λ (fs : List BlockForm). map (form_at fs) seats) made ∙ seated_forms forms k seats firsts e had

pub made_there : (forms : List BlockForm) (k : ℕ) (seats firsts : List ℕ) (desks : List Desk) (count : ℕ) → AreSeated forms k seats firsts
    → map form_of desks ≡ map (form_at forms) firsts → count ≡ length desks → All (λ seat. seat < count) seats
made_there forms k seats firsts desks count had made e =
    let many : length (map form_of desks) ≡ length (map (form_at forms) firsts) = ap (λ (fs : List BlockForm). length fs) made in
    subst (λ n. All (λ seat. seat < n) seats) (omega (arith, many, e, length-map desks form_of, length-map firsts (form_at forms)))
    (seats_there forms k seats firsts had)

-- the point of a block's pricer
pub priced_is : (desks : List Desk) (seats : List ℕ) (k seat : ℕ) (desk : Desk) → k < length seats → seat ≡ get_or seats k seat
    → get_or seats k 0 < length desks → desk ≡ get_or desks seat desk → priced_point desk ≡ get_or (map priced_point desks) (get_or seats k 0) []
priced_is desks seats k seat desk l seat_is there desk_is =
    let own : seat ≡ get_or seats k 0 = seat_is ∙ get_or_default seats k seat 0 l in
    ap priced_point (desk_is ∙ ap (λ n. get_or desks n desk) own) ∙ sym (get_or-map priced_point desks (get_or seats k 0) desk [] there)

-- there is room for what is known of each block
pub known_wide : (b : BlockedProgram) (work : Work) → forms_of work ≡ forms_in b → length work.known.items ≡ length b.blocking.blocks
known_wide b work e =
    omega (arith, seats_many b work.desks.items work.seats.items e, work.room, work.known.ok.0, work.seats.ok.0)

-- there is room for what is told of each block
pub told_wide : (b : BlockedProgram) (work : Work) → forms_of work ≡ forms_in b → length (map told_point work.told.items) ≡ length b.blocking.blocks
told_wide b work e =
    let many : length (map room_of work.told.items) ≡ length (map span_count (forms_of work)) = ap (λ (ns : List ℕ). length ns) work.points in
    omega (
      arith,
      many,
      length-map (forms_of work) span_count,
      length-map work.seats.items (form_at (map form_of work.desks.items)),
      length-map work.told.items room_of,
      length-map work.told.items told_point,
      seats_many b work.desks.items work.seats.items e,
    )
