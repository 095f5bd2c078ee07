use Rattle.std.proofs.Common.{◌∙◌, sym, ap, ◌<◌, List, Option, Some, map, length, set, arith}
use Rattle.std.proofs.Math.IntN.{ℤ}
use Rattle.std.proofs.lemmas.List.{length-map, map-set}
use Rattle.block_pricers.specs.Desks.{form_of}
use Rattle.block_pricers.specs.Told.{told_point, room_of}
use Rattle.block_pricers.specs.Forms.{form_at}
use Rattle.block_pricers.specs.Works.{forms_of}
use Rattle.block_pricers.proofs.FormLemmas.{map-set_alike}
use Rattle.block_pricers.proofs.WorkLemmas.{priced_is}
use Rattle.block_pricers.proofs.SeatLemmas.{told_many, room_at}
use Rattle.block_pricers.proofs.work.Work.keep.Goals as goal

pub tell-requires : goal.tell-requires
tell-requires c =
    let own : c.args.block < length c.args.self.now.seats.items =
    omega (arith, c.requires.block, length-map c.args.self.now.seats.items (form_at (map form_of c.args.self.now.desks.items))) in
    ap (λ (y : List ℤ). length y) (c.point.ensures ∙ priced_is c.args.self.now.desks.items c.args.self.now.seats.items c.args.block c.index-seat.result.now c.index.result.now
    own c.index-seat.ensures (omega (arith, c.args.self.now.there c.args.block 0 own, c.args.self.now.desks.ok.0)) c.index.ensures)
    ∙ c.requires.point
    ∙ sym (room_at c.args.self.now.told.items (forms_of c.args.self.now) c.args.block c.index_mut-2.result.now c.requires.block c.index_mut-2.ensures.value c.args.self.now.points)

pub invariant_of-self-clause-points : goal.invariant_of-self-clause-points
invariant_of-self-clause-points c =
    let there : c.args.block < length c.args.self.now.told.items =
    omega (arith, c.requires.block, told_many c.args.self.now.told.items (forms_of c.args.self.now) c.args.self.now.points) in
    map-set_alike room_of c.args.self.now.told.items c.args.block c.tell.new.self c.index_mut-2.result.now there (c.tell.ensures.room ∙ ap room_of c.index_mut-2.ensures.value)
    ∙ c.args.self.now.points

pub returns-clause-told : goal.returns-clause-told
returns-clause-told c =
    let own : c.args.block < length c.args.self.now.seats.items =
    omega (arith, c.requires.block, length-map c.args.self.now.seats.items (form_at (map form_of c.args.self.now.desks.items))) in
    map-set told_point c.args.self.now.told.items c.args.block c.tell.new.self
    ∙ ap (λ (o : Option (List ℤ)). set (map told_point c.args.self.now.told.items) c.args.block o)
    (c.tell.ensures.told
    ∙ ap (λ (y : List ℤ). Some y)
    (c.point.ensures ∙ priced_is c.args.self.now.desks.items c.args.self.now.seats.items c.args.block c.index-seat.result.now c.index.result.now
    own c.index-seat.ensures (omega (arith, c.args.self.now.there c.args.block 0 own, c.args.self.now.desks.ok.0)) c.index.ensures))
