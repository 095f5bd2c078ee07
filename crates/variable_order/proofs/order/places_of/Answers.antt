use Rattle.std.proofs.Common.{◌≡◌, ◌<◌, ℕ, length, arith}
use Rattle.std.proofs.lemmas.List.{get_or_read}
use Rattle.std.proofs.lemmas.List.Elements.{All-set}
use Rattle.variable_order.specs.Orders.{number_at}
use Rattle.variable_order.proofs.PlaceLaws.{vars_below, back_more, order_made}
use Rattle.variable_order.proofs.order.places_of.Goals as goal

pub index_mut-requires : goal.index_mut-requires
index_mut-requires c =
    let there : c.loop-place.place < length c.args.vars.now.items = omega (arith, c.loop-place-test.true, c.args.vars.now.ok.0, c.len-place-end.ensures) in
    let at : c.index.result.now ≡ number_at c.args.vars.now.items c.loop-place.place = get_or_read c.args.vars.now.items c.loop-place.place c.index.result.now there c.index.ensures 0 in
    omega (arith, at, vars_below c.args.vars.now.items c.requires c.loop-place.place 0 there, c.loop-place.invariant.each)

pub loop-place-preserved : goal.loop-place-preserved
loop-place-preserved c =
    let there : c.loop-place.place < length c.args.vars.now.items = omega (arith, c.loop-place-test.true, c.args.vars.now.ok.0, c.len-place-end.ensures) in
    let at : c.index.result.now ≡ number_at c.args.vars.now.items c.loop-place.place = get_or_read c.args.vars.now.items c.loop-place.place c.index.result.now there c.index.ensures 0 in
    record {
      each = c.loop-place.invariant.each;
      placed = All-set (λ (k : ℕ). k < length c.args.vars.now.items) c.loop-place.places.items c.index.result.now c.loop-place.place there c.loop-place.invariant.placed;
      back = back_more c.args.vars.now.items c.loop-place.places.items c.loop-place.place c.index.result.now c.requires there
          (omega (arith, c.loop-place.invariant.each, c.loop-place.places.ok.0)) at c.loop-place.invariant.back;
    }

pub returns : goal.returns
returns c =
    order_made c.args.vars.now.items c.loop-place.places.items c.requires (omega (arith, c.loop-place.invariant.each, c.loop-place.places.ok.0)) c.loop-place.invariant.placed
    (λ k l. c.loop-place.invariant.back k (omega (arith, l, c.loop-place-test.false, c.args.vars.now.ok.0, c.len-place-end.ensures)))
