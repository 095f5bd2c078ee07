use Rattle.std.proofs.Common.{sym, ap, subst, ◌∙◌, ◌≡◌, ◌<◌, ◌≤◌, ◌-◌, ◌^◌, ◌++◌, ◌∷◌, [], ℕ, List, pos, get_or, set, length, arith}
use Rattle.std.specs.Prelude.{ℤ, ◌+ℤ◌, ◌≤ℤ◌, zip, All}
use Rattle.std.specs.Int.{w64}
use Rattle.std.proofs.lemmas.Int.{ints, to_z_pos}
use Rattle.std.proofs.lemmas.List.{get_or_read}
use Rattle.std.proofs.lemmas.List.Elements.{All-push}
use Rattle.search_laws.specs.declared.Column.{Column}
use Rattle.search_laws.specs.Master.{class_weight}
use mir.Val.{to_z}
use Rattle.master_gap.proofs.Steps.{room_step, room_low, no_weights}
use Rattle.master_gap.proofs.clip.clipped_weights.Goals as goal

pub loop-j-init : goal.loop-j-init
loop-j-init c = record {
  rooms = c.in_ok-room.ensures.many;
  low = λ k l. omega (arith, c.in_ok-room.ensures.full k l);
  many = c.new-weights.ensures.len;
  sizes = subst (λ (ws : List ℤ). All (λ w. (pos 0 ≤ℤ w) × (w ≤ℤ pos (2 ^ 33))) ws) (sym c.new-weights.ensures.items) (λ k d l. absurd (omega (arith, l)));
  left = λ k l.
      subst (λ (ws : List ℤ). class_weight (zip c.args.cols.now ws) k +ℤ pos (get_or c.in_ok-room.room.items k 0) ≡ pos (2 ^ 33)) (sym c.new-weights.ensures.items)
      (omega (arith, ints, no_weights c.args.cols.now k, c.in_ok-room.ensures.full k l));
}

pub overflow_cast-weight : goal.overflow_cast-weight
overflow_cast-weight c =
    let class : ℕ = (get_or c.args.cols.now c.loop-j.j c.index-cols-j.result).class in
    let room = c.loop-j.room.items in
    let known : class < c.args.classes = c.requires c.loop-j.j c.index-cols-j.result c.loop-j-test.true in
    let there : class < length room = omega (arith, known, c.loop-j.invariant.rooms, c.loop-j.room.ok.0) in
    let read : c.index-left.result.now ≡ get_or room class 0 = get_or_read room class c.index-left.result.now there c.index-left.ensures 0 in
    omega (arith, ints, c.loop-j.invariant.low class known, read, c.within_room-weight.ensures)

pub loop-j-preserved : goal.loop-j-preserved
loop-j-preserved c =
    let cols = c.args.cols.now in
    let j = c.loop-j.j in
    let d : Column = c.index-cols-j.result in
    let class : ℕ = (get_or cols j d).class in
    let room = c.loop-j.room.items in
    let left : ℕ = c.index-left.result.now in
    let weight : ℕ = c.within_room-weight.result in
    let ws = c.loop-j.weights.items in
    let known : class < c.args.classes = c.requires j d c.loop-j-test.true in
    let there : class < length room = omega (arith, known, c.loop-j.invariant.rooms, c.loop-j.room.ok.0) in
    let read : left ≡ get_or room class 0 = get_or_read room class left there c.index-left.ensures 0 in
    let few : weight ≤ 2 ^ 33 = omega (arith, c.loop-j.invariant.low class known, read, c.within_room-weight.ensures) in
    let cast : to_z w64 weight ≡ pos weight = to_z_pos w64 weight (omega (arith, few)) in
    let pushed : c.push.new.self.items ≡ ws ++ pos weight ∷ [] = c.in_ok-push.ensures.items ∙ ap (λ z. ws ++ z ∷ []) cast in
    let many : length ws ≡ j = omega (arith, c.loop-j.invariant.many, c.loop-j.weights.ok.0) in
    record {
      rooms = c.loop-j.invariant.rooms;
      low = λ k l. room_low room class left weight k there read (c.loop-j.invariant.low class known) (c.loop-j.invariant.low k l);
      many = omega (arith, c.in_ok-push.ensures.len, c.loop-j.invariant.many);
      sizes = subst (λ (xs : List ℤ). All (λ w. (pos 0 ≤ℤ w) × (w ≤ℤ pos (2 ^ 33))) xs) (sym pushed)
          (All-push (λ w. (pos 0 ≤ℤ w) × (w ≤ℤ pos (2 ^ 33))) ws (pos weight) c.loop-j.invariant.sizes (omega (arith, ints), omega (arith, ints, few)));
      left = λ k l.
          subst (λ (xs : List ℤ). class_weight (zip cols xs) k +ℤ pos (get_or (set room class (left - weight)) k 0) ≡ pos (2 ^ 33)) (sym pushed)
          (room_step cols ws room j d left weight k many c.loop-j-test.true there read c.within_room-weight.ensures (c.loop-j.invariant.left k l));
    }
