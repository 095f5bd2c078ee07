-- A walk along the chain of the number's hash meets the number, or tells that it isn't there.
use Rattle.std.proofs.Common.{◌≡◌, ◌<◌, ◌-◌, ◌∙◌, refl, sym, subst, true≢false, map, length, get_or, arith}
use Rattle.std.proofs.lemmas.List.{length-map}
use Rattle.hash_index.specs.Numbers.{mixed}
use Rattle.hash_index.specs.Indexed.{slot_in}
use Rattle.hash_index.proofs.WalkLemmas.{walk_first, walk_next}
use Rattle.hash_index.proofs.NumberLemmas.{other_numbers, same_read, none_there}
use Rattle.hash_index.proofs.number_set.contains.Goals as goal

pub loop-last-init : goal.loop-last-init
loop-last-init c =
    let index = c.args.index.now in
    walk_first index (map mixed c.args.numbers.now) (mixed c.args.number) _ c.last_of-last.result c.requires
    (other_numbers index c.args.numbers.now c.args.number)
    (subst (λ h. slot_in index h < length index.heads.items) c.mixed.ensures c.last_of-last.ensures.there)
    (subst (λ h. c.last_of-last.result ≡ get_or index.heads.items (slot_in index h) 0) c.mixed.ensures c.last_of-last.ensures.last)

pub returns-then-numbers-place : goal.returns-then-numbers-place
returns-then-numbers-place c =
    let place = c.loop-last.last - 1 in
    let there : place < length c.args.numbers.now =
    omega (arith, c.loop-last-test.true, c.loop-last.invariant.within, length-map c.args.numbers.now mixed) in
    (λ yes. (place, there, same_read c.args.numbers.now place c.args.number 0 there ∙ c.if-numbers-place.true), λ told. refl)

pub loop-last-preserved : goal.loop-last-preserved
loop-last-preserved c =
    walk_next c.args.index.now (map mixed c.args.numbers.now) (mixed c.args.number) _ c.loop-last.last c.last_before-last.result c.requires
    (other_numbers c.args.index.now c.args.numbers.now c.args.number) c.loop-last.invariant c.loop-last-test.true c.if-numbers-place.false
    c.last_before-last.ensures

pub returns : goal.returns
returns c = (
  λ no. absurd (true≢false (sym no)),
  λ there.
      absurd (none_there c.args.numbers.now c.args.number
      (λ k l. c.loop-last.invariant.others k (omega (arith, c.loop-last-test.false)) (omega (arith, l, length-map c.args.numbers.now mixed))) there),
)
