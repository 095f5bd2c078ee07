use Rattle.std.proofs.Common.{◌∙◌, ap, ◌<◌, List, Option, None, map, length, get_or, arith, ⊎_elim}
use Rattle.std.proofs.Math.IntN.{ℤ}
use Rattle.std.proofs.lemmas.Bool.{cases_lt}
use Rattle.std.proofs.lemmas.List.{length-map, map-set, get_or_past}
use Rattle.block_pricers.specs.Told.{told_point, room_of}
use Rattle.block_pricers.proofs.FormLemmas.{map-set_alike, none_more}
use Rattle.block_pricers.proofs.told.silence.Goals as goal

pub loop-k-preserved : goal.loop-k-preserved
loop-k-preserved c =
    let there : c.loop-k.k < length c.loop-k.told.items = omega (arith, c.loop-k-test.true, c.len-k-end.ensures, c.loop-k.invariant.0, c.loop-k.told.ok.0) in (
      c.loop-k.invariant.0,
      map-set_alike room_of c.loop-k.told.items c.loop-k.k c.silence.new.self c.index_mut.result.now there (c.silence.ensures.room ∙ ap room_of c.index_mut.ensures.value)
          ∙ c.loop-k.invariant.1,
      λ i l. ap (λ (xs : List (Option (List ℤ))). get_or xs i None) (map-set told_point c.loop-k.told.items c.loop-k.k c.silence.new.self)
          ∙ none_more (map told_point c.loop-k.told.items) c.loop-k.k (told_point c.silence.new.self) c.silence.ensures.silent c.loop-k.invariant.2 i l,
    )

pub returns-clause-silent : goal.returns-clause-silent
returns-clause-silent c k = ⊎_elim
    (λ below. c.loop-k.invariant.2 k below)
    (λ above.
    get_or_past (map told_point c.loop-k.told.items) k None
    (omega (arith, above, c.loop-k-test.false, c.len-k-end.ensures, c.loop-k.invariant.0, c.loop-k.told.ok.0, length-map c.loop-k.told.items told_point)))
    (cases_lt k c.loop-k.k)
