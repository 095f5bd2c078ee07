use Rattle.std.proofs.Common.{◌∙◌, List, ℕ, [], ap}
use Rattle.std.specs.Prelude.{ℤ}
use Rattle.std.proofs.lemmas.List.{get_or_default}
use Rattle.block_build.specs.Homes.{shown_homes}
use Rattle.block_build.proofs.ColumnLemmas.{homes_more, one_longer}
use Rattle.block_build.proofs.homes.homes_of.Goals as goal

pub loop-v-preserved : goal.loop-v-preserved
loop-v-preserved c = record {
  each = one_longer c.loop-v.homes.items c.in_ok-own.own c.push.new.self.items c.loop-v.v c.in_ok-push.ensures.items c.loop-v.invariant.each;
  homes = homes_more (λ column. shown_homes c.args.blocks c.args.places.now column) c.args.columns.now c.loop-v.v c.loop-v.homes.items c.push.new.self.items c.in_ok-own.own
      c.loop-v.invariant.each c.in_ok-push.ensures.items
      (c.in_ok-own.ensures
      ∙ ap (λ (column : List (ℕ × ℤ)). shown_homes c.args.blocks c.args.places.now column)
      (c.as_slice.ensures ∙ c.index-columns-v.is ∙ get_or_default c.args.columns.now c.loop-v.v c.index-columns-v.result [] c.loop-v-test.true))
      c.loop-v.invariant.homes;
}
