use Rattle.std.proofs.Common.{◌≡◌, ◌∙◌, ◌<◌, [], All, get_or, sym, ap, subst, arith}
use Rattle.std.specs.Prelude.{◌==◌}
use Rattle.std.specs.List.{list_any}
use Rattle.std.specs.List.Sorted.{IsStrictlyIncreasing}
use Rattle.std.proofs.lemmas.List.{get_or_default}
use Rattle.block_build.proofs.ShareLemmas.{share_more}
use Rattle.block_build.proofs.shares.vars_by_block.Goals as goal

pub deal-requires-clause-there : goal.deal-requires-clause-there
deal-requires-clause-there c =
    subst (λ n. All (λ k. k < n) c.as_slice.result.now) (sym c.loop-v.invariant.each)
    (subst (All (λ k. k < c.args.blocks)) (sym (c.as_slice.ensures ∙ c.index-homes-v.is)) (c.requires.there c.loop-v.v c.index-homes-v.result c.loop-v-test.true))

pub deal-requires-clause-once : goal.deal-requires-clause-once
deal-requires-clause-once c =
    subst IsStrictlyIncreasing (sym (c.as_slice.ensures ∙ c.index-homes-v.is)) (c.requires.once c.loop-v.v c.index-homes-v.result c.loop-v-test.true)

pub loop-v-preserved : goal.loop-v-preserved
loop-v-preserved c =
    let homes = c.args.homes.now in
    let own : c.as_slice.result.now ≡ get_or homes c.loop-v.v [] =
    c.as_slice.ensures ∙ c.index-homes-v.is ∙ get_or_default homes c.loop-v.v c.index-homes-v.result [] c.loop-v-test.true in record {
      each = omega (arith, c.deal.ensures.len, c.loop-v.invariant.each);
      vars = λ k l.
          share_more (λ v. list_any (λ j. j == k) (get_or homes v [])) c.loop-v.v (list_any (λ j. j == k) c.as_slice.result.now)
          (get_or c.loop-v.all.items k []) (get_or c.deal.new.all.items k [])
          (ap (list_any (λ j. j == k)) own) (c.loop-v.invariant.vars k l) (c.in_ok-deal.ensures.dealt k);
    }
