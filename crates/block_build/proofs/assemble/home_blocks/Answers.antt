use Rattle.std.proofs.Common.{◌≡◌, ◌∙◌, ◌++◌, ◌∷◌, [], ◌<◌, List, ℕ, All, map, sym, ap, subst, arith}
use Rattle.std.specs.List.{range_with_len}
use Rattle.std.specs.List.Sorted.{IsStrictlyIncreasing}
use Rattle.std.proofs.lemmas.List.{map-append}
use Rattle.std.proofs.lemmas.List.Elements.{All-push}
use Rattle.bp_theory.specs.Blocking.{Block}
use Rattle.bp_theory.specs.Bound.{spans_of}
use Rattle.bp_theory.specs.Decomposition.{members}
use Rattle.block_program.specs.Blocked.{RootBlock, HaveRootSpans}
use Rattle.block_build.specs.Gather.{at_home}
use Rattle.block_build.specs.Source.{block_in}
use Rattle.block_build.proofs.GatherLemmas.{map_range_more}
use Rattle.block_build.proofs.HomeLemmas.{at_home_are}
use Rattle.block_build.proofs.ShareLemmas.{homes_there, homes_once, share_at}
use Rattle.block_build.proofs.assemble.home_blocks.Goals as goal

pub shares_of-requires-clause-there : goal.shares_of-requires-clause-there
shares_of-requires-clause-there c =
    let s = c.args.source.now in
    subst (λ (homes : List (List ℕ)). All (All (λ k. k < c.blocks-blocks.result)) homes) (sym c.as_slice.ensures.value)
    (subst (λ n. All (All (λ k. k < n)) s.homes.items) (sym c.blocks-blocks.ensures.blocks) (homes_there s.model.now.program s.dec.now s.homes.items c.requires.homes))

pub shares_of-requires-clause-once : goal.shares_of-requires-clause-once
shares_of-requires-clause-once c =
    let s = c.args.source.now in
    subst (All IsStrictlyIncreasing) (sym c.as_slice.ensures.value) (homes_once s.model.now.program s.dec.now s.homes.items c.requires.homes)

pub home_block-requires-clause-vars : goal.home_block-requires-clause-vars
home_block-requires-clause-vars c =
    let s = c.args.source.now in
    let shares = c.in_ok-shares.shares in
    let there : c.loop-k.k < s.dec.now.blocks = omega (arith, c.loop-k-test.true, c.blocks-blocks.ensures.blocks) in
    share_at (λ k. at_home k c.as_slice.result.now) c.blocks-blocks.result c.loop-k.k shares.vars.items c.as_slice-vars.result.now c.index.result.now
    (omega (arith, c.in_ok-shares.ensures.each_vars, shares.vars.ok)) c.loop-k-test.true c.in_ok-shares.ensures.vars (c.as_slice-vars.ensures ∙ c.index.ensures)
    ∙ ap (at_home c.loop-k.k) c.as_slice.ensures.value
    ∙ at_home_are s.model.now.program s.dec.now s.homes.items c.loop-k.k c.requires.homes there

pub loop-k-preserved : goal.loop-k-preserved
loop-k-preserved c =
    let s = c.args.source.now in
    let f : ℕ → Block = λ k. block_in s k (members s.model.now.program s.dec.now k) in
    let pushed : c.push.new.self.items ≡ c.loop-k.all.items ++ c.in_ok-block.block ∷ [] = c.in_ok-push.ensures.items in record {
      blocks = ap (λ (all : List RootBlock). map (λ (k : RootBlock). k.block) all) pushed
          ∙ map-append (λ (k : RootBlock). k.block) c.loop-k.all.items (c.in_ok-block.block ∷ [])
          ∙ ap (λ (front : List Block). front ++ c.in_ok-block.block.block ∷ []) c.loop-k.invariant.blocks
          ∙ ap (λ (b : Block). map f (range_with_len 0 c.loop-k.k) ++ b ∷ []) c.in_ok-block.ensures.block
          ∙ sym (map_range_more f c.loop-k.k);
      spans = subst (λ (all : List RootBlock). HaveRootSpans s.model.now.program.spans all) (sym pushed)
          (All-push (λ (k : RootBlock). k.spans ≡ spans_of s.model.now.program.spans k.block) c.loop-k.all.items c.in_ok-block.block c.loop-k.invariant.spans c.in_ok-block.ensures.spans);
    }
