use Rattle.std.proofs.Common.{◌∙◌, ◌++◌, ◌∷◌, [], ◌<◌, List, ℕ, ap, sym, arith}
use Rattle.block_build.specs.Homes.{has_block}
use Rattle.block_build.proofs.HomeLemmas.{home_known}
use Rattle.block_build.proofs.RangeLemmas.{passing_next, passing_all_before}
use Rattle.block_build.proofs.homes.column_homes.Goals as goal

pub overflow_add-from : goal.overflow_add-from
overflow_add-from c = omega (arith, home_known c.args.blocks c.args.places.now c.args.column.now c.in-Some.block c.requires c.in-Some.ensures.1)

pub loop-block-preserved : goal.loop-block-preserved
loop-block-preserved c =
    let inside : c.in-Some.block < c.args.blocks = home_known c.args.blocks c.args.places.now c.args.column.now c.in-Some.block c.requires c.in-Some.ensures.1 in
    record {
      within = omega (arith, inside);
      homes = c.in_ok-push.ensures.items ∙ ap (λ (ks : List ℕ). ks ++ c.in-Some.block ∷ []) c.loop-block.invariant.homes
          ∙ sym (passing_next (has_block c.args.places.now c.args.column.now) c.loop-block.from c.in-Some.block c.in-Some.ensures.0 c.in-Some.ensures.1 c.in-Some.ensures.2);
    }

pub loop-block-smaller : goal.loop-block-smaller
loop-block-smaller c =
    let inside : c.in-Some.block < c.args.blocks = home_known c.args.blocks c.args.places.now c.args.column.now c.in-Some.block c.requires c.in-Some.ensures.1 in
    omega (arith, inside, c.in-Some.ensures.0)

pub returns : goal.returns
returns c =
    c.from_vec.ensures ∙ c.loop-block.invariant.homes
    ∙ sym (passing_all_before (has_block c.args.places.now c.args.column.now) c.loop-block.from c.args.blocks c.loop-block.invariant.within c.in_default.ensures)
