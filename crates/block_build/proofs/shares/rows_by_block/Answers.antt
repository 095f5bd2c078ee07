use Rattle.std.proofs.Common.{[], get_or, None, refl, arith}
use Rattle.bp_theory.specs.Decomposition.{is_block}
use Rattle.block_build.proofs.ShareLemmas.{share_more}
use Rattle.block_build.proofs.shares.rows_by_block.Goals as goal

pub loop-row-preserved : goal.loop-row-preserved
loop-row-preserved c = record {
  each = omega (arith, c.push_placed.ensures.len, c.loop-row.invariant.each);
  rows = λ k l.
      share_more (λ row. is_block k (get_or c.args.places.now row None)) c.loop-row.row _ (get_or c.loop-row.all.items k []) (get_or c.push_placed.new.all.items k [])
      refl (c.loop-row.invariant.rows k l) (c.in_ok-push_placed.ensures.pushed k);
}
