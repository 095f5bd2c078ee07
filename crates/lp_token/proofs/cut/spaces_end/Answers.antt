use Rattle.std.proofs.Common.{arith, sym, ◌∙◌, ◌≤◌}
use Rattle.lp_token.specs.Word.{is_space}
use Rattle.lp_token.proofs.Places.{slice_more}
use Rattle.lp_token.proofs.cut.spaces_end.Goals as goal

pub loop-at-preserved : goal.loop-at-preserved
loop-at-preserved c = record {
  ordered = (let o : c.args.from ≤ c.loop-at.at = c.loop-at.invariant.ordered in omega arith);
  inside = omega arith;
  run = slice_more is_space c.args.bytes.now c.args.from c.loop-at.at c.loop-at.invariant.ordered c.loop-at-test.true c.loop-at.invariant.run (sym c.is_space_byte.ensures ∙ c.if-not-is_space_byte.false);
}
