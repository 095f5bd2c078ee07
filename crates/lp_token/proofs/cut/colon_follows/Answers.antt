use Rattle.std.proofs.Common.{◌∙◌, sym, arith}
use Rattle.lp_token.specs.Scan.{is_tab_or_space}
use Rattle.lp_token.proofs.WordPlaces.{behind_pass, colon_at, colon_none}
use Rattle.lp_token.proofs.cut.colon_follows.Goals as goal

pub loop-at-preserved : goal.loop-at-preserved
loop-at-preserved c = record {
  inside = omega arith;
  same = behind_pass is_tab_or_space c.args.bytes.now c.loop-at.at c.loop-at-test.true (sym c.is_tab_or_space_byte.ensures ∙ c.if-not-is_tab_or_space_byte.false) ∙ c.loop-at.invariant.same;
}

pub returns-then-not-is_tab_or_space_byte : goal.returns-then-not-is_tab_or_space_byte
returns-then-not-is_tab_or_space_byte c = colon_at c.args.bytes.now c.args.from c.loop-at.at c.loop-at-test.true c.loop-at.invariant.same (sym c.is_tab_or_space_byte.ensures ∙ c.if-not-is_tab_or_space_byte.true)

pub returns : goal.returns
returns c = colon_none c.args.bytes.now c.args.from c.loop-at.at c.loop-at-test.false c.loop-at.invariant.same
