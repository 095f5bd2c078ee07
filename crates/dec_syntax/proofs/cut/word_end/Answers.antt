use Rattle.std.proofs.Common.{arith, sym, ◌∙◌, ◌≤◌}
use Rattle.dec_syntax.specs.Scan.{is_word_byte}
use Rattle.dec_syntax.proofs.CutLemmas.{slice_more, begins_at, begins_end}
use Rattle.dec_syntax.proofs.cut.word_end.Goals as goal

pub loop-at-preserved : goal.loop-at-preserved
loop-at-preserved c = record {
  ordered = (let o : c.args.from ≤ c.loop-at.at = c.loop-at.invariant.ordered in omega arith);
  inside = omega arith;
  word = slice_more is_word_byte c.args.text.now c.args.from c.loop-at.at c.loop-at.invariant.ordered c.loop-at-test.true c.loop-at.invariant.word (sym c.is_of_word.ensures ∙ c.if-not-is_of_word.false);
}

pub returns-then-not-is_of_word-clause-stop : goal.returns-then-not-is_of_word-clause-stop
returns-then-not-is_of_word-clause-stop c = begins_at is_word_byte c.args.text.now c.loop-at.at c.loop-at-test.true ∙ (sym c.is_of_word.ensures ∙ c.if-not-is_of_word.true)

pub returns-clause-stop : goal.returns-clause-stop
returns-clause-stop c = begins_end is_word_byte c.args.text.now c.loop-at.at c.loop-at-test.false
