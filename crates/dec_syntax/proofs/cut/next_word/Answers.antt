use Rattle.std.proofs.Common.{◌∙◌, ◌<◌, arith, length}
use Rattle.dec_syntax.proofs.CutLemmas.{at-end, next_token}
use Rattle.dec_syntax.proofs.cut.next_word.Goals as goal

pub returns-then-start-text : goal.returns-then-start-text
returns-then-start-text c = c.skip_blanks-start.ensures.same ∙ at-end c.args.text.now c.skip_blanks-start.result (omega arith)

pub returns : goal.returns
returns c =
    let start = c.skip_blanks-start.result in
    let stands = c.skip_blanks-start.ensures.stands in
    let within : start.at < length c.args.text.now = omega (arith, stands.inside, c.if-start-text.false) in
    let token = next_token c.args.text.now start c.word_end-to.result within (c.skip_blanks-start.ensures.word within) c.word_end-to.ensures.ordered c.word_end-to.ensures.inside c.word_end-to.ensures.word c.word_end-to.ensures.stop in
    record {
      word_inside = c.word_end-to.ensures.inside;
      word_ordered = c.word_end-to.ensures.ordered;
      onward = omega (arith, token.0, c.skip_blanks-start.ensures.onward);
      stands = record { inside = c.word_end-to.ensures.inside; countable = omega (arith, token.0, stands.countable) };
      tokens = c.skip_blanks-start.ensures.same ∙ token.1;
    }
