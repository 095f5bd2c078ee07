use Rattle.std.proofs.Common.{◌∙◌, arith, sym, ap, refl, false}
use Rattle.std.proofs.lemmas.List.{drop_all}
use Rattle.dec_syntax.specs.Scan.{tokens_left}
use Rattle.dec_syntax.proofs.CutLemmas.{left-clear, left-end, at-end}
use Rattle.dec_syntax.proofs.cut.skip_blanks.Goals as goal

pub loop-at-init : goal.loop-at-init
loop-at-init c = record {
  onward = omega arith;
  inside = c.requires.inside;
  countable = c.requires.countable;
  same = sym (left-clear c.args.text.now (record { line = c.args.from.line; first = c.args.from.first; comment = false }) c.args.from.at refl);
}

pub returns-in_default-clause-same : goal.returns-in_default-clause-same
returns-in_default-clause-same c = c.loop-at.invariant.same ∙ left-clear c.args.text.now c.loop-at.blank c.loop-at.at c.in_default.ensures.clear

pub returns-clause-same : goal.returns-clause-same
returns-clause-same c =
    c.loop-at.invariant.same ∙ ap (tokens_left c.loop-at.blank) (drop_all c.loop-at.at c.args.text.now c.loop-at-test.false) ∙ left-end c.loop-at.blank
    ∙ sym (at-end c.args.text.now (record { at = c.loop-at.at; line = c.loop-at.blank.line; first = c.loop-at.blank.first }) c.loop-at-test.false)
