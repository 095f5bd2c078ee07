use Rattle.std.proofs.Common.{sym, ◌∙◌}
use Rattle.std.proofs.lemmas.Bool.{ne_eqb}
use Rattle.dec_syntax.proofs.CutLemmas.{left-line_feed, left-comment, left-backslash, left-white}
use Rattle.dec_syntax.proofs.cut.passed.Goals as goal

pub returns-then-b-eq10-clause-left : goal.returns-then-b-eq10-clause-left
returns-then-b-eq10-clause-left c = λ rest. left-line_feed c.args.blank c.args.b rest c.if-b-eq10.true

pub returns-then-blank-clause-left : goal.returns-then-blank-clause-left
returns-then-blank-clause-left c = λ rest. left-comment c.args.blank c.args.b rest c.if-blank.true (ne_eqb _ _ c.if-b-eq10.false)

pub returns-then-b-eq92-clause-left : goal.returns-then-b-eq92-clause-left
returns-then-b-eq92-clause-left c = λ rest. left-backslash c.args.blank c.args.b rest c.if-blank.false c.if-b-eq92.true

pub returns-then-is_white_byte-clause-left : goal.returns-then-is_white_byte-clause-left
returns-then-is_white_byte-clause-left c = λ rest. left-white c.args.blank c.args.b rest c.if-blank.false (ne_eqb _ _ c.if-b-eq10.false) (ne_eqb _ _ c.if-b-eq92.false) (sym c.is_white_byte.ensures ∙ c.if-is_white_byte.true)
