use Rattle.std.proofs.Common.{sym, ◌∙◌, ap, not}
use Rattle.lp_token.specs.Lexeme.{is_exponent_mark}
use Rattle.lp_token.proofs.Places.{begins_at, begins_end}
use Rattle.lp_syntax.proofs.NumberLemmas.{split_mark}
use Rattle.lp_syntax.proofs.number.exponent_start.Goals as goal

pub returns-then-is_exponent_byte-clause-mantissa : goal.returns-then-is_exponent_byte-clause-mantissa
returns-then-is_exponent_byte-clause-mantissa c =
    (split_mark c.args.bytes.now c.loop-at.at c.loop-at.invariant.plain (begins_at (λ b. not (is_exponent_mark b)) c.args.bytes.now c.loop-at.at c.loop-at-test.true ∙ ap not (sym c.is_exponent_byte.ensures ∙ c.if-is_exponent_byte.true))).0

pub returns-then-is_exponent_byte-clause-exponent : goal.returns-then-is_exponent_byte-clause-exponent
returns-then-is_exponent_byte-clause-exponent c =
    (split_mark c.args.bytes.now c.loop-at.at c.loop-at.invariant.plain (begins_at (λ b. not (is_exponent_mark b)) c.args.bytes.now c.loop-at.at c.loop-at-test.true ∙ ap not (sym c.is_exponent_byte.ensures ∙ c.if-is_exponent_byte.true))).1

pub returns-clause-mantissa : goal.returns-clause-mantissa
returns-clause-mantissa c = (split_mark c.args.bytes.now c.loop-at.at c.loop-at.invariant.plain (begins_end (λ b. not (is_exponent_mark b)) c.args.bytes.now c.loop-at.at c.loop-at-test.false)).0

pub returns-clause-exponent : goal.returns-clause-exponent
returns-clause-exponent c = (split_mark c.args.bytes.now c.loop-at.at c.loop-at.invariant.plain (begins_end (λ b. not (is_exponent_mark b)) c.args.bytes.now c.loop-at.at c.loop-at-test.false)).1
