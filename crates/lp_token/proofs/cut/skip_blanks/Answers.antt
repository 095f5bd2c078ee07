use Rattle.std.proofs.Common.{◌+◌, ◌≤◌, get_or, sym, ◌∙◌, ap, arith}
use Rattle.std.proofs.lemmas.Bool.{or_left, or_right}
use Rattle.std.specs.Prelude.{◌||◌, ◌&&◌, if◌then◌else◌}
use Rattle.lp_token.specs.Cut.{is_white, is_line_feed, line_at}
use Rattle.lp_token.proofs.Places.{blank_on, blank_off}
use Rattle.lp_token.proofs.Lines.{line_at-step, line_at-bound, begins_line-step}
use Rattle.lp_token.proofs.cut.skip_blanks.Goals as goal
use Rattle.lp_token.proofs.cut.skip_blanks.Goals.{else-not-next-via-then-not-next+else-not-is_white_byte, else-not-next-via-else-not-next}

pub line_behind-line-requires : goal.line_behind-line-requires
line_behind-line-requires c =
    let low : line_at c.args.bytes.now c.loop-at.at ≤ 1 + c.loop-at.at = line_at-bound c.args.bytes.now c.loop-at.at (omega arith) in
    omega arith

pub loop-at-preserved : goal.loop-at-preserved
loop-at-preserved c =
    let r = blank_on c.args.bytes.now c.args.from.at c.loop-at.at c.loop-at.comment c.is_comment_byte-next.result c.loop-at-test.true c.loop-at.invariant.gap c.loop-at.invariant.comment c.is_comment_byte-next.ensures
    (elim c.else-not-next.branch [
      | else-not-next-via-then-not-next+else-not-is_white_byte w ↦ or_left (is_white (get_or c.args.bytes.now c.loop-at.at 0)) c.is_comment_byte-next.result (sym w.is_white_byte.ensures ∙ w.if-not-is_white_byte.false)
      | else-not-next-via-else-not-next w ↦ or_right (is_white (get_or c.args.bytes.now c.loop-at.at 0)) c.is_comment_byte-next.result w.if-not-next.false
    ]) in
    record {
      gap = r.gap;
      comment = r.comment;
      line = c.line_behind-line.ensures ∙ ap (λ n. if is_line_feed (get_or c.args.bytes.now c.loop-at.at 0) then n + 1 else n) c.loop-at.invariant.line ∙ sym (line_at-step c.args.bytes.now c.loop-at.at c.loop-at-test.true);
      fresh = c.fresh_behind-fresh.ensures ∙ ap (λ f. is_line_feed (get_or c.args.bytes.now c.loop-at.at 0) || (f && is_white (get_or c.args.bytes.now c.loop-at.at 0))) c.loop-at.invariant.fresh ∙ sym (begins_line-step c.args.bytes.now c.loop-at.at c.loop-at-test.true);
    }

pub returns-then-not-is_white_byte-clause-seen : goal.returns-then-not-is_white_byte-clause-seen
returns-then-not-is_white_byte-clause-seen c = λ l. blank_off c.args.bytes.now c.loop-at.at c.loop-at.comment c.is_comment_byte-next.result l c.loop-at.invariant.comment c.is_comment_byte-next.ensures (sym c.is_white_byte.ensures ∙ c.if-not-is_white_byte.true) c.if-not-next.true
