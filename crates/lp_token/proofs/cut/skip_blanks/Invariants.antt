use Rattle.std.proofs.Common.{◌≡◌, ◌-◌, length}
use Rattle.lp_token.specs.Cut.{IsGap, in_comment, line_at, begins_line}
use Rattle.lp_token.proofs.cut.skip_blanks.Given as goal

abbrev pub invariant-loop-at : goal.invariant-loop-at
invariant-loop-at l = record { gap : IsGap l.bytes l.fn.from.at l.at; comment : in_comment l.bytes l.at ≡ l.comment; line : l.line ≡ line_at l.bytes l.at; fresh : l.fresh ≡ begins_line l.bytes l.at }

abbrev pub decreases-loop-at : goal.decreases-loop-at
decreases-loop-at l = length l.bytes - l.at
