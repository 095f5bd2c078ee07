use Rattle.std.proofs.Common.{◌≡◌, ◌≤◌, ◌-◌, length, drop}
use Rattle.lp_token.specs.Lexeme.{behind}
use Rattle.lp_token.specs.Scan.{is_tab_or_space}
use Rattle.lp_token.proofs.cut.colon_follows.Given as goal

abbrev pub invariant-loop-at : goal.invariant-loop-at
invariant-loop-at l = record { inside : l.at ≤ length l.bytes; same : behind is_tab_or_space (drop l.at l.bytes) ≡ behind is_tab_or_space (drop l.fn.from l.bytes) }

abbrev pub decreases-loop-at : goal.decreases-loop-at
decreases-loop-at l = length l.bytes - l.at
