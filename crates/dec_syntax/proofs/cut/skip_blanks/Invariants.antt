use Rattle.std.proofs.Common.{◌≡◌, ◌≤◌, ◌<◌, ◌+◌, ◌-◌, ◌^◌, length, drop}
use Rattle.dec_syntax.specs.Scan.{tokens_left, tokens_at}
use Rattle.dec_syntax.proofs.cut.skip_blanks.Given as goal

abbrev pub invariant-loop-at : goal.invariant-loop-at
invariant-loop-at l = record {
  onward : l.fn.from.at ≤ l.at;
  inside : l.at ≤ length l.text;
  countable : l.blank.line + (length l.text - l.at) < 2 ^ 32;
  same : tokens_at l.text l.fn.from ≡ tokens_left l.blank (drop l.at l.text);
}

abbrev pub decreases-loop-at : goal.decreases-loop-at
decreases-loop-at l = length l.text - l.at
