use Rattle.std.proofs.Common.{◌≡◌, ◌<◌, ℕ, [], map, length, get_or}
use Rattle.dec_write.specs.Text.{block_head}
use Rattle.dec_write.proofs.text.Lines.new.Given as goal

abbrev pub invariant-loop-block : goal.invariant-loop-block
invariant-loop-block l = record {
  each : length l.heads.items ≡ l.block;
  heads : (k : ℕ) → k < l.block → get_or (map (λ line. line.items) l.heads.items) k [] ≡ block_head k;
}
