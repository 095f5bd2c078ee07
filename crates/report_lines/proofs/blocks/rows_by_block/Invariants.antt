use Rattle.std.proofs.Common.{◌≡◌, ℕ, ◌<◌, [], vec_len, get_or}
use Rattle.report_lines.proofs.BlockRows.{rows_below}
use Rattle.report_lines.proofs.blocks.rows_by_block.Given as goal

-- the rows so far, by their blocks
abbrev pub invariant-loop-row : goal.invariant-loop-row
invariant-loop-row l = record {
  each : vec_len l.all ≡ l.blocks;
  rows : (k : ℕ) → k < l.blocks → get_or l.all.items k [] ≡ rows_below l.places l.row k;
}
