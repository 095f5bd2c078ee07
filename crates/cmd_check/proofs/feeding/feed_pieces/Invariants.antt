use Rattle.std.proofs.Common.{◌≡◌, ◌≤◌, ◌+◌, ◌-◌, ◌^◌, ◌<◌, ℕ, [], Option, None, length}
use Rattle.cert_stream.specs.Checks.{IsMadeFor, ChecksFor}
use Rattle.cmd_check.proofs.Fronts.{HasRead}
use Rattle.cmd_check.proofs.feeding.feed_pieces.Given as goal

-- the file and the count of faults are as at first, and the checker stands for the pieces that came, without such a fault
abbrev pub invariant-reads : goal.invariant-reads
invariant-reads g l = record {
  told : g.P.Pieces.tells l.pieces ≡ g.P.Pieces.tells l.fn.pieces;
  same : g.P.Pieces.file l.pieces ≡ g.P.Pieces.file l.fn.pieces;
  faults : g.P.Pieces.faults l.pieces ≡ g.P.Pieces.faults l.fn.pieces;
  made_for : IsMadeFor l.b l.checker;
  fed : l.checker.fed ≤ g.P.Pieces.given l.pieces;
  faultless : l.checker.fault ≡ None;
  read : (visits : Option ℕ) → ChecksFor l.b visits l.fn.checker []
      → HasRead g.P.Pieces.asks (g.P.Pieces.tells l.fn.pieces) (g.P.Pieces.file l.fn.pieces) l.b visits l.checker l.fn.pieces l.pieces (g.P.Pieces.given l.pieces);
  room : length l.buffer ≡ 65536;
  near : g.P.Pieces.given l.pieces < 2 ^ 62 + 65536;
}

-- each piece but the last has a byte
abbrev pub decreases-reads : goal.decreases-reads
decreases-reads g l = 2 ^ 62 + 65536 - g.P.Pieces.given l.pieces
