use Rattle.std.proofs.Common.{◌≡◌, ◌≤◌, ◌++◌, ℕ, List, length, None}
use Rattle.std.specs.Slice.Iter.{chunks_rest, chunks_size}
use Rattle.cert_stream.specs.Checks.{IsMadeFor, ChecksFor}
use Rattle.cmd_demo.proofs.judge_text.Given as goal

-- the text that was fed, and what is left of it
abbrev pub invariant-loop-piece : goal.invariant-loop-piece
invariant-loop-piece l =
    goal.iterator-loop-piece.can_next l.piece-iterator × goal.iterator-loop-piece.is_finite l.piece-iterator × (chunks_size l.piece-iterator ≡ 4096)
    × IsMadeFor l.b l.checker × ((fed : List ℕ) × ChecksFor l.b None l.checker fed × (l.checker.fed ≤ length fed) × (fed ++ chunks_rest l.piece-iterator ≡ l.text))
