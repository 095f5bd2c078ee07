use Rattle.std.proofs.Common.{ℕ, ◌≤◌, List}
use Rattle.cert_stream.specs.Checks.{IsMadeFor, ChecksFor}
use Rattle.test_io.proofs.pieces.by_bytes.Given as goal

abbrev pub invariant-loop-byte : goal.invariant-loop-byte
invariant-loop-byte l = IsMadeFor l.b l.checker × (l.checker.fed ≤ l.byte-index) × ((text : List ℕ) × ChecksFor l.b l.fn.visits l.checker text)
