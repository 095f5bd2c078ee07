use Rattle.std.proofs.Common.{◌≡◌, ℕ, ◌+◌, List, ◌++◌, take, Option, None}
use Rattle.cert_stream.specs.Checks.{IsMadeFor, ChecksFor}
use Rattle.cert_stream.proofs.checker.Checker.feed.Given as goal

abbrev pub invariant-loop-byte : goal.invariant-loop-byte
invariant-loop-byte l =
    IsMadeFor l.b l.self × (l.self.fault ≡ None) × (l.self.fed ≡ l.initial.self.fed + l.byte-index)
    × ((visits : Option ℕ) (text : List ℕ) → ChecksFor l.b visits l.initial.self text → ChecksFor l.b visits l.self (text ++ take l.byte-index l.piece))
