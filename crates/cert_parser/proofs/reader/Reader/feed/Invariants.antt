use Rattle.std.proofs.Common.{ℕ, List, ◌++◌, ◌+◌, ◌<◌, ◌^◌, length, take}
use Rattle.cert_parser.specs.Builders.{Builds}
use Rattle.cert_parser.proofs.reader.Reader.feed.Given as goal

abbrev pub invariant-loop-byte : goal.invariant-loop-byte
invariant-loop-byte l = (text : List ℕ) → length text + length l.piece < 2 ^ 64 → Builds l.frame l.initial.self text → Builds l.frame l.self (text ++ take l.byte-index l.piece)
