use Rattle.std.proofs.Common.{◌≡◌, take}
use Rattle.cert_format.specs.Cert.{changed}
use Rattle.cert_parser.proofs.multipliers.Multipliers.change.Given as goal

abbrev pub invariant-loop-pair : goal.invariant-loop-pair
invariant-loop-pair l = l.self.pairs.items ≡ changed l.initial.self.pairs.items (take l.pair-index l.changes)
