use Rattle.std.proofs.Common.{◌≡◌, vec_len}
use Rattle.cert_parser.specs.Readers.{waits_behind, root_behind}
use Rattle.cert_parser.specs.Builders.{waits_of, root_of}
use Rattle.cert_parser.proofs.reader.Reader.complete.Given as goal

abbrev pub invariant-loop-pending : goal.invariant-loop-pending
invariant-loop-pending l =
    (waits_behind (waits_of l.self.pending.items) (root_of l.tree) ≡ waits_behind (waits_of l.initial.self.pending.items) (root_of l.initial.tree))
    × (root_behind (waits_of l.self.pending.items) (root_of l.self.root) (root_of l.tree) ≡ root_behind (waits_of l.initial.self.pending.items) (root_of l.initial.self.root) (root_of l.initial.tree))
    × (l.self.cuts ≡ l.initial.self.cuts)
    × (l.self.lines ≡ l.initial.self.lines)

abbrev pub decreases-loop-pending : goal.decreases-loop-pending
decreases-loop-pending l = vec_len l.self.pending
