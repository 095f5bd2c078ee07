use Rattle.std.proofs.Common.{◌≡◌, ℕ, ℤ, List, Some}
use Rattle.std.specs.List.{AllByRecursion}
use Rattle.search_laws.specs.declared.Side.{Side}
use Rattle.open_nodes.specs.Queues.{queue_of}
use Rattle.open_nodes.proofs.queue.LeafQueue.key_of.Given as goal

abbrev pub invariant-loop-key : goal.invariant-loop-key
invariant-loop-key l =
    ((n : ℕ) × (queue_of l.key-iterator l.bound n ≡ Some l.path))
    × AllByRecursion (λ (e : (ℤ × ℕ) × List Side). queue_of l.self e.0.0 e.0.1 ≡ Some e.1) l.key-iterator
