use Rattle.std.proofs.Common.{◌≡◌, ℕ, ℤ, List, Some}
use Rattle.std.specs.List.{AllByRecursion}
use Rattle.std.specs.List.Sorted.{IsStrictlySortedBy}
use Rattle.std.specs.Map.{keys_of}
use Rattle.search_laws.specs.declared.Side.{Side}
use Rattle.open_nodes.specs.Queues.{key_cmp, queue_of, LiesBelow}
use Rattle.open_nodes.proofs.queue.LeafQueue.first_below.Given as goal

abbrev pub invariant-loop-key : goal.invariant-loop-key
invariant-loop-key l =
    AllByRecursion (λ (e : (ℤ × ℕ) × List Side). queue_of l.self e.0.0 e.0.1 ≡ Some e.1) l.key-iterator
    × ((z : ℤ) (n : ℕ) (path : List Side) → queue_of l.self z n ≡ Some path → LiesBelow l.above path → queue_of l.key-iterator z n ≡ Some path)
    × IsStrictlySortedBy key_cmp (keys_of l.key-iterator)
