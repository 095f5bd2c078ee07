use Rattle.std.proofs.Common.{◌≡◌, ℕ, ◌<◌, take, map, None}
use Rattle.lp_semantics.specs.Meaning.{span_of}
use Rattle.lp_semantics.specs.Numbered.{ends_in, fault_in, stated_at}
use Rattle.lp_semantics.proofs.spans.spans_of.Given as goal

abbrev pub invariant-loop-number : goal.invariant-loop-number
invariant-loop-number l =
    (l.spans ≡ map (λ s. span_of (ends_in s)) (take l.number l.table))
    × ((k : ℕ) → k < l.number → fault_in (stated_at l.table k) ≡ None)
