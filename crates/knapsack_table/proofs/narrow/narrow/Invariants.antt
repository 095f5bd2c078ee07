use Rattle.std.proofs.Common.{◌≡◌, ◌<◌, ℕ, get_or, pos, length, vec_len}
use Rattle.bp_theory.specs.Program.{span_at}
use Rattle.bp_theory.specs.declared.Span.{Span}
use Rattle.knapsack_table.specs.Narrowed.{narrowed_span}
use Rattle.knapsack_table.proofs.narrow.narrow.Given as goal

abbrev pub invariant-loop-k : goal.invariant-loop-k
invariant-loop-k l = record {
  many : vec_len l.part ≡ length l.zone;
  part : (i : ℕ) (d : Span) → i < l.k → get_or l.part.items i d ≡ narrowed_span l.row.sense (get_or l.coefs i (pos 0)) (span_at l.zone i) (get_or l.costs i (pos 0));
}
