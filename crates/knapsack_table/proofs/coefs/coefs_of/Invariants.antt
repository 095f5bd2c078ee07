use Rattle.std.proofs.Common.{◌≡◌, ℕ, take, get_or, pos, length, vec_len}
use Rattle.bp_theory.specs.Program.{coefficient}
use Rattle.knapsack_table.proofs.coefs.coefs_of.Given as goal

abbrev pub invariant-loop-term : goal.invariant-loop-term
invariant-loop-term l = record {
  len : vec_len l.coefs ≡ length l.spans;
  sums : (j : ℕ) → get_or l.coefs.items j (pos 0) ≡ coefficient (take l.term-index l.terms) j;
}
