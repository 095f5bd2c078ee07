use Rattle.std.proofs.Common.{◌≡◌, ℕ, ◌*◌, ◌≤◌, ◌^◌, take}
use Rattle.std.specs.Prelude.{pos, unwrap_or, unsigned_abs}
use Rattle.std.specs.Ordering.{nat_cmp}
use Rattle.std.specs.BTreeMap.{get, IsOrdered}
use Rattle.bp_theory.specs.Program.{coefficient}
use Rattle.bp_model.proofs.tidy.added.Given as goal

abbrev pub invariant-loop-term : goal.invariant-loop-term
invariant-loop-term l = record {
  sums : (v : ℕ) → unwrap_or (get nat_cmp l.sums v) (pos 0) ≡ coefficient (take l.term-index l.terms) v;
  small : (v : ℕ) → unsigned_abs (unwrap_or (get nat_cmp l.sums v) (pos 0)) ≤ l.term-index * 2 ^ 63;
  ordered : IsOrdered nat_cmp l.sums;
}
