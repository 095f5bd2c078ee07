use Rattle.std.proofs.Common.{◌≡◌, ℕ, take}
use Rattle.std.specs.Prelude.{pos, ◌+ℤ◌, ◌*ℤ◌, unwrap_or}
use Rattle.std.specs.Ordering.{nat_cmp}
use Rattle.std.specs.BTreeMap.{get, IsOrdered}
use Rattle.bp_theory.specs.Program.{coefficient}
use Rattle.cut_sums.proofs.combine.add_terms.Given as goal

abbrev pub invariant-loop-term : goal.invariant-loop-term
invariant-loop-term l = record {
  sums : (v : ℕ) → unwrap_or (get nat_cmp l.sums v) (pos 0)
      ≡ unwrap_or (get nat_cmp l.initial.sums v) (pos 0) +ℤ l.mult *ℤ coefficient (take l.term-index l.terms) v;
  ordered : IsOrdered nat_cmp l.sums;
}
