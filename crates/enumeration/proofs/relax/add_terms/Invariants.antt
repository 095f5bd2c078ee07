use Rattle.std.proofs.Common.{◌≡◌, take, vec_len, length, List, ◌+ℤ◌}
use Rattle.std.proofs.Math.IntN.{ℤ, ◌*ℤ◌}
use Rattle.bp_theory.specs.Sums.{dot}
use Rattle.bp_theory.specs.Program.{activity}
use Rattle.enumeration.proofs.relax.add_terms.Given as goal

abbrev pub invariant-loop-term : goal.invariant-loop-term
invariant-loop-term l = record {
  len : vec_len l.costs ≡ vec_len l.initial.costs;
  added : (y : List ℤ) → length y ≡ vec_len l.initial.costs
      → dot l.costs.items y ≡ dot l.initial.costs.items y +ℤ l.factor *ℤ activity (take l.term-index l.terms) y;
}
