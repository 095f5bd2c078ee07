use Rattle.std.proofs.Common.{◌≡◌, ℕ, pos, map, take}
use Rattle.std.specs.Prelude.{unwrap_or}
use Rattle.std.specs.Int.{w128, int_wrap}
use Rattle.std.specs.Ordering.{nat_cmp}
use Rattle.std.specs.BTreeMap.{get, IsOrdered}
use Rattle.bp_theory.specs.Sums.{dot}
use Rattle.bp_theory.specs.Blocking.{Copy, coef_in}
use Rattle.col_pool.proofs.activities.sums_of.Given as goal

abbrev pub invariant-loop-place : goal.invariant-loop-place
invariant-loop-place l = record {
  sums : (row : ℕ) → unwrap_or (get nat_cmp l.sums row) (pos 0) ≡ int_wrap w128 (dot (take l.place (map (λ (c : Copy). coef_in c row) l.block.block.copies)) l.point);
  ordered : IsOrdered nat_cmp l.sums;
}
