use Rattle.std.proofs.Common.{◌≡◌, ℕ, take}
use Rattle.std.specs.Prelude.{pos, unwrap_or}
use Rattle.std.specs.Ordering.{nat_cmp}
use Rattle.std.specs.BTreeMap.{get, IsOrdered}
use Rattle.cut_sums.specs.Rows.{rows_in, sum_in}
use Rattle.cut_sums.proofs.combine.combined.Given as goal

abbrev pub invariant-loop-mult : goal.invariant-loop-mult
invariant-loop-mult l = record {
  sums : (v : ℕ) → unwrap_or (get nat_cmp l.sums v) (pos 0) ≡ sum_in (rows_in l.rows) (take l.mult-index l.mults) v;
  ordered : IsOrdered nat_cmp l.sums;
}
