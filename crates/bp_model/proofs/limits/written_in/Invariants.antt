use Rattle.std.proofs.Common.{◌≡◌, ◌*◌, ◌≤◌, ◌^◌, take, length, sum_by}
use Rattle.bp_model.proofs.limits.written_in.Given as goal

abbrev pub invariant-loop-row : goal.invariant-loop-row
invariant-loop-row l = record {
  terms : l.sum ≡ sum_by (λ row. length row.terms) (take l.row-index l.rows);
  few : l.sum ≤ 2 ^ 64 * l.row-index;
}
