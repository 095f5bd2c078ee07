use Rattle.std.proofs.Common.{◌≡◌, vec_len}
use Rattle.enumeration.specs.Relax.{IsUndercut}
use Rattle.enumeration.proofs.relax.adjust.Given as goal

abbrev pub invariant-loop-row : goal.invariant-loop-row
invariant-loop-row l = record {
  len : vec_len l.relaxed.costs ≡ vec_len l.form.spans;
  below : IsUndercut l.form.rows.items l.zone l.costs l.relaxed;
}
