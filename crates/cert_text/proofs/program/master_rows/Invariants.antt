use Rattle.std.proofs.Common.{◌≡◌, map}
use Rattle.std.specs.Prelude.{is_some}
use Rattle.std.specs.List.{range_with_len}
use Rattle.bp_theory.specs.Blocking.{row_at}
use Rattle.cert_text.proofs.program.master_rows.Given as goal

abbrev pub invariant-loop-row : goal.invariant-loop-row
invariant-loop-row l = l.masters ≡ map (λ row. is_some (row_at l.b.blocking row)) (range_with_len 0 l.row)
