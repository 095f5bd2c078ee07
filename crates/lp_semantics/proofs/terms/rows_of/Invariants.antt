use Rattle.std.proofs.Common.{◌≡◌, take, map}
use Rattle.lp_syntax.specs.TreeIn.{row_in}
use Rattle.lp_semantics.specs.Numbered.{raw_row}
use Rattle.lp_semantics.proofs.terms.rows_of.Given as goal

abbrev pub invariant-loop-row : goal.invariant-loop-row
invariant-loop-row l = l.made ≡ map (λ r. raw_row l.names (row_in l.text r)) (take l.row-index l.rows)
