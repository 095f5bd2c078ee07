use Rattle.std.proofs.Common.{All, ◌<◌, length}
use Rattle.search_laws.specs.declared.UsedColumn.{UsedColumn}
use Rattle.node_heuristics.proofs.hint.used_columns.Given as goal

abbrev pub invariant-loop-column : goal.invariant-loop-column
invariant-loop-column l = All (λ (u : UsedColumn). u.class < length l.classes.firsts) l.used.items
