use Rattle.std.proofs.Common.{◌≡◌, take, fold, vec_len}
use Rattle.lp_syntax.specs.TreeIn.{bound_in}
use Rattle.lp_semantics.specs.Numbered.{say_bound}
use Rattle.lp_semantics.proofs.bounds.note_bounds.Given as goal

abbrev pub invariant-loop-bound : goal.invariant-loop-bound
invariant-loop-bound l =
    (l.table.items ≡ fold (λ t b. say_bound l.names t (bound_in l.text b)) l.initial.table.items (take l.bound-index l.bounds))
    × (vec_len l.table ≡ vec_len l.initial.table)
