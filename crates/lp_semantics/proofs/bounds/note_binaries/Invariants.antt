use Rattle.std.proofs.Common.{◌≡◌, take, fold, vec_len}
use Rattle.lp_syntax.specs.TreeIn.{name_in}
use Rattle.lp_semantics.specs.Numbered.{list_binary}
use Rattle.lp_semantics.proofs.bounds.note_binaries.Given as goal

abbrev pub invariant-loop-name : goal.invariant-loop-name
invariant-loop-name l =
    (l.table.items ≡ fold (λ t n. list_binary l.names t (name_in l.text n)) l.initial.table.items (take l.name-index l.listed))
    × (vec_len l.table ≡ vec_len l.initial.table)
