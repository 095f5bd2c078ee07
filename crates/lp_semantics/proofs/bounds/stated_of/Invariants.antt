use Rattle.std.proofs.Common.{◌≡◌, take, fold, vec_len, length, replicate}
use Rattle.lp_syntax.specs.TreeIn.{part_in}
use Rattle.lp_semantics.specs.Numbered.{say_part, unsaid}
use Rattle.lp_semantics.proofs.bounds.stated_of.Given as goal

abbrev pub invariant-loop-part : goal.invariant-loop-part
invariant-loop-part l =
    (l.table.items ≡ fold (λ t p. say_part l.names t (part_in l.text p)) (replicate (length l.names) unsaid) (take l.part-index l.parts))
    × (vec_len l.table ≡ length l.names)
