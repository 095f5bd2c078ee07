use Rattle.std.specs.List.{IsDistinct}
use Rattle.std.specs.Ordering.{int_eq}
use Rattle.std.specs.Cmp.Lexicographic.{pointwise}
use Rattle.search_laws.specs.Spread.{block_at}
use Rattle.block_class.specs.Signatures.{signature, IsGrouped}
use Rattle.block_class.proofs.group.grouped.Given as goal

abbrev pub invariant-loop-k : goal.invariant-loop-k
invariant-loop-k l = record {
  grouped : IsGrouped (λ j. signature l.zone (block_at l.b.blocking j)) l.k l.signatures l.classes.items l.firsts.items;
  distinct : IsDistinct (pointwise int_eq) l.signatures;
}
