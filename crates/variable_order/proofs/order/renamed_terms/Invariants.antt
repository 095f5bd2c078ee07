use Rattle.std.proofs.Common.{◌≡◌, map, take}
use Rattle.variable_order.specs.Orders.{term_by}
use Rattle.variable_order.proofs.order.renamed_terms.Given as goal

abbrev pub invariant-loop-term : goal.invariant-loop-term
invariant-loop-term l = l.renamed.items ≡ map (term_by l.places.items) (take l.term-index l.terms)
