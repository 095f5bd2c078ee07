use Rattle.std.proofs.Common.{ltb, ltb-true, ltb-false, sym, ap, ◌∙◌, subst, ℕ, ℤ, List, pos, arith, rules}
use Rattle.std.specs.List.Sorted.{IsStrictlyIncreasing}
use Rattle.std.proofs.lemmas.List.Sorted.{IsPartitionPoint-from_clause, IsPartitionedBy-ltb, IsNonDecreasingBy-from_default}
use Rattle.cert_format.specs.Ascending.{rows_of, lower}
use Rattle.cert_format.proofs.Putting.{rises_from, rises_at, lower_is}
use Rattle.cert_parser.proofs.multipliers.Multipliers.place.Goals as goal

pub returns-clause-place : goal.returns-clause-place
returns-clause-place c =
    let ps : List (ℕ × ℤ) = c.deref.result.now in
    let A : List (ℕ × ℤ) → Type 0 = λ xs. IsStrictlyIncreasing (rows_of xs) in
    let up = rises_from (rows_of ps) (subst A (sym c.deref.ensures.value) c.args.self.now.ascend) in
    let parted = IsPartitionedBy-ltb (λ (p : ℕ × ℤ). p.0) ps c.args.row (IsNonDecreasingBy-from_default (λ (p : ℕ × ℤ). p.0) ps (0, pos 0) (λ i j le less. rises_at 0 ps i j (0, pos 0) up le less)) in
    let point = IsPartitionPoint-from_clause (λ p. ltb p.0 c.args.row) _ _ c.partition_point.ensures.partitioned parted (λ a r q k. search rules) in
    sym (lower_is c.args.row ps c.partition_point.result c.partition_point.ensures.bound (λ k d l. ltb-true _ _ (point.0 k d (omega arith) l)) (λ k d l m. ltb-false _ _ (point.1 k d l m)))
    ∙ ap (λ (xs : List (ℕ × ℤ)). lower c.args.row xs) c.deref.ensures.value
