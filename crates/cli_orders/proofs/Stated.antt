-- What the subcommand that was met states.
use Rattle.std.proofs.Common.{◌≡◌, ◌∙◌, refl, subst, ap, true, ℕ, [], arith, List, Option, Some, None, codes}
use Rattle.std.specs.Prelude.{◌≤◌, Result, Ok, Err, IfOk, IfSome, IsSome}
use Rattle.clap.specs.Words.{App, Row, Text, first_of, fault_of, is_simple_and_free, subcommand_of}
use Rattle.cli_orders.specs.declared.order.Order.{Order}
use Rattle.cli_orders.specs.declared.order.WordFault.{WordFault}
use Rattle.cli_orders.specs.declared.order.Order.TheVariants.{Solve, Check, Show, Gen, Demo, Detect, Propose, Merge, Migrate}
use Rattle.cli_orders.specs.CommandLine.{command_line, most_leaf, most_seed, most_cuts, most_steps, most_workers}
use Rattle.cli_orders.specs.Orders.{MayHaveNumber, HasCount, GoTogether, IsInRange, IsStated, IsOrderOf}
use Rattle.cli_orders.proofs.Line.{line_is_free}

-- a number that may be given is in its range
within : (given : Option Text) (low high : ℕ) (n : Option ℕ) → MayHaveNumber given low high n → IfSome n (λ k. (low ≤ k) × (k ≤ high))
within given low high None has = tt
within given low high (Some n) has = (has.2.least, has.2.most)

-- a count is in its range
counted : (given : Option Text) (high n : ℕ) → HasCount given high n → n ≤ high
counted None high n has = omega arith
counted (Some text) high n has = has.most

-- a number is not there without its text
none_without : (given : Option Text) (low high : ℕ) (n : Option ℕ) → given ≡ None → MayHaveNumber given low high n → n ≡ None
none_without given low high None none has = refl
none_without given low high (Some n) none has = let text = has.1 in absurd (cc)

-- a leaf goes with a certificate to go on from, and without a crew
together : (named start crew turns : Option Text) (leaf : Option ℕ) (from : Option Text) (workers order : Option ℕ) → MayHaveNumber named 1 most_leaf leaf
    → start ≡ from → MayHaveNumber crew 1 most_workers workers → MayHaveNumber turns 0 most_seed order → GoTogether named start crew turns
    → IfSome leaf (λ k. (1 ≤ k) × IsSome from × (workers ≡ None) × (order ≡ None))
together named start crew turns None from workers order leaf_is from_is workers_is order_is placed = tt
together named start crew turns (Some k) from workers order leaf_is from_is workers_is order_is placed =
    let both : GoTogether (Some leaf_is.0) start crew turns = subst (λ (o : Option Text). GoTogether o start crew turns) leaf_is.1 placed in (
      leaf_is.2.least,
      subst (λ (o : Option Text). IsSome o) from_is both.0,
      none_without crew 1 most_workers workers both.1 workers_is,
      none_without turns 0 most_seed order both.2 order_is,
    )

-- the numbers of a stated order are in their ranges
in_range : (met : Option (Text × List Row)) (order : Order) → IsStated met order → IsInRange order
in_range met (Solve given) stated = (
  at_most given.steps (within (first_of (codes "steps") stated.rows) 0 most_steps given.steps stated.values.3),
  within (first_of (codes "workers") stated.rows) 1 most_workers given.workers stated.values.7,
  together (first_of (codes "leaf") stated.rows) (first_of (codes "from") stated.rows) (first_of (codes "workers") stated.rows)
      (first_of (codes "order") stated.rows) given.leaf given.from given.workers given.order stated.values.6 stated.values.5 stated.values.7 stated.values.8 stated.values.9.leaf,
  counted (first_of (codes "cuts") stated.rows) most_cuts given.cuts stated.values.10,
) where
  at_most : (n : Option ℕ) → IfSome n (λ k. (0 ≤ k) × (k ≤ most_steps)) → IfSome n (λ k. k ≤ most_steps)
  at_most None is = tt
  at_most (Some n) is = is.1
in_range met (Check given) stated = tt
in_range met (Show lp dec blocks classes limits) stated = tt
in_range met (Gen seed size lp dec) stated = (stated.values.2.2.least, stated.values.2.2.most)
in_range met (Demo seed size) stated = (stated.values.2.2.least, stated.values.2.2.most)
in_range met (Detect lp list dec limits) stated = tt
in_range met (Propose lp dec limits) stated = tt
in_range met (Merge given) stated = tt
in_range met (Migrate lp cert new dec limits) stated = tt

pub in_range_if_ok : (met : Option (Text × List Row)) (r : Result Order WordFault) → IfOk r (IsStated met) → IfOk r IsInRange
in_range_if_ok met (Ok order) stated = in_range met order stated
in_range_if_ok met (Err fault) stated = tt

-- what is stated by words without fault is their order
order_of : (words : List Text) (met : Option (Text × List Row)) (order : Order) → IsStated met order → met ≡ subcommand_of command_line words → fault_of command_line words ≡ []
    → IsOrderOf words order
order_of words met order stated same none = record {
  taken = none;
  stated = subst (λ (m : Option (Text × List Row)). IsStated m order) same stated;
}

pub order_if_ok : (app : App) (words : List Text) (met : Option (Text × List Row)) (r : Result Order WordFault) → IfOk r (IsStated met) → app ≡ command_line
    → met ≡ subcommand_of command_line words → (is_simple_and_free app ≡ true → fault_of app words ≡ []) → IfOk r (IsOrderOf words)
order_if_ok app words met (Ok order) stated same as_met none =
    order_of words met order stated as_met (subst (λ (a : App). fault_of a words ≡ []) same (none (ap is_simple_and_free same ∙ line_is_free)))
order_if_ok app words met (Err fault) stated same as_met none = tt
