-- How large the sums of a bound can be.
use Rattle.std.specs.Prelude.{ℕ, ◌+◌, ◌<◌, ◌≤◌, unsigned_abs, sum_by, List, map, length, ℤ, pos, ◌*ℤ◌, All}
use Rattle.bp_theory.specs.Limits.{greatest_multiplier, greatest_scale, most_cuts, most_lines, most_variables, number_limit, price_limit}
use Rattle.std.specs.List.Sorted.{IsStrictlyIncreasing}
use Rattle.bp_theory.specs.Blocking.{Copy, Block, Blocking, row_at}
use Rattle.bp_theory.specs.Bound.{spans_of, reduced_cost, side_at, end_cost, box_least}
use Rattle.bp_theory.specs.Program.{span_at}
use Rattle.bp_theory.specs.declared.Limits.TheVariants.{Large}
use Rattle.bp_theory.specs.declared.Span.{Span}
use Rattle.bp_theory.specs.declared.Proof.{Proof}
use Rattle.pricing_problem.specs.Form.{cost_size}

-- the most rows that proofs may name: a model's with the link rows, and cuts
abbrev pub most_named_rows : ℕ
most_named_rows = most_lines Large + most_cuts

-- a copy has a cost and coefficients of numbers of a model, and no more of them than rows that proofs may name
pub record IsSmallCopy (c : Copy) : Type 0 where
  pub cost : unsigned_abs c.cost < number_limit
  pub few : length c.coefs ≤ most_named_rows
  pub coefs : All (λ e. unsigned_abs e.1 < number_limit) c.coefs

-- a proof's scale and multipliers keep their limits, there are no more of them than rows that proofs may name, and their rows ascend
pub record IsSmallProof (proof : Proof) : Type 0 where
  pub scale : proof.scale ≤ greatest_scale
  pub sizes : All (λ m. unsigned_abs m.1 ≤ greatest_multiplier) proof.mults
  pub few : length proof.mults ≤ most_named_rows
  pub ascend : IsStrictlyIncreasing (map (λ m. m.0) proof.mults)

-- the reduced costs of a block's copies
abbrev pub reduced_costs : Proof → Block → List ℤ
reduced_costs proof block = map (reduced_cost proof) block.copies

-- the least of a copy's reduced cost over its span in a zone
abbrev pub copy_least : List Span → Proof → Copy → ℤ
copy_least zone proof c = end_cost (span_at zone c.var) (reduced_cost proof c)

-- the least of a block's reduced costs over its box in a zone
abbrev pub block_least : List Span → Proof → Block → ℤ
block_least zone proof block = box_least (spans_of zone block) (reduced_costs proof block)

-- the greatest magnitude of a reduced cost over the numbers of a block's spans in a zone
abbrev pub block_size : List Span → Proof → Block → ℕ
block_size zone proof block = cost_size (spans_of zone block) (reduced_costs proof block)

-- the greatest magnitude of what a proof gives before the blocks
abbrev pub base_size : Blocking → Proof → ℕ
base_size b proof =
    unsigned_abs (pos proof.scale *ℤ b.constant) + sum_by (λ m. unsigned_abs (m.1 *ℤ side_at (row_at b m.0) m.1)) proof.mults

-- a block's copies are small, no more than a model has variables, and in the zone, and its reduced costs keep the limit of
-- prices together
pub record IsSmallBlock (zone : List Span) (proof : Proof) (block : Block) : Type 0 where
  pub copies : All IsSmallCopy block.copies
  pub few : length block.copies ≤ most_variables Large
  pub there : All (λ c. c.var < length zone) block.copies
  pub size : block_size zone proof block ≤ price_limit

-- how large all sums of a bound can be together
abbrev pub bound_size : Blocking → List Span → Proof → ℕ
bound_size b zone proof = base_size b proof + sum_by (block_size zone proof) b.blocks
