-- The blocks that a pricer is made of, and the zones and costs that it prices.
use Rattle.std.specs.Prelude.{◌≡◌, ℕ, ◌+◌, ◌*◌, ◌^◌, ◌<◌, ◌≤◌, max, unsigned_abs, sum_by, List, [], ◌∷◌, length, ℤ, All}
use Rattle.bp_theory.specs.Limits.{number_limit, price_limit}
use Rattle.bp_theory.specs.Program.{span_at, reach}
use Rattle.bp_theory.specs.Decomposition.{HasVariablesBelow}
use Rattle.bp_theory.specs.Trees.{IsZone}
use Rattle.bp_theory.specs.declared.Span.{Span}
use Rattle.bp_theory.specs.declared.Term.{Term}
use Rattle.bp_theory.specs.declared.Row.{Row}
use Rattle.block_program.specs.Blocked.{RootBlock}

-- the greatest magnitude of a term at numbers of a span
abbrev pub term_size : List Span → Term → ℕ
term_size spans t = unsigned_abs t.coef * reach (span_at spans t.var)

-- the greatest magnitude of a row's sides together with that of its sums
abbrev pub row_size : List Span → Row → ℕ
row_size spans row = max (unsigned_abs row.low) (unsigned_abs row.rhs) + sum_by (term_size spans) row.terms

-- both ends of a span stay below 2 to the 62
pub record HasShortEnds (s : Span) : Type 0 where
  pub lo : unsigned_abs s.lo < number_limit
  pub hi : unsigned_abs s.hi < number_limit

-- rows over the places of these spans, whose sums stay below 2 to the 62
pub record IsForm (rows : List Row) (spans : List Span) : Type 0 where
  pub few_spans : length spans < 2 ^ 32
  pub few_rows : length rows < 2 ^ 32
  pub ends : All HasShortEnds spans
  pub places : All (λ row. HasVariablesBelow (length spans) row.terms) rows
  pub sizes : All (λ row. row_size spans row < number_limit) rows

-- rows and root spans are those of a block
pub record AreOf (block : RootBlock) (rows : List Row) (spans : List Span) : Type 0 where
  pub rows_same : rows ≡ block.block.rows
  pub spans_same : spans ≡ block.spans

-- the greatest magnitude of a point's cost in a zone
abbrev pub cost_size : List Span → List ℤ → ℕ
cost_size [] rs = 0
cost_size (s ∷ ss) [] = 0
cost_size (s ∷ ss) (r ∷ rs) = unsigned_abs r * reach s + cost_size ss rs

-- a zone inside the root spans in which each span has a number, and a cost for each place, of at most 2 to the 123 together
pub record IsPriceable (spans zone : List Span) (costs : List ℤ) : Type 0 where
  pub in_root : IsZone spans zone
  pub each : length costs ≡ length zone
  pub sizes : cost_size zone costs ≤ price_limit
