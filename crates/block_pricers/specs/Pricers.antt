-- What the pricer of a block keeps, whichever it is.
use Rattle.std.specs.Prelude.{◌≡◌, ℕ, ◌+◌, ◌^◌, ◌≤◌, ◌⊎◌, Bool, true, false, List, [], All, ℤ}
use Rattle.bp_theory.specs.declared.Span.{Span}
use Rattle.bp_theory.specs.declared.Row.{Row}
use Rattle.knap_price.specs.Kept as by_table
use Rattle.knapsack_table.specs.Rooms.{cells_of}
use Rattle.knapsack_table.specs.Taken.{IsTaken}
use Rattle.state_price.specs.Kept as by_states
use Rattle.state_graph.specs.Limits.{beginnings, IsBeyond}
use Rattle.search_price.specs.Kept as by_search
use Rattle.block_pricers.specs.Forms.{BlockForm}
use Rattle.block_pricers.specs.declared.pricers.GraphRoom.{GraphRoom}
use Rattle.block_pricers.specs.declared.pricers.BlockPricer.{BlockPricer}
use Rattle.block_pricers.specs.declared.pricers.BlockPricer.TheVariants.{Table, States, Search}

-- the rows that its points meet
abbrev pub rows_of : BlockPricer → List Row
rows_of (Table plan) = by_table.plan_rows plan
rows_of (States pricer) = by_states.rows_of pricer
rows_of (Search pricer) = by_search.rows_of pricer

-- the root spans
abbrev pub spans_of : BlockPricer → List Span
spans_of (Table plan) = by_table.plan_spans plan
spans_of (States pricer) = by_states.spans_of pricer
spans_of (Search pricer) = by_search.spans_of pricer

-- the point that it keeps
abbrev pub kept_point : BlockPricer → List ℤ
kept_point (Table plan) = by_table.plan_point plan
kept_point (States pricer) = by_states.kept_point pricer
kept_point (Search pricer) = by_search.kept_point pricer

-- so many cells are enough for a table of these rows and spans, if a table takes them
abbrev pub IsEnough : (cells : ℕ) → List Row → List Span → Type 0
IsEnough cells rows spans = IsTaken rows spans → cells_of rows spans ≤ cells

-- they are for each of these forms
abbrev pub AreEnough : (cells : ℕ) → List BlockForm → Type 0
AreEnough cells forms = All (λ (f : BlockForm). IsEnough cells f.rows f.spans) forms

-- whether it is a table
abbrev pub is_table : BlockPricer → Bool
is_table (Table plan) = true
is_table (States pricer) = false
is_table (Search pricer) = false

-- a table exactly where one takes the block
abbrev pub IsFitting : BlockPricer → Type 0
IsFitting (Table plan) = IsTaken (by_table.plan_rows plan) (by_table.plan_spans plan)
IsFitting (States pricer) = IsTaken (by_states.rows_of pricer) (by_states.spans_of pricer) → ⊥
IsFitting (Search pricer) = IsTaken (by_search.rows_of pricer) (by_search.spans_of pricer) → ⊥

-- whether it is a search
abbrev pub is_search : BlockPricer → Bool
is_search (Table plan) = false
is_search (States pricer) = false
is_search (Search pricer) = true

-- how many arcs it may take to make the graphs of a program's blocks, together, until no more are made
abbrev pub most_graph_arcs : ℕ
most_graph_arcs = 2 ^ 19

-- nothing more may be spent on graphs
abbrev pub IsSpent : GraphRoom → Type 0
IsSpent room = (room.arcs ≡ 0) ⊎ (room.declined ≡ 0)

-- what may stand in the way of a graph of a block that no table takes
abbrev pub IsUngraphed : GraphRoom → List Row → List Span → Type 0
IsUngraphed room rows spans = IsSpent room ⊎ (rows ≡ []) ⊎ IsBeyond rows spans

-- a block took no more arcs than it has beginnings, and it counts as one that no graph suits only where it may pass a limit
pub record HasSpent (before : GraphRoom) (rows : List Row) (spans : List Span) (now : GraphRoom) : Type 0 where
  pub arcs : before.arcs ≤ now.arcs + beginnings spans
  pub declined : (now.declined ≡ before.declined) ⊎ IsBeyond rows spans
