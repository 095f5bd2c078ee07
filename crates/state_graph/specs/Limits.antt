-- The limits of a graph, and the blocks that may pass one. A layer has no more states than there are assignments to the variables before it, and no more arcs than there are those with one number
-- more: where states are one, or rows leave nothing, it has fewer. How many fewer is not told here, so a block that may pass a limit may have a graph all the same.
use Rattle.std.specs.Prelude.{◌≡◌, ℕ, ◌-◌, ◌*◌, ◌^◌, ◌<◌, ◌⊎◌, List, [], length}
use Rattle.bp_theory.specs.Program.{span_at}
use Rattle.bp_theory.specs.Classes.{width, prefixes}
use Rattle.bp_theory.specs.declared.Span.{Span}
use Rattle.bp_theory.specs.declared.Row.{Row}
use Rattle.pricing_problem.specs.Priced.{HasNoPoint}

-- the most arcs of a graph before its nodes are merged
abbrev pub most_arcs : ℕ
most_arcs = 2 ^ 18

-- the most windows that the arcs of a layer lead to: for each arc one of each row
abbrev pub most_windows : ℕ
most_windows = 2 ^ 22

-- the most nodes of a graph, as if each layer had as many as the widest
abbrev pub most_nodes : ℕ
most_nodes = 2 ^ 21

-- the most coefficients of a block, zeros counted
abbrev pub most_coefs : ℕ
most_coefs = 2 ^ 20

-- the most numbers of a variable
abbrev pub most_numbers : ℕ
most_numbers = 4096

-- the beginnings of assignments to spans that have a number: no graph of states has more arcs
abbrev pub beginnings : List Span → ℕ
beginnings spans = prefixes spans - 1

-- so many arcs are more than a graph of so many rows may have, or than one of its layers
abbrev pub AreManyArcs : (rows arcs : ℕ) → Type 0
AreManyArcs rows arcs = (most_arcs < arcs) ⊎ (most_windows < arcs * rows)

-- an arc for each beginning would be
abbrev pub HasManyArcs : (rows : ℕ) → List Span → Type 0
HasManyArcs rows spans = AreManyArcs rows (beginnings spans)

-- with a node for each beginning in each layer there would be more nodes than a graph may have
abbrev pub HasManyNodes : List Span → Type 0
HasManyNodes spans = most_nodes < prefixes spans * length spans

-- a variable has more numbers than it may have
abbrev pub HasLongSpan : List Span → Type 0
HasLongSpan spans = (var : ℕ) × (var < length spans) × (most_numbers < width (span_at spans var))

-- a block without variables has no point
abbrev pub IsBare : List Row → List Span → Type 0
IsBare rows spans = (spans ≡ []) × HasNoPoint rows spans

-- a graph with an arc for each beginning would pass a limit, or there is nothing to make a graph of
abbrev pub IsBeyond : List Row → List Span → Type 0
IsBeyond rows spans =
    (most_coefs < length rows * length spans) ⊎ HasLongSpan spans ⊎ HasManyArcs (length rows) spans ⊎ HasManyNodes spans ⊎ IsBare rows spans
