-- What desks show.
use Rattle.std.specs.Prelude.{◌≡◌, ℕ, ◌<◌, List, [], sum_by, All, IsTrue, ℤ}
use Rattle.state_graph.specs.Limits.{beginnings, IsBeyond}
use Rattle.block_pricers.specs.Forms.{BlockForm}
use Rattle.block_pricers.specs.Pricers.{rows_of, spans_of, kept_point, is_search, most_graph_arcs}
use Rattle.block_pricers.specs.declared.desk.Desk.{Desk}

-- what it is made for
abbrev pub form_of : Desk → BlockForm
form_of desk = record { rows = rows_of desk.pricer; spans = spans_of desk.pricer }

-- the point that its pricer keeps
abbrev pub priced_point : Desk → List ℤ
priced_point desk = kept_point desk.pricer

-- the graph of its blocks passes no limit
abbrev pub IsNear : Desk → Type 0
IsNear desk = IsBeyond (form_of desk).rows (form_of desk).spans → ⊥

-- how many beginnings its blocks have
abbrev pub begun_at : Desk → ℕ
begun_at desk = beginnings (form_of desk).spans

-- if it searches, its blocks have no rows
abbrev pub IsGraphed : Desk → Type 0
IsGraphed desk = IsTrue (is_search desk.pricer) → (form_of desk).rows ≡ []

-- where no graph may pass a limit, and beginnings are fewer in all than the arcs that may be spent, blocks with rows have tables and graphs
abbrev pub HaveGraphs : List Desk → Type 0
HaveGraphs desks = All IsNear desks → sum_by begun_at desks < most_graph_arcs → All IsGraphed desks
