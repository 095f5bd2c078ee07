-- The bytes of generated assignment problems: 4 agents, a number of jobs, weights, costs and capacities from a seed.
use Rattle.std.specs.Prelude.{ℕ, zero, suc, ◌+◌, ◌*◌, ◌/◌, ◌%◌, ◌^◌, List, [], ◌++◌, map, sum, codes, decimal, slice_index, slice_range}
use Rattle.std.specs.List.{range_with_len, flat_map}

-- the state behind one more draw
abbrev pub next_state : ℕ → ℕ
next_state t = (t * 6364136223846793005 + 1442695040888963407) % 2 ^ 64

-- the state behind so many draws from a seed
abbrev pub state_after : ℕ → ℕ → ℕ
state_after seed zero = seed
state_after seed (suc n) = next_state (state_after seed n)

-- the draw of a number, from 0
abbrev pub draw : ℕ → ℕ → ℕ
draw seed n = state_after seed (suc n) / 2 ^ 33

-- the place of an agent's job among all, where both count from 0
abbrev pub place : ℕ → ℕ → ℕ → ℕ
place size agent job = agent * size + job

-- what jobs weigh and cost, by their places: two draws for each
abbrev pub weight_at : ℕ → ℕ → ℕ
weight_at seed k = 5 + draw seed (2 * k) % 21

abbrev pub cost_at : ℕ → ℕ → ℕ
cost_at seed k = 10 + draw seed (2 * k + 1) % 41

-- the weights and the costs of all agents' jobs
abbrev pub weights : ℕ → ℕ → List ℕ
weights seed size = map (weight_at seed) (range_with_len 0 (4 * size))

abbrev pub costs : ℕ → ℕ → List ℕ
costs seed size = map (cost_at seed) (range_with_len 0 (4 * size))

-- four fifths of a fourth of an agent's weights
abbrev pub capacity : List ℕ → ℕ → ℕ → ℕ
capacity ws size agent = sum (slice_range ws (agent * size) (agent * size + size)) / 5

-- the name of an agent's job's variable, where both count from 0
abbrev pub variable : ℕ → ℕ → List ℕ
variable agent job = codes "x" ++ decimal (agent + 1) ++ codes "_" ++ decimal (job + 1)

-- what stands before a term: nothing before the first, else a plus
abbrev pub plus_before : ℕ → List ℕ
plus_before zero = []
plus_before (suc n) = codes " + "

-- a number and a variable
abbrev pub product : ℕ → ℕ → ℕ → List ℕ
product number agent job = decimal number ++ codes " " ++ variable agent job

-- the terms of an agent's costs
abbrev pub cost_terms : List ℕ → ℕ → ℕ → List ℕ
cost_terms cs size agent =
    flat_map (λ job. plus_before (place size agent job) ++ product (slice_index cs (place size agent job)) agent job) (range_with_len 0 size)

-- the line of the objective
abbrev pub objective_line : List ℕ → ℕ → List ℕ
objective_line cs size = codes " obj: " ++ flat_map (cost_terms cs size) (range_with_len 0 4) ++ codes "\n"

-- an agent's variable of a job, behind a plus but for the first
abbrev pub choice : ℕ → ℕ → List ℕ
choice job agent = plus_before agent ++ variable agent job

-- the row that gives a job to one agent
abbrev pub job_line : ℕ → List ℕ
job_line job =
    codes " job" ++ decimal (job + 1) ++ codes ": "
    ++ flat_map (choice job) (range_with_len 0 4)
    ++ codes " = 1\n"

-- the terms of an agent's weights
abbrev pub weight_terms : List ℕ → ℕ → ℕ → List ℕ
weight_terms ws size agent =
    flat_map (λ job. plus_before job ++ product (slice_index ws (place size agent job)) agent job) (range_with_len 0 size)

-- the row that keeps an agent's capacity
abbrev pub capacity_line : List ℕ → ℕ → ℕ → List ℕ
capacity_line ws size agent =
    codes " cap" ++ decimal (agent + 1) ++ codes ": "
    ++ weight_terms ws size agent
    ++ codes " <= " ++ decimal (capacity ws size agent) ++ codes "\n"

-- a variable's name behind a space
abbrev pub spaced : ℕ → ℕ → List ℕ
spaced agent job = codes " " ++ variable agent job

-- the names of an agent's variables
abbrev pub names_line : ℕ → ℕ → List ℕ
names_line size agent = flat_map (spaced agent) (range_with_len 0 size) ++ codes "\n"

-- the LP text of a seed and a number of jobs
abbrev pub lp_text : ℕ → ℕ → List ℕ
lp_text seed size =
    codes "Minimize\n" ++ objective_line (costs seed size) size
    ++ codes "Subject To\n" ++ flat_map job_line (range_with_len 0 size) ++ flat_map (capacity_line (weights seed size) size) (range_with_len 0 4)
    ++ codes "Binaries\n" ++ flat_map (names_line size) (range_with_len 0 4)
    ++ codes "End\n"

-- the block of an agent
abbrev pub block_lines : ℕ → List ℕ
block_lines agent = codes "BLOCK " ++ decimal (agent + 1) ++ codes "\ncap" ++ decimal (agent + 1) ++ codes "\n"

-- the name of a job's row
abbrev pub master_line : ℕ → List ℕ
master_line job = codes "job" ++ decimal (job + 1) ++ codes "\n"

-- the DEC text of a number of jobs: a block for each agent, and the jobs as master rows
abbrev pub dec_text : ℕ → List ℕ
dec_text size =
    codes "NBLOCKS 4\n" ++ flat_map block_lines (range_with_len 0 4)
    ++ codes "MASTERCONSS\n" ++ flat_map master_line (range_with_len 0 size)
